-- What the accessors' answers stand for in the graph (document 01: kinds of values and of terminators).
use Rattle.std.specs.Prelude.{ℕ, length}
use Rattle.meaning.specs.Graph as graph
use Rattle.meaning.specs.Graph.{Instr, ControlInst, edges_of}
use Rattle.format.specs.Read.{control_inst, terminator_unreachable, terminator_return, terminator_exit, terminator_branch, terminator_bool}
use Rattle.format.specs.Read.{terminator_number}
use Rattle.format.specs.References.{values_of}
use Rattle.fields.specs.declared.shape.Value.{Value}
use Rattle.fields.specs.declared.shape.Value.TheVariants.{Const, Input, Instr as Output, Bool as Truth, Undef, Nothing}
use Rattle.fields.specs.declared.shape.Instruction.{Instruction}
use Rattle.fields.specs.declared.shape.Terminator.{Terminator}
use Rattle.fields.specs.declared.shape.Terminator.TheVariants.{Unreachable, Return, ExitInvocation, Branch, SelectBool, SelectNumber}

-- Kinds 0, 1, 2, 4 and 5. `Nothing` is what names nothing.
abbrev pub value_is : Value → graph.Value
value_is (Const i) = graph.Value.const i
value_is (Input r k) = graph.Value.input r k
value_is (Output r k) = graph.Value.instr r k
value_is (Truth b) = graph.Value.bool b
value_is (Undef t) = graph.Value.undef t
value_is Nothing = graph.Value.no_value

-- Opcode, type, cost and the number of reads.
abbrev pub instruction_is : Instr → Instruction
instruction_is i = record { opcode = i.opcode; ty = i.type; cost = i.cost; reads = length i.reads }

-- The number of a kind of terminator, and the opcode that ExitInvocation has.
abbrev pub kind_is : Terminator → ℕ
kind_is Unreachable = terminator_unreachable
kind_is Return = terminator_return
kind_is (ExitInvocation op) = terminator_exit
kind_is Branch = terminator_branch
kind_is SelectBool = terminator_bool
kind_is SelectNumber = terminator_number

abbrev pub opcode_is : Terminator → ℕ
opcode_is Unreachable = 0
opcode_is Return = 0
opcode_is (ExitInvocation op) = op
opcode_is Branch = 0
opcode_is SelectBool = 0
opcode_is SelectNumber = 0

-- A terminator of the answer's kind and opcode, with the values and the edges of x.
abbrev pub terminator_is : Terminator → ControlInst → ControlInst
terminator_is t x = control_inst (kind_is t) (opcode_is t) (values_of x) (edges_of x)
