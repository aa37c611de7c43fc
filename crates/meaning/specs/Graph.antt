-- The graph that a record describes: values, instructions, regions, terminators (document 01, "store and record").
use Rattle.std.specs.Prelude.{Bool, true, false, ◌&&◌, List, [], ◌∷◌, map, ℕ, get_or, eqb}
use Rattle.meaning.specs.Lists.{bit}

-- A value. Kinds 0, 4 and 5 (constant, bool, undef) are the Rust's Value::Const; `output` and `held` arise only in nesting.
-- `output o` is the node output that was defined as number o, counted over all nodes from 0; the sheet shows its node and place.
-- `held r k` is input k of region r after the renumbering of a loop: document 01's marked input, never rewritten again; what nesting
-- answers has none.
-- `no_value` is what names nothing; only a record that the references refuse has it.
pub data Value : Type 0 where
  const : ℕ → Value
  input : ℕ → ℕ → Value
  instr : ℕ → ℕ → Value
  output : ℕ → Value
  bool : Bool → Value
  undef : ℕ → Value
  held : ℕ → ℕ → Value
  no_value : Value

-- The kinds of values (document 01, "store and record"). A marked input and what names nothing have kinds of their own, which no sheet
-- shows.
abbrev pub const_kind : ℕ
const_kind = 0

abbrev pub input_kind : ℕ
input_kind = 1

abbrev pub instr_kind : ℕ
instr_kind = 2

abbrev pub output_kind : ℕ
output_kind = 3

abbrev pub bool_kind : ℕ
bool_kind = 4

abbrev pub undef_kind : ℕ
undef_kind = 5

abbrev pub held_kind : ℕ
held_kind = 6

abbrev pub nothing_kind : ℕ
nothing_kind = 7

-- Three words of a value: kind, region, index.
pub record Code : Type 0 where
  pub kind : ℕ
  pub region : ℕ
  pub index : ℕ

abbrev pub code_of : Value → Code
code_of (const i) = record { kind = const_kind; region = 0; index = i }
code_of (input r k) = record { kind = input_kind; region = r; index = k }
code_of (instr r k) = record { kind = instr_kind; region = r; index = k }
code_of (output o) = record { kind = output_kind; region = 0; index = o }
code_of (bool b) = record { kind = bool_kind; region = 0; index = bit b }
code_of (undef t) = record { kind = undef_kind; region = 0; index = t }
code_of (held r k) = record { kind = held_kind; region = r; index = k }
code_of no_value = record { kind = nothing_kind; region = 0; index = 0 }

abbrev pub same_code : Code → Code → Bool
same_code a b = eqb a.kind b.kind && (eqb a.region b.region && eqb a.index b.index)

-- Two values are equal if all three words are.
abbrev pub same_value : Value → Value → Bool
same_value v w = same_code (code_of v) (code_of w)

-- ---- Lazy conditions made real: the Rust's materialize_lazy_cond.
abbrev pub same_values : List Value → List Value → Bool
same_values [] [] = true
same_values [] (w ∷ ws) = false
same_values (v ∷ vs) [] = false
same_values (v ∷ vs) (w ∷ ws) = same_value v w && same_values vs ws

-- An instruction: its opcode, the type of its output (0: it has none), its cost, the values it reads.
pub record Instr : Type 0 where
  pub opcode : ℕ
  pub type : ℕ
  pub cost : ℕ
  pub reads : List Value

-- The Rust's SelectionKind: a boolean test, or a test of a number.
pub data SelectionKind : Type 0 where
  bool_cond number : SelectionKind

-- One place of a terminator's targets, with the values passed on. Each place of a target named twice has the same values.
pub record Edge : Type 0 where
  pub target : ℕ
  pub inputs : List Value

-- What stands at a place that has no edge.
abbrev pub no_edge : Edge
no_edge = record { target = 0; inputs = [] }

-- The terminator of a region, the Rust's ControlInst: kinds 0 to 3, and 4 and 5 together.
pub data ControlInst : Type 0 where
  unreachable : ControlInst
  return : List Value → ControlInst
  exit_invocation : ℕ → List Value → ControlInst
  branch : Edge → ControlInst
  select_branch : SelectionKind → Value → List Edge → ControlInst

-- A region: the types of its inputs, its blocks of instructions, its turn limit, its terminator, and its exit list, the record's loop exit
-- targets.
pub record Region : Type 0 where
  pub inputs : List ℕ
  pub blocks : List (List Instr)
  pub limit : ℕ
  pub terminator : ControlInst
  pub exits : List ℕ

-- A record's graph: its entry region, the test cost, the types of its constants, its regions by number.
pub record Graph : Type 0 where
  pub entry : ℕ
  pub test_cost : ℕ
  pub constants : List ℕ
  pub regions : List Region

-- What stands at a number that names no region.
abbrev pub nowhere : Region
nowhere = record { inputs = []; blocks = []; limit = 1; terminator = unreachable; exits = [] }

abbrev pub region : Graph → ℕ → Region
region g r = get_or g.regions r nowhere

-- The edges that lead from a region, by place.
abbrev pub edges_of : ControlInst → List Edge
edges_of unreachable = []
edges_of (return vs) = []
edges_of (exit_invocation op vs) = []
edges_of (branch e) = e ∷ []
edges_of (select_branch k v es) = es

abbrev pub targets_of : Graph → ℕ → List ℕ
targets_of g r = map (λ e. e.target) (edges_of (region g r).terminator)
