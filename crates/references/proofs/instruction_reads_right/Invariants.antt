-- Each round has one read.
use lib.ListN.{get_or}
use Rattle.meaning.specs.Graph.{no_value}
use Rattle.format.specs.References as format
use Rattle.fields.specs.ByNumber.{instr_of}
use Rattle.references.specs.laws.Rounds.{Round}
use Rattle.references.proofs.instruction_reads_right.Given as goal

abbrev pub invariant-loop-k : goal.invariant-loop-k
invariant-loop-k l =
    Round l.w (λ g k. format.named_right g l.r l.before (get_or (instr_of g l.r l.b l.i).reads k no_value))
    (λ g. format.first_refusal (format.named_right g l.r l.before) (instr_of g l.r l.b l.i).reads) l.n l.k
