-- Each round has one instruction.
use Prim.Native.Nat.{◌+◌}
use Rattle.format.specs.References as format
use Rattle.fields.specs.ByNumber.{block_of, instr_of}
use Rattle.references.specs.laws.Rounds.{Round}
use Rattle.references.proofs.block_reads_right.Given as goal

abbrev pub invariant-loop-i : goal.invariant-loop-i
invariant-loop-i l =
    Round l.w (λ g k. format.first_refusal (format.named_right g l.r (l.before + k)) (instr_of g l.r l.b k).reads)
    (λ g. format.reads_right g l.r l.before (block_of g l.r l.b)) l.n l.i
