use mathlib.Core.Path.{◌≡◌}
use Prim.Native.Nat.{◌-◌}
use Rattle.vectors.specs.Tally.{tally_of}
use Rattle.damage.specs.Answers.{bit_right}
use Rattle.damage.proofs.changes.bits.Given as goal

abbrev pub invariant-loop-bit : goal.invariant-loop-bit
invariant-loop-bit l = l.t ≡ tally_of (bit_right l.right_check l.block l.answers l.from) (l.bit - l.from)
