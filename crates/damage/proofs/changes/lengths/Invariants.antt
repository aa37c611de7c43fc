use mathlib.Core.Path.{◌≡◌}
use Rattle.vectors.specs.Tally.{tally_of}
use Rattle.damage.specs.Answers.{length_as_listed}
use Rattle.damage.proofs.changes.lengths.Given as goal

abbrev pub invariant-loop-n : goal.invariant-loop-n
invariant-loop-n l = l.t ≡ tally_of (length_as_listed l.bytes l.answers) l.n
