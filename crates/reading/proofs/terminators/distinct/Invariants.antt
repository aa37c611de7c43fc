-- k is the count over the words passed, and at most their number.
use Rattle.std.specs.Prelude.{◌≡◌, ◌≤◌}
use Rattle.reading.specs.Readings.{firsts}
use Rattle.reading.proofs.terminators.distinct.Given as goal

abbrev pub invariant-loop-j : goal.invariant-loop-j
invariant-loop-j l = (l.k ≤ l.j) × (l.k ≡ firsts l.w l.from l.j)
