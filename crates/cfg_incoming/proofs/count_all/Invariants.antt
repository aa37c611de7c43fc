use mathlib.Core.Path.{◌≡◌}
use Prim.Native.Nat.{ℕ, ◌<◌}
use lib.ListN.{length, get_or}
use mathlib.Core.List.{List}
use Rattle.cfg_incoming.specs.Counted.{CountedUpTo, Grows}
use Rattle.cfg_incoming.proofs.count_all.Given as goal

abbrev pub invariant-loop-j : goal.invariant-loop-j
invariant-loop-j g l = Grows l.initial.counts l.counts l.j × ((ts : List ℕ) → l.n ≡ length ts
    → ((j x : ℕ) → j < l.n → goal.F-post g l.item j x → x ≡ get_or ts j 0) → CountedUpTo l.initial.counts l.counts l.j ts)
