use mathlib.Core.Path.{◌≡◌}
use Prim.Native.Nat.{◌-◌}
use Rattle.fields.specs.ItemsAndPlaces as words
use Rattle.fields.proofs.places.list_for.Given as goal

abbrev pub invariant-loop-q : goal.invariant-loop-q
invariant-loop-q l = words.list_for l.w l.targets l.t (l.n - l.q) l.q l.p ≡ words.list_for l.w l.targets l.t l.n 0 l.initial.p
