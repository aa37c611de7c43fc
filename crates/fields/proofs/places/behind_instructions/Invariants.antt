use mathlib.Core.Path.{◌≡◌}
use Prim.Native.Nat.{◌≤◌, ◌-◌}
use Rattle.fields.specs.ItemsAndPlaces as words
use Rattle.fields.proofs.places.behind_instructions.Given as goal

abbrev pub invariant-loop : goal.invariant-loop
invariant-loop l = (l.p ≤ 65535) × (words.behind_instructions l.w (l.i - l.counter) l.p ≡ words.behind_instructions l.w l.i l.first)
