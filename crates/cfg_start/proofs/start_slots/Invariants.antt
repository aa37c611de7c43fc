use mathlib.Core.Path.{◌≡◌}
use Prim.Native.Nat.{◌-◌}
use Rattle.state_words.specs.Sections.{set_starts, filled}
use Rattle.state_sets.specs.SetTables.{slot}
use Rattle.cfg_start.proofs.start_slots.Given as goal

abbrev pub invariant-loop-a : goal.invariant-loop-a
invariant-loop-a l = filled set_starts (λ a. a) slot (l.n - l.a) l.a l.w ≡ filled set_starts (λ a. a) slot l.n 0 l.initial.w
