use Prim.Native.Nat.{◌-◌, ◌≤◌}
use native.Mathlib.Omega.{arith}
use Rattle.cfg_select_nodes.specs.Turns.{GoesOnBy}
use Rattle.cfg_select_nodes.specs.laws.paths.TurnsLaws.{begins_by, turned_by, refused_by, over_by}
use Rattle.cfg_emits.specs.Emits.{EmitAt}
use Rattle.cfg_emits.specs.laws.paths.EmitsLaws.{emits_by, bundles_leave}
use borrow.Author.Rules.{rules}
use Rattle.cfg_emits.proofs.emit.emit_bundles.Given as goal

abbrev pub invariant-loop-i : goal.invariant-loop-i
invariant-loop-i l = (l.i ≤ l.n) × GoesOnBy (λ g. EmitAt g l.h.0 l.start.0) l.n l.i l.initial.w l.w
