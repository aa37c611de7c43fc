use Prim.Native.Nat.{◌-◌, ◌≤◌}
use native.Mathlib.Omega.{arith}
use Rattle.cfg_select_nodes.specs.Turns.{GoesOnBy}
use Rattle.cfg_select_nodes.specs.laws.paths.TurnsLaws.{begins_by, turned_by, refused_by, over_by}
use Rattle.cfg_emits.specs.Emits.{EmitInput}
use Rattle.cfg_emits.specs.laws.paths.EmitsLaws.{inputs_by, inputs_leave}
use borrow.Author.Rules.{rules}
use Rattle.cfg_emits.proofs.emit.emit_inputs.Given as goal

abbrev pub invariant-loop-k : goal.invariant-loop-k
invariant-loop-k l = (l.k ≤ l.n) × GoesOnBy (λ g. EmitInput g l.node l.q.0 l.t l.places) l.n l.k l.initial.w l.w
