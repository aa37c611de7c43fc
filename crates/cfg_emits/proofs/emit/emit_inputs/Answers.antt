use Prim.Native.Nat.{◌-◌, ◌≤◌}
use native.Mathlib.Omega.{arith}
use Rattle.cfg_select_nodes.specs.Turns.{GoesOnBy}
use Rattle.cfg_select_nodes.specs.laws.paths.TurnsLaws.{begins_by, turned_by, refused_by, over_by}
use Rattle.cfg_emits.specs.Emits.{EmitInput}
use Rattle.cfg_emits.specs.laws.paths.EmitsLaws.{inputs_by, inputs_leave}
use borrow.Author.Rules.{rules}
use Rattle.state_words.specs.laws.Filled.{full_of_err}
use Rattle.cfg_emits.proofs.emit.emit_inputs.Goals as goal

pub returns-in_err-emit_input : goal.returns-in_err-emit_input
returns-in_err-emit_input c =
    rw (full_of_err c.from_residual.ensures.0)
    (inputs_by _ _ _ _ c.target-t.ensures
    c.target_input_count-n.ensures
    (refused_by _ _ _ _ _ c.loop-k.invariant.1 c.loop-k-test.true
    (λ g s. rw c.in_err-emit_input.was at (c.emit_input.ensures g s))))

pub loop-k-preserved : goal.loop-k-preserved
loop-k-preserved c = (
  omega arith,
  turned_by _ _ _ _ _ c.loop-k.invariant.1 (λ g. inputs_leave g _ _ _ _)
      c.loop-k-test.true
      (λ g s. rw c.in_ok-emit_input.was at (c.emit_input.ensures g s)),
)

pub returns : goal.returns
returns c = inputs_by _ _ _ _ c.target-t.ensures c.target_input_count-n.ensures
    (over_by _ _ _ _ _ c.loop-k.invariant.1 c.loop-k-test.false)
