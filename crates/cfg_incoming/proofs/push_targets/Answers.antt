use mathlib.Core.Path.{sym, ◌∙◌}
use native.Mathlib.Omega.{arith}
use lib.ListN.{length-set}
use Rattle.fields.specs.laws.Passed.{target_is}
use Rattle.cfg_incoming.specs.laws.VisitsLaws.{push_turn}
use Rattle.cfg_incoming.proofs.push_targets.Goals as goal

pub loop-j-preserved : goal.loop-j-preserved
loop-j-preserved c = (
  simp length-set (omega arith),
  omega arith,
  λ g s few. push_turn g _ {n = c.min-n.result} (omega (arith, c.min-n.ensures, c.target_count.ensures g s)) few c.loop-j.todo _ (omega arith)
      (omega arith) (omega arith) (c.target.ensures g s ∙ sym (target_is s _ _)) (c.loop-j.invariant.2 g s few),
)
