use Rattle.cfg_loops.specs.laws.paths.ExitsLaws.{exit_counted, exit_not}
use Rattle.cfg_loops.proofs.exits.add_exit_edge.Goals as goal

pub returns-then-is_exit_target : goal.returns-then-is_exit_target
returns-then-is_exit_target c =
    λ g s. exit_counted g _ _ _ c.target.ensures
    (c.is_exit_target.ensures g s)
    c.if-is_exit_target.true c.accumulated_count-n.ensures
    c.plus.ensures c.set_accumulated_count.ensures

pub returns-else-is_exit_target : goal.returns-else-is_exit_target
returns-else-is_exit_target c = λ g s. exit_not g _ _ _ c.target.ensures (c.is_exit_target.ensures g s) c.if-is_exit_target.false
