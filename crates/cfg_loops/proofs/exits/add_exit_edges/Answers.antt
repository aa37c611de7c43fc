use Rattle.cfg_loops.specs.laws.paths.ExitsLaws.{exits_start, exits_turn, exits_stop}
use Rattle.cfg_loops.proofs.exits.add_exit_edges.Goals as goal

pub loop-i-init : goal.loop-i-init
loop-i-init c = λ g s. exits_start g _ _ _ _

pub loop-i-preserved : goal.loop-i-preserved
loop-i-preserved c = exits_turn c.loop-i.invariant c.loop-i-test.true c.bundle_at.ensures c.add_exit_edge.ensures

pub returns : goal.returns
returns c = exits_stop c.loop-i.invariant c.loop-i-test.false c.set_start-start.ensures c.set_length-i-end.ensures
