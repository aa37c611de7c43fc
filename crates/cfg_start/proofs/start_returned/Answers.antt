use Rattle.cfg_start.specs.laws.paths.InitialStateLaws.{returned_turn, returned_stop}
use Rattle.cfg_start.proofs.start_returned.Goals as goal

pub loop-k-preserved : goal.loop-k-preserved
loop-k-preserved c =
    returned_turn c.first_return-q.ensures
    c.value_count-n.ensures c.min-k-end.ensures
    c.loop-k.invariant c.loop-k-test.true
    c.return_type-ty.ensures (rw c.from.ensures at c.set_head.ensures)

pub returns : goal.returns
returns c =
    returned_stop c.first_return-q.ensures
    c.value_count-n.ensures c.min-k-end.ensures
    c.loop-k.invariant c.loop-k-test.false c.set_head-2.ensures
