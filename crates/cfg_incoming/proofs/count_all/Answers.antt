use Rattle.cfg_incoming.specs.laws.CountedLaws.{counting_turn}
use Rattle.cfg_incoming.specs.laws.CountedLaws.{grows_turn}
use Rattle.cfg_incoming.proofs.count_all.Goals as goal

pub loop-j-preserved : goal.loop-j-preserved
loop-j-preserved g c = (
  grows_turn c.loop-j.invariant.0 c.add_one.ensures,
  λ ts size is. counting_turn ts size (c.loop-j.invariant.1 ts size is) c.loop-j-test.true
      (is _ _ c.loop-j-test.true c.item.ensures) c.add_one.ensures,
)
