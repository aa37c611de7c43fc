use mathlib.Core.Path.{refl}
use Rattle.cfg_merging.specs.laws.paths.TargetsLaws.{one_longer, bundle_new, bundle_there}
use Rattle.cfg_merging.proofs.targets.summarize_bundle.Goals as goal

pub returns-in-None : goal.returns-in-None
returns-in-None c =
    bundle_new _ _ _ _ _ _ _ c.set_start-start.ensures c.set_length-n.ensures c.target-t.ensures c.accumulated_count-count.ensures
    c.in-None.ensures.number refl c.bundle_at.ensures c.set_bundle.ensures (one_longer _ c.saturating_add.ensures)
    c.put_set_length.ensures

pub returns-in-Some : goal.returns-in-Some
returns-in-Some c =
    bundle_there _ _ _ _ _ _ _ c.set_start-start.ensures c.set_length-n.ensures c.target-t.ensures c.accumulated_count-count.ensures
    c.in-Some.ensures.number c.in-Some.ensures.some c.accumulated_count-before.ensures c.plus.ensures
    c.set_accumulated_count.ensures
