use Rattle.cfg_bundles.specs.laws.paths.Paths.{return_by}
use Rattle.cfg_bundles.proofs.bundles.defer_return.Goals as goal

pub returns : goal.returns
returns c g s =
    return_by g _ _ c.set_start.ensures
    c.bundle_at-p.ensures
    (c.returned_inputs-vs.ensures g s)
    c.zero.ensures c.put_bundle.ensures c.put_set_length.ensures
