use Rattle.cfg_bundles.specs.laws.paths.Paths.{edge_by}
use Rattle.cfg_bundles.proofs.bundles.defer_edge.Goals as goal

pub returns : goal.returns
returns c g s = edge_by g _ _ _ _ (c.target-t.ensures g s)
    (c.passed_inputs-vs.ensures g s) c.put_bundle.ensures
