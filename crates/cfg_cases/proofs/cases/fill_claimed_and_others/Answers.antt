use Rattle.cfg_bundles.specs.laws.paths.Paths.{split_by}
use Rattle.cfg_cases.proofs.cases.fill_claimed_and_others.Goals as goal

pub returns : goal.returns
returns c g s =
    split_by g _ _ _ c.set_start-start.ensures
    c.bundle_at-p.ensures
    c.target.ensures c.claimed_case-x.ensures
    (c.given_inputs-vs.ensures g s)
    c.shift_remove.ensures c.set_length-n.ensures
    c.set_case_count.ensures
    c.put_case.ensures c.unclaimed_case.ensures c.set_case.ensures
