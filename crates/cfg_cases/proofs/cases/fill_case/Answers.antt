use Rattle.cfg_bundles.specs.laws.paths.Paths.{fill_claimed, fill_edge, fill_nothing}
use borrow.Author.Rules.{rules}
use Rattle.cfg_cases.proofs.cases.fill_case.Goals as goal

pub returns-in-Claimed : goal.returns-in-Claimed
returns-in-Claimed c g s =
    fill_claimed g _ _ _ c.target_answer.ensures c.in-Claimed.is (c.target.ensures g s) c.claimed_case-x.ensures
    (c.passed_inputs-vs.ensures g s) c.put_case.ensures

pub returns-in-Deferred : goal.returns-in-Deferred
returns-in-Deferred c g s =
    fill_edge g _ _ _ c.target_answer.ensures (search rules) c.in-Deferred.is c.own_edge-p.ensures
    (c.defer_edge.ensures g s) c.unclaimed_case.ensures c.set_case.ensures

pub returns-in_default : goal.returns-in_default
returns-in_default c g s = fill_nothing g _ _ _ c.target_answer.ensures (search rules) (search rules)
    c.unclaimed_case-in_default.ensures c.set_case-in_default.ensures
