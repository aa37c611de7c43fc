use Rattle.cfg_bundles.specs.laws.paths.Paths.{fill_turn, fill_stop, fill_end, stands_counted}
use Rattle.cfg_cases.proofs.cases.fill_cases.Goals as goal

pub loop-j-preserved : goal.loop-j-preserved
loop-j-preserved c g s =
    let before = c.loop-j.invariant g s in
    fill_turn g _ _ _ c.loop-j-test.true before (c.fill_case.ensures g before.0)

pub returns : goal.returns
returns c g s =
    let stands = stands_counted _ s c.set_case_count.ensures in
    fill_end g _ _ (c.target_count-n.ensures g s) c.set_case_count.ensures
    (fill_stop g _ _ _ c.loop-j-test.false (c.loop-j.invariant g stands).1)
