use borrow.Author.Rules.{rules}
use Rattle.cfg_regions.specs.laws.ByInstLaws.{branch_path}
use Rattle.cfg_regions.proofs.inst.branch.Goals as goal

pub returns : goal.returns
returns c = λ g st. branch_path g _ _ st (c.fill_cases.ensures g st)
    c.case_at-x.ensures c.append_maybe_claimed_region.ensures
