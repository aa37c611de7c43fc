use borrow.Author.Rules.{rules}
use Rattle.cfg_regions.specs.laws.ByInstLaws.{resolve_path}
use Rattle.cfg_regions.proofs.inst.resolve_by.Goals as goal

pub returns : goal.returns
returns c =
    λ g st. resolve_path g _ _ _ st c.set_length-n.ensures c.own_bundle-p.ensures
    c.condition_in-condition.ensures (c.fill_claimed_and_others.ensures g)
    (c.structurize_select_into.ensures g)
