use borrow.Author.Rules.{rules}
use Rattle.cfg_regions.specs.laws.ByInstLaws.{select_path}
use Rattle.cfg_regions.proofs.inst.select.Goals as goal

pub returns : goal.returns
returns c = λ g st. select_path g _ _ st (c.fill_cases.ensures g st) _
    c.value-v.result (c.value-v.ensures g) c.value_word.ensures
    (c.structurize_select_into.ensures g)
