use Rattle.std.proofs.Common.{◌∙◌, refl, eqb, not, rules, tests, arith}
use Rattle.std.proofs.lemmas.Iterator.{YieldsList-from_range}
use Rattle.std.proofs.lemmas.Iterator.Search.{any_from_yields_List}
use Rattle.cfg_select_nodes.specs.Cases.{children_of}
use Rattle.cfg_select_nodes.specs.laws.paths.CasesLaws.{any_in_range}
use Rattle.cfg_select_nodes.proofs.cases.any_non_empty_case.Goals as goal

pub returns : goal.returns
returns c =
    any_from_yields_List (λ j. not (eqb (children_of c.args.w.now j) 0)) _ _ _ c.any.ensures.ran
    (YieldsList-from_range 0 c.case_count.result c.case_count.result refl (omega arith))
    (λ x b q k. search (rules, tests))
    ∙ any_in_range _ _ c.case_count.ensures
