use Rattle.cfg_select_nodes.specs.laws.paths.CasesLaws.{replaced_claimed, replaced_not}
use Rattle.state_regions.specs.laws.KindsBack.{kind_is, kind_not}
use borrow.Author.Rules.{rules}
use Rattle.cfg_select_nodes.proofs.cases.replace_input.Goals as goal

pub returns-then-eq : goal.returns-then-eq
returns-then-eq c =
    replaced_claimed _ _ (kind_is c.case_kind.ensures (search rules)) c.case_body-body.ensures
    c.case_inputs-vs.ensures
    c.insert_rewrites.ensures

pub returns-else-eq : goal.returns-else-eq
returns-else-eq c = replaced_not _ _ (kind_not c.case_kind.ensures (search rules))
