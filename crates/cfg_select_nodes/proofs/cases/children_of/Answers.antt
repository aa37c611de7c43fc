use mathlib.Core.Path.{◌∙◌}
use Rattle.state_regions.specs.laws.KindsBack.{kind_is, kind_not}
use borrow.Author.Rules.{rules}
use Rattle.cfg_select_nodes.specs.laws.paths.CasesLaws.{children_none, children_some}
use Rattle.cfg_select_nodes.proofs.cases.children_of.Goals as goal

pub returns-then-eq : goal.returns-then-eq
returns-then-eq c = c.case_children.ensures ∙ children_some _ _ (kind_is c.case_kind.ensures (search rules))

pub returns-else-eq : goal.returns-else-eq
returns-else-eq c = children_none _ _ (kind_not c.case_kind.ensures (search rules))
