use mathlib.Core.Path.{refl}
use Rattle.cfg_select_nodes.specs.Cases.{has_region, new_region, no_region}
use Rattle.state_words.specs.laws.Filled.{full_of_err}
use Rattle.state_regions.specs.laws.KindsBack.{kind_is, kind_not}
use borrow.Author.Rules.{rules}
use Rattle.cfg_select_nodes.proofs.cases.case_region.Goals as goal

pub returns-then-eq : goal.returns-then-eq
returns-then-eq c = has_region (kind_is c.case_kind.ensures (search rules)) refl

pub returns-in_err-r : goal.returns-in_err-r
returns-in_err-r c =
    rw (full_of_err c.from_residual.ensures.0)
    (no_region (kind_not c.case_kind.ensures (search rules))
    (rw c.in_err-r.was at c.define_region.ensures))

pub returns : goal.returns
returns c =
    new_region (kind_not c.case_kind.ensures (search rules))
    (rw c.in_ok-r.was at c.define_region.ensures)
    c.set_case_body.ensures
