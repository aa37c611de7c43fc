use Rattle.cfg_selects.specs.laws.paths.IntoLaws.{select_none, select_all}
use Rattle.std.specs.Prelude.{◌≡◌, ◌||◌}
use Rattle.std.proofs.Common.{◌∙◌}
use Rattle.cfg_selects.proofs.into.structurize_select.Goals.{then-full, else-full}
use borrow.Author.Rules.{rules}
use Rattle.state_words.specs.laws.Filled.{full_of_err}
use Rattle.cfg_selects.proofs.into.structurize_select.Goals as goal

pub returns-in_err-select_if : goal.returns-in_err-select_if
returns-in_err-select_if c =
    let both : c.if-full.needed ≡ (c.any_non_empty_case-full.result || c.plan_bundles-merged.result) = elim c.if-full.branch [
      | then-full w ↦ w.needed-is ∙ rw w.if-full.true
      | else-full w ↦ w.needed-is ∙ rw w.if-full.false
    ] in
    rw (full_of_err c.from_residual.ensures.0)
    (select_none _ _ _ _ c.any_non_empty_case-full.ensures c.rewrite_cases.ensures
    c.deferred_targets.ensures
    c.plan_bundles-merged.ensures both
    c.select_if.ensures c.in_err-select_if.was)

pub returns : goal.returns
returns c =
    let both : c.if-full.needed ≡ (c.any_non_empty_case-full.result || c.plan_bundles-merged.result) = elim c.if-full.branch [
      | then-full w ↦ w.needed-is ∙ rw w.if-full.true
      | else-full w ↦ w.needed-is ∙ rw w.if-full.false
    ] in
    select_all _ _ _ _ c.any_non_empty_case-full.ensures c.rewrite_cases.ensures c.deferred_targets.ensures
    c.plan_bundles-merged.ensures
    both c.select_if.ensures
    c.in_ok-select_if.was c.replace_inputs.ensures
