use mathlib.Core.Path.{refl, ◌∙◌}
use Rattle.cfg_emits.specs.Emits.{condition_there}
use Rattle.cfg_emits.specs.laws.paths.EmitsLaws.{condition_refused, condition_set}
use borrow.Author.Rules.{rules}
use Rattle.state_words.specs.laws.Filled.{full_of_err}
use Rattle.cfg_emits.proofs.emit.emit_condition.Goals as goal

pub returns-then-condition-ne-TO_DEFINE : goal.returns-then-condition-ne-TO_DEFINE
returns-then-condition-ne-TO_DEFINE c = condition_there (λ e. c.if-condition-ne-TO_DEFINE.true (c.condition.ensures ∙ e)) refl

pub returns-in_err-c : goal.returns-in_err-c
returns-in_err-c c =
    rw (full_of_err c.from_residual.ensures.0)
    (condition_refused _ _ _ _ c.condition.ensures c.if-condition-ne-TO_DEFINE.false
    c.conditions_in_cases-parts.ensures c.define_merge.ensures c.in_err-c.was)

pub returns : goal.returns
returns c =
    condition_set _ _ _ _ c.condition.ensures c.if-condition-ne-TO_DEFINE.false
    c.conditions_in_cases-parts.ensures c.define_merge.ensures c.in_ok-c.was
    c.set_condition.ensures
