use mathlib.Core.Path.{refl, ◌∙◌}
use Rattle.cfg_emits.specs.Emits.{input_there}
use Rattle.cfg_emits.specs.laws.paths.EmitsLaws.{input_refused, input_set}
use borrow.Author.Rules.{rules}
use Rattle.state_words.specs.laws.Filled.{full_of_err}
use Rattle.cfg_emits.proofs.emit.emit_input.Goals as goal

pub returns-then-target_input : goal.returns-then-target_input
returns-then-target_input c = λ g s. input_there (λ e. c.if-target_input.true (c.target_input.ensures ∙ e)) refl

pub returns-in_err-o : goal.returns-in_err-o
returns-in_err-o c =
    rw (full_of_err c.from_residual.ensures.0)
    (input_refused _ _ _ _ _ _ c.target_input.ensures c.if-target_input.false
    c.target_input_type-ty.ensures
    c.values_in_cases-vs.ensures c.define_output.ensures
    c.in_err-o.was)

pub returns : goal.returns
returns c =
    input_set _ _ _ _ _ _ c.target_input.ensures c.if-target_input.false c.target_input_type-ty.ensures
    c.values_in_cases-vs.ensures
    c.define_output.ensures c.in_ok-o.was
    c.output.ensures c.set_target_input.ensures
