use mathlib.Core.Path.{sym, ◌∙◌}
use Rattle.fields.specs.ItemsAndPlaces as words
use Rattle.meaning.specs.facts.Tests.{picked, passed_over}
use Rattle.fields.proofs.places.behind_list.Goals as goal

pub returns-then-stood_before : goal.returns-then-stood_before
unfolding words.behind_list
returns-then-stood_before c = picked _ _ (sym c.stood_before.ensures ∙ c.if-stood_before.true)

pub returns-else-stood_before : goal.returns-else-stood_before
unfolding words.behind_list
returns-else-stood_before c = c.behind_values.ensures ∙ passed_over _ _ (sym c.stood_before.ensures ∙ c.if-stood_before.false)
