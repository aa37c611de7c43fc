use mathlib.Core.Path.{◌∙◌}
use Rattle.fields.specs.laws.Regions.{limit_is}
use Rattle.meaning.specs.facts.Tests.{picked, passed_over, is_below, not_below}
use Rattle.fields.proofs.limit.Goals as goal

pub returns-then-r-word_at : goal.returns-then-r-word_at
returns-then-r-word_at c g s =
    c.word_at-then-r-word_at.ensures ∙ rw c.indexed.ensures
    (picked _ _ (is_below c.if-r-word_at.true c.word_at.ensures) ∙ limit_is s _)

pub returns-else-r-word_at : goal.returns-else-r-word_at
returns-else-r-word_at c g s = passed_over _ _ (not_below c.if-r-word_at.false c.word_at.ensures) ∙ limit_is s _
