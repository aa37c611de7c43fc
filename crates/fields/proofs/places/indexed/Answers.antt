use mathlib.Core.Path.{◌∙◌}
use Rattle.fields.specs.ItemsAndPlaces as words
use Rattle.meaning.specs.facts.Tests.{picked, passed_over, is_below, not_below}
use Rattle.fields.proofs.places.indexed.Goals as goal

pub returns-then-r-word_at : goal.returns-then-r-word_at
unfolding words.indexed
returns-then-r-word_at c = c.word_at-then-r-word_at.ensures ∙ picked _ _ (is_below c.if-r-word_at.true c.word_at.ensures)

pub returns-else-r-word_at : goal.returns-else-r-word_at
unfolding words.indexed
returns-else-r-word_at c = passed_over _ _ (not_below c.if-r-word_at.false c.word_at.ensures)
