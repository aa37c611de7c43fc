use mathlib.Core.Path.{◌∙◌}
use Rattle.fields.specs.ItemsAndPlaces.{value_item, value_at}
use Rattle.meaning.specs.facts.Tests.{picked, passed_over, is_below, not_below}
use Rattle.fields.proofs.words.value_item.Goals as goal

pub returns-then-k-word_at : goal.returns-then-k-word_at
unfolding value_item value_at
returns-then-k-word_at c =
    c.value_of.ensures ∙ rw (
      c.word_at-then-k-word_at-3.ensures,
      c.word_at-then-k-word_at-2.ensures,
      c.word_at-then-k-word_at.ensures,
    ) (picked _ _ (is_below c.if-k-word_at.true c.word_at.ensures))

pub returns-else-k-word_at : goal.returns-else-k-word_at
unfolding value_item
returns-else-k-word_at c = passed_over _ _ (not_below c.if-k-word_at.false c.word_at.ensures)
