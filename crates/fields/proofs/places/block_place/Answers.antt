use Rattle.fields.specs.ItemsAndPlaces as words
use mathlib.Core.Path.{◌∙◌}
use Rattle.meaning.specs.facts.Tests.{picked, passed_over, is_below, not_below}
use Rattle.fields.proofs.places.block_place.Goals as goal

pub returns-then-b-word_at : goal.returns-then-b-word_at
unfolding words.block_place
returns-then-b-word_at c =
    rw (← c.blocks_place.ensures)
    (c.indexed.ensures ∙ picked _ _ (is_below c.if-b-word_at.true c.word_at.ensures))

pub returns-else-b-word_at : goal.returns-else-b-word_at
unfolding words.block_place
returns-else-b-word_at c = rw (← c.blocks_place.ensures) (passed_over _ _ (not_below c.if-b-word_at.false c.word_at.ensures))
