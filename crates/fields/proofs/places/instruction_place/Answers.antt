use mathlib.Core.Path.{◌∙◌, ap}
use Rattle.fields.specs.ItemsAndPlaces as words
use Rattle.meaning.specs.facts.Tests.{picked, passed_over, is_below, not_below}
use Rattle.fields.proofs.places.instruction_place.Goals as goal

pub returns-then-i-word_at : goal.returns-then-i-word_at
unfolding words.instruction_place
returns-then-i-word_at c =
    rw (← c.block_place-p.ensures) (c.behind_instructions.ensures
    ∙ ap (words.behind_instructions _ _) c.place.ensures
    ∙ picked _ _ (is_below c.if-i-word_at.true c.word_at.ensures))

pub returns-else-i-word_at : goal.returns-else-i-word_at
unfolding words.instruction_place
returns-else-i-word_at c = rw (← c.block_place-p.ensures) (passed_over _ _ (not_below c.if-i-word_at.false c.word_at.ensures))
