use mathlib.Core.Path.{◌∙◌}
use Rattle.fields.specs.ItemsAndPlaces as words
use Rattle.meaning.specs.facts.Tests.{picked, passed_over, is_below, not_below}
use Rattle.fields.proofs.places.passed_place.Goals as goal

pub returns-then-j-word_at : goal.returns-then-j-word_at
unfolding words.passed_place
returns-then-j-word_at c =
    rw (← c.targets_place-targets.ensures) (c.list_for.ensures
    ∙ rw c.word_item.ensures (picked _ _ (is_below c.if-j-word_at.true
    c.word_at.ensures)))

pub returns-else-j-word_at : goal.returns-else-j-word_at
unfolding words.passed_place
returns-else-j-word_at c = rw (← c.targets_place-targets.ensures) (passed_over _ _ (not_below c.if-j-word_at.false c.word_at.ensures))
