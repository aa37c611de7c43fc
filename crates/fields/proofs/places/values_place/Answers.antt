use mathlib.Core.Path.{◌∙◌}
use Rattle.fields.specs.ItemsAndPlaces as words
use Rattle.meaning.specs.facts.Tests.{picked, passed_over, is_equal, not_equal}
use Rattle.fields.proofs.places.values_place.Goals as goal

pub returns-then-word_at-eq-TERMINATOR_EXIT : goal.returns-then-word_at-eq-TERMINATOR_EXIT
unfolding words.values_place
returns-then-word_at-eq-TERMINATOR_EXIT c =
    rw (← c.indexed-p.ensures)
    (c.place.ensures ∙ picked _ _ (is_equal c.if-word_at-eq-TERMINATOR_EXIT.true c.word_at.ensures))

pub returns-else-word_at-eq-TERMINATOR_EXIT : goal.returns-else-word_at-eq-TERMINATOR_EXIT
unfolding words.values_place
returns-else-word_at-eq-TERMINATOR_EXIT c =
    rw (← c.indexed-p.ensures)
    (c.place-else-word_at-eq-TERMINATOR_EXIT.ensures ∙ passed_over _ _ (not_equal c.if-word_at-eq-TERMINATOR_EXIT.false c.word_at.ensures))
