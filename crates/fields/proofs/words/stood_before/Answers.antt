-- Within the list the search decides; beyond it nothing stands.
use mathlib.Core.Path.{◌∙◌}
use borrow.Author.Tests.{le-ltb}
use Rattle.fields.specs.laws.Repeats.{again_by, not_again}
use Rattle.fields.proofs.words.stood_before.Goals as goal

pub returns-then-q-word_at : goal.returns-then-q-word_at
returns-then-q-word_at c =
    let found = c.stands_before.ensures in
    again_by _ _ _ c.word_at.ensures c.if-q-word_at.true (rw c.word_at-then-q-word_at.ensures at found)

pub returns-else-q-word_at : goal.returns-else-q-word_at
returns-else-q-word_at c = le-ltb _ _ c.if-q-word_at.false ∙ not_again _ _ _ c.word_at.ensures c.if-q-word_at.false
