use mathlib.Core.Path.{sym, ◌∙◌}
use native.Mathlib.Omega.{arith}
use Rattle.fields.specs.laws.Turns.{list_found, list_turn, list_stop}
use Rattle.fields.proofs.places.list_for.Goals as goal

pub returns-then-word_item-t : goal.returns-then-word_item-t
returns-then-word_item-t c =
    rw (← c.word_at-n.ensures, ← c.behind_words-p.ensures)
    (list_found _ _ _ _ _ _ _ c.loop-q-test.true (sym c.word_item.ensures ∙ c.if-word_item-t.true)
    c.loop-q.invariant)

pub loop-q-preserved : goal.loop-q-preserved
loop-q-preserved c =
    rw c.behind_list-p.ensures (list_turn _ _ _ _ _ _ _ c.loop-q-test.true
    (λ e. c.if-word_item-t.false (c.word_item.ensures ∙ e)) c.loop-q.invariant)

pub returns : goal.returns
returns c =
    rw (← c.word_at-n.ensures, ← c.behind_words-p.ensures)
    (list_stop _ _ _ _ _ _ _ c.loop-q-test.false c.loop-q.invariant)
