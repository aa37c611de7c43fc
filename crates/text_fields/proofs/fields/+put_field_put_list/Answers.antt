use Rattle.std.proofs.Common.{arith, length, sym, ◌∙◌}
use Rattle.text_cursor.specs.laws.WordsToTextSteps.{puts_then, puts_as}
use Rattle.text_fields.specs.laws.FieldTexts.{item_shown, merge_there, plain_there}
use Rattle.text_fields.specs.laws.ListTurns.{turned_first, turned_next, turned_all, turned_beyond, list_missing, list_empty}
use Rattle.text_fields.proofs.fields.+put_field_put_list.Goals as goal

pub put_field-returns-then-is_merge : goal.put_field-returns-then-is_merge
put_field-returns-then-is_merge t c =
    λ depth h. rw c.in-Condition.is
    (merge_there (sym c.is_merge.ensures ∙ c.if-is_merge.true) depth h c.merge_head-d.ensures c.put_list-d.ensures (c.say.ensures _))

pub put_field-returns-in-Item : goal.put_field-returns-in-Item
put_field-returns-in-Item t c =
    λ depth h. rw c.in-Item.is
    (puts_as (item_shown depth) (puts_then c.item_head-d.ensures (c.put_list.ensures depth (omega (arith, c.item_head-d.ensures.ahead)))))

pub put_field-returns-else-is_merge : goal.put_field-returns-else-is_merge
put_field-returns-else-is_merge t c =
    λ depth h. rw c.in-Condition.is
    (plain_there (sym c.is_merge.ensures ∙ c.if-is_merge.false) depth h c.plain_condition.ensures)

pub put_list-returns-in_default : goal.put_list-returns-in_default
put_list-returns-in_default t c = list_missing c.args.kind c.in_default.ensures c.stop.ensures

pub put_list-returns-then-n-eq0 : goal.put_list-returns-then-n-eq0
put_list-returns-then-n-eq0 t c = list_empty c.args.kind c.in-Some.ensures c.if-n-eq0.true (c.none.ensures _)

pub put_list-loop-k-init : goal.put_list-loop-k-init
put_list-loop-k-init t c =
    turned_first c.in-Some.ensures (c.put_field-d.ensures (length c.args.words.now) (omega arith)).ahead c.if-n-eq0.false

pub put_list-returns-then-words-d : goal.put_list-returns-then-words-d
put_list-returns-then-words-d t c =
    turned_beyond c.loop-k.invariant c.in-Some.ensures c.if-n-eq0.false c.put_field-d.ensures c.if-words-d.true

pub put_list-put_field-d-requires-in-loop-k : goal.put_list-put_field-d-requires-in-loop-k
put_list-put_field-d-requires-in-loop-k t c = (
  omega (arith, c.loop-k.invariant.ahead, (c.say-d.ensures c.args.words.now).ahead, c.if-words-d.false),
  tt,
)

pub put_list-loop-k-preserved : goal.put_list-loop-k-preserved
put_list-loop-k-preserved t c =
    turned_next c.loop-k.invariant c.loop-k-test.true (c.put_field-d-in-loop-k.auto.text ∙ c.say-d.auto.text) (c.say-d.ensures _)
    c.put_field-d-in-loop-k.ensures

pub put_list-returns : goal.put_list-returns
put_list-returns t c =
    turned_all c.loop-k.invariant c.in-Some.ensures c.if-n-eq0.false c.put_field-d.ensures c.loop-k-test.false
