-- `put_field` and `put_list` call each other. The measure is twice the words left, and one more for a field: a list's count is a word, and
-- a field's list begins no earlier than the field. The loop's invariant: the fields passed are written.
use Rattle.std.proofs.Common.{◌+◌, ◌*◌, ◌-◌, length}
use Rattle.text_fields.specs.laws.ListTurns.{Turned}
use Rattle.text_fields.proofs.fields.+put_field_put_list.Given as goal

abbrev pub decreases-put_field : goal.decreases-put_field
decreases-put_field l = 2 * (length l.words.now + 1 - l.c.at) + 1

abbrev pub decreases-put_list : goal.decreases-put_list
decreases-put_list l = 2 * (length l.words.now + 1 - l.c.at)

abbrev pub invariant-put_list-loop-k : goal.invariant-put_list-loop-k
invariant-put_list-loop-k l = Turned l.kind l.words l.fn.c l.n l.initial.text l.initial.d l.text l.d l._k
