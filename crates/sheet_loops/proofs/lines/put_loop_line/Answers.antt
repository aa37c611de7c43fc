use mathlib.Core.Path.{sym}
use Rattle.sheet_words.specs.laws.PutInFrontLaws.{puts_then, puts_as}
use Rattle.sheet_loops.specs.LoopParts.{loop_line}
use Rattle.sheet_loops.proofs.lines.put_loop_line.Goals as goal

pub returns : goal.returns
returns c =
    λ g s x y v ns nodes repeat keeps.
    puts_as
    (puts_then
    (puts_then
    (puts_then
    (puts_then (c.put_value-repeat.ensures g s x) c.put_word-body.ensures)
    (c.put_kept_values-initial.ensures g s x _ y (rw (← c.loop_kept.ensures) at keeps)))
    c.put_word-number.ensures)
    c.put_word.ensures)
    (rw (c.loop_repeat.ensures, repeat, c.loop_header.ensures, c.loop_node.ensures) (sym (loop_line s _)))
