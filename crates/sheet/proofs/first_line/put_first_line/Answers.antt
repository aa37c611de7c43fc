use Rattle.sheet_words.specs.laws.PutInFrontLaws.{puts_then}
use Rattle.sheet.proofs.first_line.put_first_line.Goals as goal

pub returns : goal.returns
returns c =
    rw (← c.twice_word-note.ensures, ← c.head.ensures)
    (puts_then (puts_then (puts_then c.put_word-twice.ensures c.put_word-attempts.ensures) c.put-cost.ensures)
    c.put_word.ensures)
