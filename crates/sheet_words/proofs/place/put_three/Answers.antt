use Rattle.sheet_words.specs.laws.PutInFrontLaws.{puts_then}
use Rattle.sheet_words.proofs.place.put_three.Goals as goal

pub returns : goal.returns
returns c =
    puts_then (puts_then c.put_word-third.ensures c.put_word-second.ensures)
    c.put_word.ensures
