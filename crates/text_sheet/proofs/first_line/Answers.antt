use Rattle.text_lines.specs.laws.LineTexts.{no_first}
use Rattle.text_sheet.specs.laws.LineRoom.{fits_first}
use Rattle.text_sheet.specs.laws.Answered.{found, none_found, line_missing, line_printed}
use Rattle.text_sheet.proofs.first_line.Goals as goal

pub returns-then-words-tried : goal.returns-then-words-tried
returns-then-words-tried c = line_missing (none_found c.put_first_line-tried.ensures no_first c.if-words-tried.true)

pub returns : goal.returns
returns c =
    line_printed fits_first (λ k. (c.type_inv.words k).fits)
    (found c.put_first_line-tried.ensures c.if-words-tried.false) c.put_first_line-end.ensures
    c.put_first_line-end.auto.text c.answer.ensures
