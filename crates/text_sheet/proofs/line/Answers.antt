use Rattle.text_lines.specs.laws.LineTexts.{no_words}
use Rattle.text_sheet.specs.laws.LineRoom.{fits_line}
use Rattle.text_sheet.specs.laws.Answered.{found, none_found, line_missing, line_printed}
use Rattle.text_sheet.proofs.line.Goals as goal

pub returns-then-words-tried : goal.returns-then-words-tried
returns-then-words-tried c = line_missing (none_found c.put_line-tried.ensures.puts no_words c.if-words-tried.true)

pub returns : goal.returns
returns c =
    line_printed fits_line (λ k. (c.type_inv.words k).fits)
    (found c.put_line-tried.ensures.puts c.if-words-tried.false) c.put_line-end.ensures.puts
    c.put_line-end.auto.text c.answer.ensures
