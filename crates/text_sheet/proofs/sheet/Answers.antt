use Rattle.text_sheet.specs.laws.Answered.{found, none_found, no_sheet, sheet_missing, sheet_printed}
use Rattle.text_sheet.proofs.sheet.Goals as goal

pub returns-then-words-tried : goal.returns-then-words-tried
returns-then-words-tried c = sheet_missing (none_found c.put_sheet-tried.ensures no_sheet c.if-words-tried.true)

pub returns : goal.returns
returns c =
    sheet_printed (λ k. (c.type_inv.words k).fits)
    (found c.put_sheet-tried.ensures c.if-words-tried.false) c.put_sheet-end.ensures
    c.put_sheet-end.auto.text c.finish.ensures
