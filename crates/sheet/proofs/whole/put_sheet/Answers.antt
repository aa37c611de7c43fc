use Rattle.sheet.specs.laws.WrittenLaws.{sheet_put}
use Rattle.sheet.proofs.whole.put_sheet.Goals as goal

pub returns : goal.returns
returns c =
    sheet_put _ _ _ c.put_lines-lines.ensures
    c.put_first_line-first.ensures
