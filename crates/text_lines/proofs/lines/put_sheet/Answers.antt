use Rattle.text_lines.specs.laws.SheetTexts.{lines_start, lines_next, lines_all}
use Rattle.text_lines.proofs.lines.put_sheet.Goals as goal

pub loop-c-init : goal.loop-c-init
loop-c-init c = lines_start

pub loop-c-preserved : goal.loop-c-preserved
loop-c-preserved c =
    lines_next c.loop-c.invariant c.loop-c-test.true
    c.put_line-c.auto.text c.put_line-c.ensures

pub returns : goal.returns
returns c = lines_all c.loop-c.invariant c.loop-c-test.false c.put_first_line-c.ensures
