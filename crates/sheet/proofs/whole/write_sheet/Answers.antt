use Rattle.sheet.specs.laws.WrittenLaws.{not_written, all_written}
use Rattle.sheet.proofs.whole.write_sheet.Goals as goal

pub returns-then-lent-n : goal.returns-then-lent-n
returns-then-lent-n c = not_written _ _ _ c.measure-n.ensures (rw c.lent.ensures at c.if-lent-n.true)

pub returns : goal.returns
returns c =
    all_written _ _ _ c.measure-n.ensures
    (rw c.lent.ensures at c.if-lent-n.false)
    c.put_sheet.ensures
