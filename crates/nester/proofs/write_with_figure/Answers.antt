use Rattle.nester.specs.laws.NestingRecord.{too_dear, within_figure}
use borrow.Author.Rules.{rules}
use Rattle.nester.proofs.write_with_figure.Goals as goal

pub returns-then-cost-eq-TOO_LARGE : goal.returns-then-cost-eq-TOO_LARGE
returns-then-cost-eq-TOO_LARGE c = too_dear _ _ c.entry.ensures c.children.ensures
    c.figure-cost.ensures _ c.if-cost-eq-TOO_LARGE.true

pub returns : goal.returns
returns c =
    within_figure _ _ c.entry.ensures
    c.children.ensures c.figure-cost.ensures
    c.if-cost-eq-TOO_LARGE.false c.write_or_refuse.ensures
