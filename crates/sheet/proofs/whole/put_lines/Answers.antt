use borrow.Author.Rules.{rules}
use Rattle.sheet.specs.laws.LinesShown.{lines_whole, lines_closed, lines_leftover, lines_none}
use Rattle.sheet.proofs.whole.put_lines.Goals as goal

pub returns-in-1 : goal.returns-in-1
returns-in-1 c = lines_whole _ c.in-1.is c.put_whole.ensures

pub returns-in-2 : goal.returns-in-2
returns-in-2 c = lines_closed _ c.in-2.is c.entry.ensures c.put_piece.ensures

pub returns-in-3 : goal.returns-in-3
returns-in-3 c = lines_leftover _ c.in-3.is c.put_leftover.ensures

pub returns-in_default : goal.returns-in_default
returns-in_default c = lines_none _ (search rules) (search rules) (search rules) _ _
