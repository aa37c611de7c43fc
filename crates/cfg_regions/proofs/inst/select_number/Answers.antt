use borrow.Author.Rules.{rules}
use Rattle.cfg_regions.proofs.inst.select_number.Goals as goal

pub returns : goal.returns
returns c = λ g st. rw (c.target_count-shape.ensures g st) at (c.select.ensures g st)
