use Rattle.sheet_nodes.specs.laws.InsideLaws.{walked_body, walked_itself}
use Rattle.sheet_nodes.proofs.cell.walked_list.Goals as goal

pub returns-then-is_loop : goal.returns-then-is_loop
returns-then-is_loop c = walked_body _ _ c.is_loop.ensures c.if-is_loop.true c.loop_body.ensures

pub returns-else-is_loop : goal.returns-else-is_loop
returns-else-is_loop c = walked_itself _ _ c.is_loop.ensures c.if-is_loop.false
