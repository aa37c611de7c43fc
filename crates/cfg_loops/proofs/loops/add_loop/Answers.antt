use Rattle.cfg_loops.specs.laws.paths.LoopsLaws.{loop_put}
use borrow.Author.Rules.{rules}
use Rattle.cfg_loops.proofs.loops.add_loop.Goals as goal

pub returns : goal.returns
returns c = loop_put c.children-body.ensures c.add_cell-h.ensures
    c.set_children.ensures
