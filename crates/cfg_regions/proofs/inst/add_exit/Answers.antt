use borrow.Author.Rules.{rules}
use Rattle.cfg_regions.specs.laws.ByInstLaws.{exit_none, exit_some}
use Rattle.state_words.specs.laws.Filled.{full_of_err}
use Rattle.cfg_regions.proofs.inst.add_exit.Goals as goal

pub returns-in_err-node : goal.returns-in_err-node
returns-in_err-node c = rw (full_of_err c.from_residual.ensures.0) (exit_none c.define_node.ensures c.in_err-node.was)

pub returns : goal.returns
returns c =
    exit_some c.define_node.ensures
    c.in_ok-node.was c.children-before.ensures
    c.add_cell-h.ensures c.set_children.ensures
