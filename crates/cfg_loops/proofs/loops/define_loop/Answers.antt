use Rattle.cfg_loops.specs.laws.paths.LoopsLaws.{value_full, node_full, loop_whole}
use borrow.Author.Rules.{rules}
use Rattle.state_words.specs.laws.Filled.{full_of_err}
use Rattle.cfg_loops.proofs.loops.define_loop.Goals as goal

pub returns-in_err-repeat : goal.returns-in_err-repeat
returns-in_err-repeat c = rw (full_of_err c.from_residual.ensures.0) (value_full c.materialize_lazy_cond.ensures c.in_err-repeat.was)

pub returns-in_err-node : goal.returns-in_err-node
returns-in_err-node c =
    rw (full_of_err c.from_residual-in_err-node.ensures.0)
    (node_full c.materialize_lazy_cond.ensures
    c.in_ok-repeat.was c.define_node.ensures c.in_err-node.was)

pub returns : goal.returns
returns c =
    loop_whole
    c.materialize_lazy_cond.ensures
    c.in_ok-repeat.was
    c.define_node.ensures c.in_ok-node.was c.add_loop.ensures
