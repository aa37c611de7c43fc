use Rattle.cfg_loops.specs.Loops.{enters}
use borrow.Author.Rules.{rules}
use Rattle.cfg_loops.proofs.loops.enter_inputs.Goals as goal

pub returns : goal.returns
returns c =
    enters c.rewrite_values.ensures
    c.take_inputs-kept.ensures c.insert_rewrites.ensures
