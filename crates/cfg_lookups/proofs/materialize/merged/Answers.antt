use Rattle.cfg_lookups.specs.laws.paths.MaterializedLaws.{merged_full, merged_output}
use Rattle.cfg_lookups.specs.laws.paths.MaterializedLaws.{merged_scrutinee}
use Rattle.state_words.specs.laws.Filled.{full_of_err}
use borrow.Author.Rules.{rules}
use Rattle.cfg_lookups.proofs.materialize.merged.Goals as goal

pub returns-then-is_scrutinee : goal.returns-then-is_scrutinee
returns-then-is_scrutinee c = merged_scrutinee _ _ _ _ _ c.cond_shape-shape.ensures
    c.is_scrutinee.ensures c.if-is_scrutinee.true c.cond_scrutinee.ensures

pub returns-in_err-o : goal.returns-in_err-o
returns-in_err-o c =
    rw (full_of_err c.from_residual.ensures.0)
    (merged_full _ _ _ _ _ c.cond_shape-shape.ensures
    c.is_scrutinee.ensures
    c.if-is_scrutinee.false c.cond_node-node.ensures
    c.define_output.ensures c.in_err-o.was)

pub returns : goal.returns
returns c =
    merged_output _ _ _ _ _
    c.cond_shape-shape.ensures
    c.is_scrutinee.ensures
    c.if-is_scrutinee.false
    c.cond_node-node.ensures c.define_output.ensures
    c.in_ok-o.was c.output.ensures
