-- No edge, one edge to the return or elsewhere, and more edges.
use Rattle.cfg.specs.laws.paths.FuncLaws.{return_edge, other_edge, no_edges, many_edges}
use Rattle.cfg.proofs.func.outcome_of.Goals as goal

pub returns-then-n-eq0 : goal.returns-then-n-eq0
returns-then-n-eq0 c = no_edges _ _ c.set_length-n.ensures c.if-n-eq0.true

pub returns-then-target : goal.returns-then-target
returns-then-target c =
    return_edge _ _ c.set_length-n.ensures c.if-n-eq1.true c.own_bundle.ensures c.target.ensures c.if-target.true

pub returns-else-target : goal.returns-else-target
returns-else-target c =
    other_edge _ _ c.set_length-n.ensures c.if-n-eq1.true c.own_bundle.ensures c.target.ensures c.if-target.false

pub returns-else-n-eq1 : goal.returns-else-n-eq1
returns-else-n-eq1 c = many_edges _ _ c.set_length-n.ensures c.if-n-eq0.false c.if-n-eq1.false
