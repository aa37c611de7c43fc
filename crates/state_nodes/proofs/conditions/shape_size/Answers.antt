use Rattle.state_nodes.specs.NodeTables.{shape_size}
use borrow.Author.Tests.{lt-ltb, le-ltb, eq-eqb, ne_eqb}
use Rattle.state_nodes.proofs.conditions.shape_size.Goals as goal

pub returns-then-shape-eq-BOOL_COND : goal.returns-then-shape-eq-BOOL_COND
unfolding shape_size
returns-then-shape-eq-BOOL_COND c = simp (eq-eqb _ _ c.if-shape-eq-BOOL_COND.true)

pub returns-then-shape-lt8 : goal.returns-then-shape-lt8
unfolding shape_size
returns-then-shape-lt8 c = simp (ne_eqb _ _ c.if-shape-eq-BOOL_COND.false, lt-ltb _ _ c.if-shape-lt8.true)

pub returns : goal.returns
unfolding shape_size
returns c = simp (ne_eqb _ _ c.if-shape-eq-BOOL_COND.false, le-ltb _ _ c.if-shape-lt8.false)
