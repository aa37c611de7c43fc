use mathlib.Core.Path.{◌≡◌, sym, ◌∙◌}
use native.Mathlib.Omega.{arith}
use Rattle.fields.specs.laws.Returns.{return_here, return_later, no_return}
use Rattle.fields.proofs.types.first_return.Goals as goal

pub returns-then-is_return : goal.returns-then-is_return
returns-then-is_return c g s =
    return_here g.regions (c.region_count-n.ensures g s) _ c.loop-q-test.true
    (sym (c.is_return.ensures g s) ∙ c.if-is_return.true) (c.loop-q.invariant g s)

pub loop-q-preserved : goal.loop-q-preserved
loop-q-preserved c g s =
    return_later g.regions (c.region_count-n.ensures g s) _ c.loop-q-test.true
    (sym (c.is_return.ensures g s) ∙ c.if-is_return.false) (c.loop-q.invariant g s)

pub returns : goal.returns
returns c g s =
    let e : c.loop-q.q ≡ c.region_count-n.result = omega arith in
    rw (← e) (no_return g.regions (c.region_count-n.ensures g s) _ c.loop-q-test.false (c.loop-q.invariant g s))
