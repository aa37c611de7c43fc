use borrow.Author.Rules.{rules}
use Rattle.state_nodes.specs.laws.RewriteKindsBack.{rewrite_is, rewrite_not}
use Rattle.std.proofs.Common.{◌≡◌, refl, ◌+◌, ◌-◌, ◌<◌, sym, ◌∙◌, arith}
use Rattle.nesting.specs.Nesting.{most_regions}
use Rattle.cfg_lookups.specs.laws.paths.LookUpsLaws.{turn_none, turn_renumbers, turn_on, turn_stays, turns_over}
use Rattle.cfg_lookups.proofs.look_up.look_up.Goals as goal

pub returns-then-not-is_input : goal.returns-then-not-is_input
returns-then-not-is_input c =
    let left : 0 < most_regions + 1 - c.loop.counter = omega arith in
    c.stays.ensures ∙ turn_stays _ _ _ 0 0 0 0 left c.loop.invariant (sym c.is_input.ensures ∙ c.if-not-is_input.true)

pub loop-preserved : goal.loop-preserved
loop-preserved c =
    let left : 0 < most_regions + 1 - c.loop.counter = omega arith in
    let one_less : most_regions + 1 - (c.loop.counter + 1) ≡ most_regions + 1 - c.loop.counter - 1 = omega arith in
    rw one_less
    (turn_on _ _ _ _ _ _ _ left c.loop.invariant (sym c.is_input.ensures ∙ c.if-not-is_input.false) c.input_region-r.ensures
    refl (rewrite_not c.rewrite_kind-kind.ensures (search rules)) c.input_index.ensures c.rewrite_value-x.ensures
    (sym (c.renumbers.ensures _ c.rewrite_kind-kind.ensures) ∙ c.if-renumbers.false))

pub returns-after-loop : goal.returns-after-loop
returns-after-loop c = turns_over _ _ _ (omega arith) c.loop.invariant

pub returns-then-eq : goal.returns-then-eq
returns-then-eq c =
    let left : 0 < most_regions + 1 - c.loop.counter = omega arith in
    turn_none _ _ _ _ _ 0 0 left c.loop.invariant (sym c.is_input.ensures ∙ c.if-not-is_input.false) c.input_region-r.ensures
    refl (rewrite_is c.rewrite_kind-kind.ensures (search rules))

pub returns-then-renumbers : goal.returns-then-renumbers
returns-then-renumbers c =
    let left : 0 < most_regions + 1 - c.loop.counter = omega arith in
    turn_renumbers _ _ _ _ _ _ _ left c.loop.invariant (sym c.is_input.ensures ∙ c.if-not-is_input.false) c.input_region-r.ensures
    refl (rewrite_not c.rewrite_kind-kind.ensures (search rules)) c.input_index.ensures c.rewrite_value-x.ensures
    (sym (c.renumbers.ensures _ c.rewrite_kind-kind.ensures) ∙ c.if-renumbers.true)
