use Rattle.std.proofs.Common.{refl, rules}
use Rattle.state_regions.specs.laws.KindsBack.{state_is, state_not}
use Rattle.cfg_regions.specs.laws.ByStateLaws.{state_claimed, state_waits, other_waits}
use Rattle.cfg_regions.proofs.claim.claim_by_state.Goals as goal

pub returns-then-eq-2 : goal.returns-then-eq-2
returns-then-eq-2 c =
    λ g st. state_claimed g _ _ _ _ refl (state_is c.region_state.ensures (search rules))
    c.backedge_count.ensures
    c.requires
    c.plus-all.ensures c.eq-then-eq.ensures c.if-eq-2.true
    (c.claim_body.ensures g st)

pub returns-else-eq-2 : goal.returns-else-eq-2
returns-else-eq-2 c =
    λ g st. state_waits g _ _ _ _ refl (state_is c.region_state.ensures (search rules))
    c.backedge_count.ensures
    c.requires c.plus-all.ensures
    c.eq-then-eq.ensures c.if-eq-2.false

pub returns-else-eq : goal.returns-else-eq
returns-else-eq c = λ g st. other_waits g _ _ _ _ refl (state_not c.region_state.ensures (search rules))
