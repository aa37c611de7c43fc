use Rattle.std.proofs.lemmas.Result.{err_from_is_err_and}
use mathlib.Core.Path.{refl}
use borrow.Author.Rules.{rules}
use Rattle.cfg_regions.specs.laws.ByStateLaws.{body_without, body_loop}
use Rattle.cfg_regions.specs.laws.ByStateLaws.{body_plain}
use Rattle.cfg_regions.proofs.claim.claim_body.Goals as goal

pub returns-then-eq : goal.returns-then-eq
returns-then-eq c =
    λ g st. body_plain g _ _ c.set_region_state.ensures
    c.set_structured_body.ensures c.backedge_count.ensures
    c.zero.ensures c.eq.ensures c.if-eq.true

pub returns-in_default : goal.returns-in_default
returns-in_default c =
    let found = rw c.in_default.is at c.find_backedge.ensures in
    λ g st. body_without g _ _ c.set_region_state.ensures
    c.set_structured_body.ensures c.backedge_count.ensures
    c.zero.ensures c.eq.ensures c.if-eq.false found.number refl

pub returns-in_err-structurize_loop : goal.returns-in_err-structurize_loop
returns-in_err-structurize_loop c =
    let p = err_from_is_err_and c.from_residual.result c.from_residual.ensures.1 in
    let found = rw c.in-Some.is at c.find_backedge.ensures in
    rw (p.1, p.2)
    λ g st. body_loop g _ _ c.set_region_state.ensures
    c.set_structured_body.ensures c.backedge_count.ensures
    c.zero.ensures c.eq.ensures c.if-eq.false found.number
    found.some c.structurize_loop.ensures (rw c.in_err-structurize_loop.was)

pub returns : goal.returns
returns c =
    let found = rw c.in-Some.is at c.find_backedge.ensures in
    λ g st. body_loop g _ _ c.set_region_state.ensures
    c.set_structured_body.ensures c.backedge_count.ensures
    c.zero.ensures c.eq.ensures c.if-eq.false found.number
    found.some c.structurize_loop.ensures (rw c.in_ok-structurize_loop.was)
