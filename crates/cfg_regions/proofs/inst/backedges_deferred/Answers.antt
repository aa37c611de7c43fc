use mathlib.Core.Path.{refl, ◌∙◌}
use native.Mathlib.Omega.{arith}
use borrow.Author.Rules.{rules}
use Rattle.cfg_regions.specs.laws.ByInstLaws.{deferred_none, deferred_some}
use Rattle.cfg_regions.proofs.inst.backedges_deferred.Goals as goal

pub returns-in-None : goal.returns-in-None
returns-in-None c =
    let found = rw c.in-None.is at c.find_backedge.ensures in (
      c.zero.ensures ∙ deferred_none _ _ _ found.number refl,
      omega (arith, c.zero.ensures),
    )

pub returns-in-Some : goal.returns-in-Some
returns-in-Some c =
    let found = rw c.in-Some.is at c.find_backedge.ensures in (
      deferred_some _ _ _ found.number found.some _ c.accumulated_count.ensures.0,
      c.accumulated_count.ensures.1,
    )
