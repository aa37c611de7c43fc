use native.Mathlib.Omega.{arith}
use Rattle.state_lists.specs.laws.CellByCellLaws.{named_below}
use Rattle.sheet_selects.specs.laws.CaseNumbersLaws.{no_regions, first_region}
use Rattle.sheet_selects.proofs.+put_regions.Goals as goal

pub returns-then-list-eq0 : goal.returns-then-list-eq0
returns-then-list-eq0 t c = no_regions _ _ _ c.if-list-eq0.true (omega arith)

pub put_regions-y-requires : goal.put_regions-y-requires
put_regions-y-requires t c = (
  omega (
    arith,
    c.if-list-eq0.false,
    named_below _
        c.cases_after.ensures (omega (arith, c.if-list-eq0.false)),
  ),
  tt,
)

pub returns-else-list-eq0 : goal.returns-else-list-eq0
returns-else-list-eq0 t c =
    first_region _ c.if-list-eq0.false
    c.cases_after.ensures
    c.put_regions-y.ensures c.case_region.ensures
    (rw c.from.ensures at c.put_number.ensures)
