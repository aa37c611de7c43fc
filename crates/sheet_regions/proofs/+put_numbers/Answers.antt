use Rattle.state_nodes.specs.laws.CellTagsBack.{tag_is, tag_not}
use borrow.Author.Rules.{rules}
use mathlib.Core.Path.{refl}
use native.Mathlib.Omega.{arith}
use Rattle.state_lists.specs.laws.CellByCellLaws.{named_below, before_below}
use Rattle.sheet_regions.proofs.laws.ListsLaws.{list_start, list_inner, list_cell, list_all, list_as}
use Rattle.sheet_regions.proofs.+put_numbers.Goals as goal
use Rattle.sheet_regions.proofs.+put_numbers.Goals.{then-eq, else-eq}

pub loop-h-init : goal.loop-h-init
loop-h-init t c = (list_start _ _ _ _ (omega arith), omega arith)

pub put_numbers-y-requires : goal.put_numbers-y-requires
put_numbers-y-requires t c = (
  omega (
    arith,
    named_below _ c.join_list.ensures
        c.loop-h-test.true,
  ),
  tt,
)

pub loop-h-smaller : goal.loop-h-smaller
loop-h-smaller t c = before_below _ c.list_before-h.ensures c.loop-h-test.true

pub loop-h-preserved : goal.loop-h-preserved
loop-h-preserved t c = (
  elim c.if-eq.branch [
    | then-eq w ↦
        list_as (list_inner _ _ _ c.loop-h.invariant.0 c.loop-h-test.true refl (tag_is c.cell_tag.ensures (search rules)) w.join_list.ensures
        w.put_numbers-y.ensures) c.list_before-h.ensures w.out-is w.y-is
    | else-eq w ↦
        list_as (list_cell _ _ _ c.loop-h.invariant.0 c.loop-h-test.true refl (tag_not c.cell_tag.ensures (search rules))
        w.put_cell_numbers-y.ensures) c.list_before-h.ensures w.out-is w.y-is
  ],
  omega (arith, before_below _ c.list_before-h.ensures c.loop-h-test.true),
)

pub returns : goal.returns
returns t c = list_all _ _ _ c.loop-h.invariant.0 c.loop-h-test.false
