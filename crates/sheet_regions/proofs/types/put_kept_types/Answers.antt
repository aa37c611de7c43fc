use mathlib.Core.Path.{refl}
use native.Mathlib.Omega.{arith}
use Rattle.sheet_words.specs.laws.PutInFrontLaws.{puts_as}
use Rattle.state_lists.specs.laws.CellByCellLaws.{named_below}
use Rattle.sheet_regions.specs.Kept.{kept_cells, types_are}
use Rattle.sheet_regions.specs.laws.KeptLaws.{cells_turn, cells_counted}
use Rattle.sheet_regions.specs.laws.KeptLaws.{cells_start}
use Rattle.sheet_regions.proofs.types.put_kept_types.Goals as goal

pub loop-h-init : goal.loop-h-init
loop-h-init c = (λ g s x. cells_start _ _ _ _ _, omega arith)

pub loop-h-smaller : goal.loop-h-smaller
loop-h-smaller c =
    named_below _ c.cell_before-h.ensures c.loop-h-test.true

pub loop-h-preserved : goal.loop-h-preserved
loop-h-preserved c = (
  λ g s x. cells_turn _ _ _ _ _ (c.loop-h.invariant.0 g s x) c.loop-h-test.true
      (rw (c.input_type.ensures g x.state.stands, c.kept_input.ensures) at c.put_word-to.ensures)
      c.cell_before-h.ensures refl,
  omega (arith, named_below _ c.cell_before-h.ensures c.loop-h-test.true),
)

pub returns : goal.returns
returns c =
    λ g s x y keeps. puts_as
    (cells_counted _ _ _ _ _ (c.loop-h.invariant.0 g s x) c.loop-h-test.false (kept_cells c.args.w.now keeps).chain
    c.put_word.ensures)
    (types_are c.args.w.now y keeps)
