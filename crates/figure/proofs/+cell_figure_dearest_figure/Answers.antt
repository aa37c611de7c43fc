-- The three functions of the figure meet their contracts, in one induction: each goes on with a smaller handle.
use Rattle.state_nodes.specs.laws.CellTagsBack.{tag_is, tag_not}
use mathlib.Core.Path.{refl}
use Rattle.std.proofs.Common.{arith, ◌∙◌}
use borrow.Author.Rules.{rules}
use Rattle.state_lists.specs.laws.CellByCellLaws.{named_below, before_below}
use Rattle.figure.specs.laws.Steps.{dearest_turn, dearest_all, cell_blocks, cell_select, cell_loop, cell_other}
use Rattle.figure.specs.laws.Steps.{passed_turn, passed_all}
use Rattle.figure.proofs.+cell_figure_dearest_figure.Goals as goal

-- ---- A cell.
pub cell_figure-returns-in-Blocks : goal.cell_figure-returns-in-Blocks
cell_figure-returns-in-Blocks t c =
    cell_blocks refl (tag_is c.cell_tag.ensures c.in-Blocks.is) c.blocks_region.ensures c.blocks_figure.ensures c.min.ensures

pub cell_figure-figure-requires : goal.cell_figure-figure-requires
cell_figure-figure-requires t c = (omega (arith, named_below _ c.join_list.ensures c.requires), tt)

pub cell_figure-dearest-requires : goal.cell_figure-dearest-requires
cell_figure-dearest-requires t c = (omega (arith, named_below _ c.select_cases.ensures c.requires), tt)

pub cell_figure-returns-in-Select : goal.cell_figure-returns-in-Select
cell_figure-returns-in-Select t c =
    cell_select refl (λ g s. c.from-test.ensures ∙ c.test_cost.ensures g s) (tag_is c.cell_tag.ensures c.in-Select.is) c.select_cases.ensures c.dearest.ensures
    c.min-in-Select.ensures

pub cell_figure-figure-requires-in-Loop : goal.cell_figure-figure-requires-in-Loop
cell_figure-figure-requires-in-Loop t c = (omega (arith, named_below _ c.loop_body.ensures c.requires), tt)

pub cell_figure-returns-in-Loop : goal.cell_figure-returns-in-Loop
cell_figure-returns-in-Loop t c =
    cell_loop refl (λ g s. c.from-test.ensures ∙ c.test_cost.ensures g s) (tag_is c.cell_tag.ensures c.in-Loop.is) c.loop_header.ensures
    (λ g s. c.from-limit.ensures ∙ c.limit.ensures g s)
    c.loop_body.ensures c.figure-in-Loop.ensures c.min-in-Loop.ensures

pub cell_figure-returns-in_default : goal.cell_figure-returns-in_default
cell_figure-returns-in_default t c = cell_other refl (tag_not c.cell_tag.ensures (search rules)) (tag_not c.cell_tag.ensures (search rules)) (tag_not c.cell_tag.ensures (search rules)) (tag_not c.cell_tag.ensures (search rules))

-- ---- The dearest of a list of cases.
pub dearest-figure-requires : goal.dearest-figure-requires
dearest-figure-requires t c =
    (omega (arith, named_below _ c.children_of_case.ensures c.loop-h-test.true, c.loop-h.invariant.below), tt)

pub dearest-loop-h-smaller : goal.dearest-loop-h-smaller
dearest-loop-h-smaller t c = named_below _ c.cases_after-h.ensures c.loop-h-test.true

pub dearest-loop-h-preserved : goal.dearest-loop-h-preserved
dearest-loop-h-preserved t c =
    dearest_turn c.loop-h.invariant c.loop-h-test.true c.children_of_case.ensures c.figure.ensures c.max-most.ensures
    c.cases_after-h.ensures

pub dearest-returns : goal.dearest-returns
dearest-returns t c = dearest_all c.loop-h.invariant c.loop-h-test.false

-- ---- A list of nodes.
pub figure-loop-h-smaller : goal.figure-loop-h-smaller
figure-loop-h-smaller t c = before_below _ c.list_before-h.ensures c.loop-h-test.true

pub figure-loop-h-preserved : goal.figure-loop-h-preserved
figure-loop-h-preserved t c =
    passed_turn c.loop-h.invariant c.loop-h-test.true c.cell_figure.ensures c.min-sum.ensures c.list_before-h.ensures

pub figure-returns : goal.figure-returns
figure-returns t c = passed_all c.loop-h.invariant c.loop-h-test.false
