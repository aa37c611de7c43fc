use Rattle.cfg_select_nodes.specs.Selects.{CellsOn}
use Rattle.cfg_select_nodes.specs.laws.paths.SelectsLaws.{cells_begin, cells_turn, cells_end}
use borrow.Author.Rules.{rules}
use Rattle.cfg_select_nodes.proofs.define.case_cells.Given as goal

abbrev pub invariant-loop-j : goal.invariant-loop-j
invariant-loop-j l = CellsOn l.initial.w l.j l.h.0 l.w
