use borrow.Author.Rules.{rules}
use mathlib.Core.Path.{◌≡◌, refl}
use Prim.Native.Nat.{ℕ, ◌+◌, ◌≤◌, ◌<◌}
use native.Mathlib.Omega.{arith}
use Rattle.state_lists.specs.CellByCell.{case_cell}
use Rattle.state_lists.specs.laws.CellByCellLaws.{named_below, case_step, total_turn, total_end}
use Rattle.state_lists.proofs.case_total.Given as goal

abbrev pub invariant-loop-h : goal.invariant-loop-h
invariant-loop-h l =
    (l.h.0 ≡ case_cell l.w l.initial.h.0 l.n) × ((j : ℕ) → j < l.n → 1 ≤ case_cell l.w l.initial.h.0 j) × (l.n + l.h.0 ≤ l.initial.h.0)

abbrev pub decreases-loop-h : goal.decreases-loop-h
decreases-loop-h l = l.h.0
