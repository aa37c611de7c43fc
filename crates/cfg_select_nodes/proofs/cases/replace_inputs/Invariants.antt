use mathlib.Core.Path.{◌≡◌}
use Prim.Native.Nat.{◌-◌, ◌≤◌}
use native.Mathlib.Omega.{arith}
use Rattle.state_regions.specs.RegionTables.{case_total}
use Rattle.cfg_select_nodes.specs.Cases.{all_replaced}
use Rattle.cfg_select_nodes.specs.laws.paths.CasesLaws.{replace_on, replace_over}
use Rattle.cfg_select_nodes.specs.laws.paths.CasesLaws.{replace_start}
use borrow.Author.Rules.{rules}
use Rattle.cfg_select_nodes.proofs.cases.replace_inputs.Given as goal

abbrev pub invariant-loop-j : goal.invariant-loop-j
invariant-loop-j l = (l.j ≤ l.n) × (all_replaced l.w (l.n - l.j) l.j ≡ all_replaced l.initial.w (case_total l.initial.w) 0)
