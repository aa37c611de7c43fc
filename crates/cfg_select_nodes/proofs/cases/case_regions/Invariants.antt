use Prim.Native.Nat.{◌-◌, ◌≤◌}
use native.Mathlib.Omega.{arith}
use Rattle.cfg_select_nodes.specs.Turns.{TurnsOn}
use Rattle.cfg_select_nodes.specs.laws.paths.TurnsLaws.{turned, refused, over}
use Rattle.cfg_select_nodes.specs.laws.paths.TurnsLaws.{begins}
use Rattle.cfg_select_nodes.specs.Cases.{GetsRegion}
use borrow.Author.Rules.{rules}
use Rattle.cfg_select_nodes.proofs.cases.case_regions.Given as goal

abbrev pub invariant-loop-j : goal.invariant-loop-j
invariant-loop-j l = (l.j ≤ l.n) × TurnsOn GetsRegion l.n l.j l.initial.w l.w
