use mathlib.Core.Path.{◌≡◌, sym, ◌∙◌}
use mathlib.Core.Logic.{⊎_elim}
use Rattle.std.specs.Prelude.{IfSome, ◌<◌}
use Prim.Native.Nat.{◌-◌, ◌≤◌}
use native.Mathlib.Omega.{arith}
use Rattle.cfg_select_nodes.specs.Cases.{convergent_from, convergent_case, place_of}
use Rattle.cfg_select_nodes.specs.laws.paths.CasesLaws.{convergent_skip, convergent_second}
use Rattle.cfg_select_nodes.specs.laws.paths.CasesLaws.{convergent_start}
use Rattle.cfg_select_nodes.specs.laws.paths.CasesLaws.{convergent_first, convergent_over}
use borrow.Author.Rules.{rules}
use Rattle.cfg_select_nodes.proofs.cases.convergent_case.Given as goal

abbrev pub invariant-loop-j : goal.invariant-loop-j
invariant-loop-j l = (convergent_from l.w (l.n - l.j) l.j (place_of l.found) ≡ convergent_case l.w) × IfSome l.found (λ k. k < 8)
