use mathlib.Core.Path.{◌≡◌}
use Prim.Native.Nat.{◌-◌, ◌≤◌}
use native.Mathlib.Omega.{arith}
use lib.ListN.{get_or}
use Rattle.state_regions.specs.RegionTables.{case_total}
use Rattle.cfg_planning.specs.Planning.{per_case_condition}
use Rattle.cfg_planning.specs.laws.paths.PlanningLaws.{few_total}
use Rattle.cfg_emits.specs.Emits.{InCases}
use Rattle.cfg_emits.specs.laws.paths.EmitsLaws.{in_none, in_more, in_all}
use borrow.Author.Rules.{rules}
use Rattle.state_words.specs.Values.{parts}
use Rattle.cfg_emits.proofs.emit.conditions_in_cases.Given as goal

abbrev pub invariant-loop-j : goal.invariant-loop-j
invariant-loop-j l = (l.n ≡ case_total l.w) × (l.n ≤ 8) × (l.j ≤ l.n) × InCases l.j (λ i. per_case_condition l.w i (get_or l.places i 0)) 0
    l.parts
