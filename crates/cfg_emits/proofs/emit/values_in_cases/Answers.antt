use mathlib.Core.Path.{◌≡◌}
use Prim.Native.Nat.{◌-◌, ◌≤◌}
use native.Mathlib.Omega.{arith}
use lib.ListN.{get_or}
use Rattle.state_regions.specs.RegionTables.{case_total}
use Rattle.cfg_planning.specs.laws.paths.PlanningLaws.{few_total}
use Rattle.cfg_emits.specs.Emits.{InCases, value_in_case}
use Rattle.cfg_emits.specs.laws.paths.EmitsLaws.{in_none, in_more, in_all}
use borrow.Author.Rules.{rules}
use Rattle.state_words.specs.Values.{undef_from}
use Rattle.cfg_emits.proofs.emit.values_in_cases.Goals as goal

pub loop-j-init : goal.loop-j-init
loop-j-init c = (c.case_count-n.ensures, few_total _ _ c.case_count-n.ensures, omega arith, in_none _ undef_from)
