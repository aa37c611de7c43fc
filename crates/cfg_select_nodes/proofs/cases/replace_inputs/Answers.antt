use mathlib.Core.Path.{◌≡◌}
use Prim.Native.Nat.{◌-◌, ◌≤◌}
use native.Mathlib.Omega.{arith}
use Rattle.state_regions.specs.RegionTables.{case_total}
use Rattle.cfg_select_nodes.specs.Cases.{all_replaced}
use Rattle.cfg_select_nodes.specs.laws.paths.CasesLaws.{replace_on, replace_over}
use Rattle.cfg_select_nodes.specs.laws.paths.CasesLaws.{replace_start}
use borrow.Author.Rules.{rules}
use Rattle.cfg_select_nodes.proofs.cases.replace_inputs.Goals as goal

pub loop-j-preserved : goal.loop-j-preserved
loop-j-preserved c = (
  omega arith,
  rw c.replace_input.ensures (replace_on _ _ _ c.loop-j.invariant.1
      c.loop-j-test.true),
)

pub returns : goal.returns
returns c = replace_over _ _ _ c.loop-j.invariant.1 c.loop-j-test.false
