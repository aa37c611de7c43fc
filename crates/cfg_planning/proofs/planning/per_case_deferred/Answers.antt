use Rattle.cfg_planning.specs.laws.paths.PlanningLaws.{few_total, places_first}
use Rattle.cfg_merging.specs.Turns.{turn_next, turn_last}
use mathlib.Core.Path.{◌≡◌}
use borrow.Author.Rules.{rules}
use Rattle.state_sets.specs.SetTables.{number_of}
use Rattle.cfg_planning.proofs.planning.per_case_deferred.Goals as goal

pub loop-j-init : goal.loop-j-init
loop-j-init c = (few_total _ _ c.case_count-n.ensures, places_first _ _ c.case_count-n.ensures _)

pub loop-j-preserved : goal.loop-j-preserved
loop-j-preserved c = (
  c.loop-j.invariant.0,
  let number : c.map_or.result ≡ number_of c.find_by_target-p.result = search rules in
      rw (c.from.ensures, number, c.find_by_target-p.ensures.number, c.case_start.ensures, c.case_length.ensures)
      (turn_next _ _ _ _ c.loop-j.invariant.1 c.loop-j-test.true),
)

pub returns : goal.returns
returns c = turn_last _ _ _ _ c.loop-j.invariant.1 c.loop-j-test.false
