use mathlib.Core.Path.{refl}
use borrow.Author.Rules.{rules}
use Rattle.state_regions.specs.laws.KindsBack.{state_is, state_not}
use Rattle.sheet.specs.laws.RegionsLaws.{entry_set_put, ready_set_put, no_given_set}
use Rattle.sheet.proofs.leftover.put_set_if_left.Goals as goal
use Rattle.sheet.proofs.leftover.put_set_if_left.Goals.{then-r-entry, else-r-entry+in-Ready, else-r-entry+in_default}

pub returns-then-matches : goal.returns-then-matches
returns-then-matches c =
    elim c.if-r-entry.branch [
      | then-r-entry w ↦ entry_set_put _ _ c.entry.ensures w.if-r-entry.true c.put_set.ensures
      | else-r-entry+in-Ready w ↦
          ready_set_put _ _ c.entry.ensures w.if-r-entry.false refl (state_is w.region_state.ensures w.in-Ready.is) c.put_set.ensures
      | else-r-entry+in_default w ↦ search rules
    ]

pub returns-else-matches : goal.returns-else-matches
returns-else-matches c =
    elim c.if-r-entry.branch [
      | then-r-entry w ↦ search rules
      | else-r-entry+in-Ready w ↦ search rules
      | else-r-entry+in_default w ↦
          no_given_set _ _ c.entry.ensures w.if-r-entry.false refl _ _ (state_not w.region_state.ensures w.in_default.not-Ready)
    ]
