use Rattle.state_words.specs.Sections.{set_starts}
use Rattle.state_sets.specs.SetTables.{slot}
use Rattle.state_words.specs.laws.Stored.{fill_turn, fill_stop}
use Rattle.cfg_start.proofs.start_slots.Goals as goal

pub loop-a-preserved : goal.loop-a-preserved
loop-a-preserved c = rw (c.put_set_start.ensures, c.slot.ensures)
    (fill_turn set_starts (λ a. a) slot _ _ _ c.loop-a-test.true
    c.loop-a.invariant)

pub returns : goal.returns
returns c =
    let all = fill_stop set_starts (λ a. a) slot _ _ _ c.loop-a-test.false c.loop-a.invariant in
    rw (all, c.slot-2.ensures) at c.put_set_start-2.ensures
