use Rattle.state_words.specs.Sections.{kinds}
use Rattle.state_words.specs.laws.Stored.{fill_turn, fill_stop}
use Rattle.cfg_start.proofs.start_kinds.Goals as goal

pub loop-r-preserved : goal.loop-r-preserved
loop-r-preserved c = rw c.set_region_state.ensures (fill_turn kinds (λ r. r) (λ r. 0) _ _ _ c.loop-r-test.true
    c.loop-r.invariant)

pub returns : goal.returns
returns c = fill_stop kinds (λ r. r) (λ r. 0) _ _ _ c.loop-r-test.false c.loop-r.invariant
