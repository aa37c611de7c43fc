use Rattle.sheet_regions.specs.Kept.{kept_word}
use Rattle.sheet_loops.proofs.kept.kept_value.Goals as goal

pub returns-then-back : goal.returns-then-back
unfolding kept_word
returns-then-back c = rw c.if-back.true c.kept_back.ensures

pub returns-else-back : goal.returns-else-back
unfolding kept_word
returns-else-back c = rw (c.if-back.false, ← c.kept_input.ensures, ← c.kept_wrapper.ensures)
    c.input.ensures
