use Rattle.state_sets.specs.SetTables.{shift_removed}
use mathlib.Core.Path.{◌∙◌}
use Rattle.meaning.specs.facts.Tests.{picked, passed_over, is_equal, not_equal}
use Rattle.state_sets.proofs.sets.shift_remove.Goals as goal

pub returns-then-n-eq0 : goal.returns-then-n-eq0
unfolding shift_removed
returns-then-n-eq0 c = picked _ _ (is_equal c.if-n-eq0.true c.set_length-n.ensures)

pub returns : goal.returns
unfolding shift_removed
returns c =
    (rw (
      c.shift.ensures,
      c.set_start-start.ensures,
      c.set_length-n.ensures,
    ) at c.put_set_length.ensures)
    ∙ passed_over _ _ (not_equal c.if-n-eq0.false
    c.set_length-n.ensures)
