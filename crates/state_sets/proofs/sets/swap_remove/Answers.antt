use Rattle.state_sets.specs.SetTables.{swap_removed}
use mathlib.Core.Path.{◌∙◌}
use Rattle.meaning.specs.facts.Tests.{picked, passed_over, is_equal, not_equal}
use Rattle.state_sets.proofs.sets.swap_remove.Goals as goal

pub returns-then-n-eq0 : goal.returns-then-n-eq0
unfolding swap_removed
returns-then-n-eq0 c = picked _ _ (is_equal c.if-n-eq0.true c.set_length-n.ensures)

pub returns : goal.returns
unfolding swap_removed
returns c =
    (rw (
      c.copy_bundle.ensures,
      c.bundle_at-last.ensures,
      c.set_start.ensures,
      c.set_length-n.ensures,
    ) at c.put_set_length.ensures)
    ∙ passed_over _ _ (not_equal c.if-n-eq0.false
    c.set_length-n.ensures)
