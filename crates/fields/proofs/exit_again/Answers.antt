use mathlib.Core.Path.{◌∙◌}
use Rattle.fields.specs.laws.Regions.{exits_at}
use Rattle.fields.specs.laws.Repeats.{again_is}
use Rattle.fields.proofs.exit_again.Goals as goal

pub returns : goal.returns
returns c g s = c.stood_before.ensures ∙ rw c.indexed.ensures (again_is _ (exits_at s _) _)
