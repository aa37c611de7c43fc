use mathlib.Core.Path.{◌∙◌}
use Rattle.fields.specs.laws.Passed.{targets_at}
use Rattle.fields.specs.laws.Repeats.{again_is}
use Rattle.fields.proofs.target_again.Goals as goal

pub returns : goal.returns
returns c g s = c.stood_before.ensures ∙ rw c.targets_place.ensures (again_is _ (targets_at s _) _)
