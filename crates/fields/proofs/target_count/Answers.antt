use mathlib.Core.Path.{◌∙◌}
use Rattle.fields.specs.laws.Passed.{target_count}
use Rattle.fields.proofs.target_count.Goals as goal

pub returns : goal.returns
returns c g s = c.word_at.ensures ∙ rw c.targets_place.ensures (target_count s _)
