use mathlib.Core.Path.{◌∙◌}
use Rattle.fields.specs.laws.Terminators.{values_at}
use Rattle.fields.proofs.value_count.Goals as goal

pub returns : goal.returns
returns c g s = c.word_at.ensures ∙ rw c.values_place.ensures (values_at s _).count
