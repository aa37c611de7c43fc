use mathlib.Core.Path.{◌∙◌}
use Rattle.fields.specs.laws.Regions.{constants_at}
use Rattle.fields.proofs.constant_count.Goals as goal

pub returns : goal.returns
returns c g s = c.word_at.ensures ∙ (constants_at s).count
