use mathlib.Core.Path.{◌∙◌}
use Rattle.fields.specs.laws.Regions.{region_count}
use Rattle.fields.proofs.region_count.Goals as goal

pub returns : goal.returns
returns c g s = c.word_at.ensures ∙ region_count s
