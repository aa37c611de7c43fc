use mathlib.Core.Path.{◌∙◌}
use Rattle.fields.specs.laws.Regions.{test_cost_is}
use Rattle.fields.proofs.test_cost.Goals as goal

pub returns : goal.returns
returns c g s = c.word_at.ensures ∙ test_cost_is s
