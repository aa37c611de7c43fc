use mathlib.Core.Path.{◌∙◌}
use Rattle.fields.specs.laws.Regions.{inputs_at}
use Rattle.fields.proofs.input_count.Goals as goal

pub returns : goal.returns
returns c g s = c.word_at.ensures ∙ rw c.indexed.ensures (inputs_at s _).count
