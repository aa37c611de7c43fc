use mathlib.Core.Path.{◌∙◌}
use Rattle.fields.specs.laws.Regions.{exits_at}
use Rattle.fields.proofs.exit_count.Goals as goal

pub returns : goal.returns
returns c g s = c.word_at.ensures ∙ rw c.indexed.ensures (exits_at s _).count
