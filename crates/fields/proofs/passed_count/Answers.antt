use mathlib.Core.Path.{◌∙◌}
use Rattle.fields.specs.laws.Passed.{passed_at}
use Rattle.fields.proofs.passed_count.Goals as goal

pub returns : goal.returns
returns c g s = c.word_at.ensures ∙ rw c.passed_place.ensures (passed_at s _ _).count
