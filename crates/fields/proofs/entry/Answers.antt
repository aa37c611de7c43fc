use mathlib.Core.Path.{◌∙◌}
use Rattle.fields.specs.laws.Regions.{entry_is}
use Rattle.fields.proofs.entry.Goals as goal

pub returns : goal.returns
returns c g s = c.word_at.ensures ∙ entry_is s
