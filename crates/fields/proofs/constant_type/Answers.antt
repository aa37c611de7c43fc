use mathlib.Core.Path.{◌∙◌}
use Rattle.fields.specs.laws.Regions.{constants_at}
use Rattle.fields.specs.laws.Lists.{word_item_is}
use Rattle.fields.proofs.constant_type.Goals as goal

pub returns : goal.returns
returns c g s = c.word_item.ensures ∙ word_item_is _ (constants_at s) _
