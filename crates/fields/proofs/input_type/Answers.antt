use mathlib.Core.Path.{◌∙◌}
use Rattle.fields.specs.laws.Regions.{inputs_at}
use Rattle.fields.specs.laws.Lists.{word_item_is}
use Rattle.fields.proofs.input_type.Goals as goal

pub returns : goal.returns
returns c g s = c.word_item.ensures ∙ rw c.indexed.ensures (word_item_is _ (inputs_at s _) _)
