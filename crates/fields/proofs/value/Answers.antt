use mathlib.Core.Path.{◌∙◌}
use Rattle.fields.specs.laws.Terminators.{values_at}
use Rattle.fields.specs.laws.Lists.{value_item_is}
use Rattle.fields.proofs.value.Goals as goal

pub returns : goal.returns
returns c g s = c.value_item.ensures ∙ rw c.values_place.ensures (value_item_is _ (values_at s _) _)
