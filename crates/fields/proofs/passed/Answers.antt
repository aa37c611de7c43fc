use mathlib.Core.Path.{◌∙◌}
use Rattle.fields.specs.laws.Lists.{value_item_is}
use Rattle.fields.specs.laws.Passed.{passed_at}
use Rattle.fields.proofs.passed.Goals as goal

pub returns : goal.returns
returns c g s = c.value_item.ensures ∙ rw c.passed_place.ensures (value_item_is _ (passed_at s _ _) _)
