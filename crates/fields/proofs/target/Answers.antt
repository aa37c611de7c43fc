use mathlib.Core.Path.{◌∙◌}
use Rattle.fields.specs.laws.Passed.{targets_at, target_is}
use Rattle.fields.specs.laws.Lists.{word_item_is}
use Rattle.fields.proofs.target.Goals as goal

pub returns : goal.returns
returns c g s = c.word_item.ensures ∙ rw c.targets_place.ensures (word_item_is _ (targets_at s _) _ ∙ target_is s _ _)
