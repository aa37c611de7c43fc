use mathlib.Core.Path.{◌∙◌}
use Rattle.fields.specs.laws.Lists.{value_item_is}
use Rattle.fields.specs.laws.Instructions.{instruction_at}
use Rattle.fields.proofs.read.Goals as goal

pub returns : goal.returns
returns c g s =
    c.value_item.ensures ∙ rw (c.place.ensures, c.instruction_place.ensures)
    (value_item_is _ (instruction_at s _ _ _).reads _)
