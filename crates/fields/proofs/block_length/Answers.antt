use mathlib.Core.Path.{◌∙◌}
use Rattle.fields.specs.laws.Instructions.{block_length}
use Rattle.fields.proofs.block_length.Goals as goal

pub returns : goal.returns
returns c g s = c.word_at.ensures ∙ rw c.block_place.ensures (block_length s _ _)
