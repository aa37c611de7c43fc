use mathlib.Core.Path.{◌∙◌}
use Rattle.fields.specs.laws.Regions.{block_count_is}
use Rattle.fields.proofs.block_count.Goals as goal

pub returns : goal.returns
returns c g s = c.word_at.ensures ∙ rw c.blocks_place.ensures (block_count_is s _)
