use Rattle.std.proofs.Common.{rules}
use Rattle.format.specs.Read.{block}
use Rattle.reading.specs.laws.Turns.{reads_counted}
use Rattle.reading.proofs.values.block.Goals as goal

pub returns : goal.returns
unfolding block
returns c = reads_counted _ _ _ (λ d r h. search rules) _ _ _ _ c.counted.ensures
