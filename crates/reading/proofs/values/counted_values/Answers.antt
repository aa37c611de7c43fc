use Rattle.std.proofs.Common.{rules}
use Rattle.reading.specs.laws.Turns.{reads_counted}
use Rattle.reading.proofs.values.counted_values.Goals as goal

pub returns : goal.returns
returns c = reads_counted _ _ _ (λ d r h. search rules) _ _ _ _ c.counted.ensures
