use Rattle.std.proofs.Common.{rules}
use Rattle.reading.specs.laws.Turns.{reads_many}
use Rattle.reading.proofs.words.words.Goals as goal

pub returns : goal.returns
returns c = reads_many _ _ _ (λ d r h. search rules) _ _ _ c.many.ensures
