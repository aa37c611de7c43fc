use Rattle.cfg_bundles.specs.laws.paths.Paths.{listed_in, listed_beyond}
use Rattle.cfg_bundles.proofs.bundles.listed_word.Goals as goal

pub returns-then-k-n : goal.returns-then-k-n
returns-then-k-n c = listed_in _ _ _ _ c.if-k-n.true c.value_item.result c.value_word.ensures c.value_item.ensures

pub returns-else-k-n : goal.returns-else-k-n
returns-else-k-n c = listed_beyond _ _ _ _ c.if-k-n.false
