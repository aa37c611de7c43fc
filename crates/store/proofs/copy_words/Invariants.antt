use mathlib.Core.List.{◌++◌}
use mathlib.Core.Path.{◌≡◌}
use lib.ListN.{drop}
use Rattle.format.specs.Store.{word_at}
use Rattle.store.specs.Block.{byte_place}
use Rattle.meaning.specs.Lists.{tabulate}
use Rattle.store.proofs.copy_words.Given as goal

abbrev pub invariant-loop-j : goal.invariant-loop-j
invariant-loop-j l = (l.at ≡ byte_place l.j) × (l.words ≡ tabulate l.j (word_at l.bytes) ++ drop l.j l.initial.words)
