use mathlib.Core.Path.{◌∙◌, ap}
use Prim.Native.Nat.{◌+◌}
use Rattle.fields.specs.ItemsAndPlaces.{placed, behind_words}
use Rattle.fields.proofs.words.behind_words.Goals as goal

pub returns : goal.returns
unfolding behind_words
returns c = c.place.ensures ∙ ap (λ n. placed (c.args.p + 1 + n)) c.word_at.ensures
