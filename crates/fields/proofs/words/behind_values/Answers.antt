use mathlib.Core.Path.{◌∙◌, ap}
use Prim.Native.Nat.{◌+◌, ◌*◌}
use Rattle.fields.specs.ItemsAndPlaces.{placed, behind_values}
use Rattle.fields.proofs.words.behind_values.Goals as goal

pub returns : goal.returns
unfolding behind_values
returns c = c.place.ensures ∙ ap (λ n. placed (c.args.p + 1 + 3 * n)) c.word_at.ensures
