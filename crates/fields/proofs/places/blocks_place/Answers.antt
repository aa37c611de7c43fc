use mathlib.Core.Path.{◌∙◌, ap}
use Rattle.fields.specs.ItemsAndPlaces as words
use Rattle.fields.proofs.places.blocks_place.Goals as goal

pub returns : goal.returns
unfolding words.blocks_place
returns c = c.behind_words.ensures ∙ ap (words.behind_words _) c.indexed.ensures
