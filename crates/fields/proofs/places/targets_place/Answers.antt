use mathlib.Core.Path.{◌∙◌, ap}
use Rattle.fields.specs.ItemsAndPlaces as words
use Rattle.fields.proofs.places.targets_place.Goals as goal

pub returns : goal.returns
unfolding words.targets_place
returns c = c.behind_values.ensures ∙ ap (words.behind_values _) c.values_place.ensures
