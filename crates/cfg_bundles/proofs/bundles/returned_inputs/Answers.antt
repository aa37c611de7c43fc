use mathlib.Core.Path.{◌∙◌}
use Rattle.cfg_bundles.specs.laws.paths.Paths.{listed_is}
use Rattle.cfg_bundles.proofs.bundles.returned_inputs.Goals as goal

pub returns : goal.returns
returns c g s = c.listed_inputs.ensures ∙ listed_is _ _ (c.value_list.ensures g s)
