use Rattle.fields.specs.laws.Lists.{values_listed}
use Rattle.fields.specs.laws.Terminators.{values_at}
use Rattle.fields.proofs.value_list.Goals as goal

pub returns : goal.returns
returns c g s = rw c.values_place.ensures (values_listed _ (values_at s _))
