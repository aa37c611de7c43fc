use Rattle.fields.specs.laws.Lists.{values_listed}
use Rattle.fields.specs.laws.Passed.{passed_at}
use Rattle.fields.proofs.passed_list.Goals as goal

pub returns : goal.returns
returns c g s = rw c.passed_place.ensures (values_listed _ (passed_at s _ _))
