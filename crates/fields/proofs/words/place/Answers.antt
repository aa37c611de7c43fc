use Rattle.fields.specs.ItemsAndPlaces.{placed}
use Rattle.std.proofs.lemmas.Bool.Decides.{nat_tests}
use native.Mathlib.Omega.{arith}
use Rattle.meaning.specs.Lists.{pick}
use Rattle.fields.proofs.words.place.Goals as goal

pub returns : goal.returns
unfolding placed
returns c = grind (arith, nat_tests)
