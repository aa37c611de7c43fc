use native.Mathlib.Omega.{arith}
use Rattle.store.specs.laws.Writes.{weight_is, low_weight, high_weight}
use Rattle.store.proofs.write.weight.Goals as goal

pub returns : goal.returns
returns c = rw (c.from-low.ensures, c.from-high.ensures) (
  weight_is c.args.word c.args.place,
  omega (
    arith,
    low_weight c.args.word c.args.place c.requires,
    high_weight c.args.word c.args.place (omega arith) c.requires,
  ),
)
