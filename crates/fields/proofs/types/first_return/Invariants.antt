use mathlib.Core.Path.{◌≡◌}
use Prim.Native.Nat.{◌+◌}
use lib.ListN.{drop}
use Rattle.format.specs.References as format
use Rattle.record.specs.Stands.{OfRecord}
use Rattle.fields.proofs.types.first_return.Given as goal

abbrev pub invariant-loop-q : goal.invariant-loop-q
invariant-loop-q l =
    OfRecord l.w (λ g. l.q + format.first_return (drop l.q g.regions) ≡ format.first_return g.regions)
