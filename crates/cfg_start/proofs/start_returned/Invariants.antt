use Rattle.record.specs.Stands.{OfRecord}
use Rattle.cfg_start.specs.InitialState.{ReturnedLeft}
use Rattle.cfg_start.proofs.start_returned.Given as goal

abbrev pub invariant-loop-k : goal.invariant-loop-k
invariant-loop-k l = OfRecord l.initial.w (λ g. ReturnedLeft g l.k l.initial.w l.w)
