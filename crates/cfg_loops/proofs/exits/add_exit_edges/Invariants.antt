use Rattle.record.specs.Stands.{OfRecord}
use Rattle.cfg_loops.specs.Exits.{ExitsLeft}
use Rattle.cfg_loops.proofs.exits.add_exit_edges.Given as goal

abbrev pub invariant-loop-i : goal.invariant-loop-i
invariant-loop-i l = OfRecord l.initial.w (λ g. ExitsLeft g l.r l.start.0 l.i-end l.i l.initial.w l.w)
