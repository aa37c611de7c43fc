use Prim.Native.Nat.{◌-◌}
use Rattle.format.specs.Valid.{Valid}
use Rattle.record.specs.Stands.{OfRecord}
use Rattle.fields.specs.ByNumber.{before}
use Rattle.cfg_incoming.specs.Visits.{Room, Visiting}
use Rattle.cfg_incoming.proofs.incoming_edge_counts.Given as goal

abbrev pub invariant-loop-turn : goal.invariant-loop-turn
invariant-loop-turn l =
    Room l.seen l.counts l.depth × OfRecord l.w (λ g. Valid g → Visiting g (l._turn-end - l._turn) (before l.todo l.depth) l.seen l.counts)
