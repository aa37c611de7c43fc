use native.Mathlib.Omega.{arith}
use Prim.Native.Nat.{ℕ}
use lib.ListN.{get_or-replicate}
use Rattle.cfg_incoming.specs.laws.VisitsLaws.{room_start}
use Rattle.cfg_incoming.specs.laws.VisitsLaws.{none_left, no_fuel}
use Rattle.cfg_incoming.specs.laws.VisitsLaws.{visiting_start, visiting_popped, empty_stack}
use Rattle.cfg_incoming.proofs.incoming_edge_counts.Goals as goal

pub add_one-requires : goal.add_one-requires
add_one-requires c = record { each = λ a k. omega (arith, get_or-replicate {A = ℕ} 32 a 0 0 k) }

pub loop-turn-init : goal.loop-turn-init
loop-turn-init c = (
  room_start c.add_one.ensures,
  λ g s v. visiting_start v (omega (arith, c.visit_count-turn-end.ensures g s)) (c.entry-entry.ensures g s) c.add_one.ensures,
)

pub returns-then-depth-eq0 : goal.returns-then-depth-eq0
returns-then-depth-eq0 c g s v r l = none_left v (c.loop-turn.invariant.1 g s v) r l (empty_stack _ c.if-depth-eq0.true)

pub loop-turn-preserved : goal.loop-turn-preserved
loop-turn-preserved c = (
  c.visit-depth.ensures.room,
  λ g s v. c.visit-depth.ensures.of_record g s v _
      (visiting_popped _ _ (c.loop-turn.invariant.1 g s v) c.loop-turn-test.true c.if-depth-eq0.false),
)

pub returns : goal.returns
returns c g s v r l = no_fuel v (c.loop-turn.invariant.1 g s v) r l (omega arith)
