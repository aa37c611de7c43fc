use Rattle.cfg_incoming.specs.laws.VisitsLaws.{known_visit, new_visit}
use Rattle.cfg_incoming.specs.laws.VisitsLaws.{room_known, room_new, targets_few}
use Rattle.cfg_incoming.proofs.visit.Goals as goal

pub returns-then-mark-clause-room : goal.returns-then-mark-clause-room
returns-then-mark-clause-room c =
    room_new c.requires (rw c.if-mark.true at c.mark.ensures) c.count_targets.ensures.grows c.count_exits.ensures.grows
    c.push_targets.ensures.upper_bound

pub returns-then-mark-clause-of_record : goal.returns-then-mark-clause-of_record
returns-then-mark-clause-of_record c g s v fuel h =
    new_visit v h c.requires.sized (rw c.if-mark.true at c.mark.ensures) (c.count_targets.ensures.of_record g s)
    (c.count_exits.ensures.of_record g s) (c.push_targets.ensures.of_record g s (targets_few v _ h.inside.0))

pub returns-else-mark-clause-room : goal.returns-else-mark-clause-room
returns-else-mark-clause-room c = room_known c.requires (rw c.if-mark.false at c.mark.ensures)

pub returns-else-mark-clause-of_record : goal.returns-else-mark-clause-of_record
returns-else-mark-clause-of_record c g s v fuel h = known_visit v h (rw c.if-mark.false at c.mark.ensures)
