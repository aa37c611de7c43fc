use Rattle.references.specs.laws.Steps.{not_typed, other_type, right_type}
use Rattle.references.proofs.named_of_type.Goals as goal

pub returns-then-found-eq0 : goal.returns-then-found-eq0
returns-then-found-eq0 c g s =
    not_typed g _ _ _ (rw (c.instruction_count.ensures g s) at (c.type_in-found.ensures g s)) c.if-found-eq0.true

pub returns-then-found-t : goal.returns-then-found-t
returns-then-found-t c g s =
    other_type g _ _ _ (rw (c.instruction_count.ensures g s) at (c.type_in-found.ensures g s))
    c.if-found-eq0.false c.if-found-t.true

pub returns : goal.returns
returns c g s =
    right_type g _ _ _ (rw (c.instruction_count.ensures g s) at (c.type_in-found.ensures g s))
    c.if-found-eq0.false c.if-found-t.false
