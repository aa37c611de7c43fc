use Rattle.references.specs.laws.Steps.{not_named, is_named}
use Rattle.references.proofs.named_right.Goals as goal

pub returns-then-type_in-eq0 : goal.returns-then-type_in-eq0
returns-then-type_in-eq0 c g s = not_named g _ _ _ (c.type_in.ensures g s) c.if-type_in-eq0.true

pub returns-else-type_in-eq0 : goal.returns-else-type_in-eq0
returns-else-type_in-eq0 c g s = is_named g _ _ _ (c.type_in.ensures g s) c.if-type_in-eq0.false
