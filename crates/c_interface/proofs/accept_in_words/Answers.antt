-- The answer is that of `accept`, as a number.
use Rattle.c_interface.specs.laws.Exporting.{record_exported, refusal_exported}
use Rattle.c_interface.proofs.accept_in_words.Goals as goal

pub returns-in-Ok : goal.returns-in-Ok
returns-in-Ok c = record_exported _ _ _ c.in-Ok.ensures

pub returns-in-Err : goal.returns-in-Err
returns-in-Err c = refusal_exported _ _ _ c.refused.ensures.same c.refused.ensures.small c.in-Err.ensures
