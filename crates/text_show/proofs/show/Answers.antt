use native.Mathlib.Omega.{arith}
use Rattle.text_show.specs.laws.Showing.{record_shown, refusal_shown}
use Rattle.text_show.proofs.show.Goals as goal

pub returns-in-Ok : goal.returns-in-Ok
returns-in-Ok c =
    record_shown _ _ _ _ _ _ (λ k. omega (arith, c.type_inv.bytes k)) c.in-Ok.ensures c.list.ensures

pub returns-in-Err : goal.returns-in-Err
returns-in-Err c =
    refusal_shown _ _ _ _ _ _ (λ k. omega (arith, c.type_inv.bytes k)) c.in-Err.ensures
    (rw (c.number.ensures, c.word.ensures) at c.refusal.ensures)
