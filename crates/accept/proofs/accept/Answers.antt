-- The store is refused, reading is, or the references decide.
use native.Mathlib.Omega.{arith}
use Rattle.std.proofs.lemmas.Result.{err_from_is_err_and}
use Rattle.accept.specs.laws.Judging.{unread, by_references}
use Rattle.accept.specs.laws.AcceptSteps.{store_refused, record_judged}
use Rattle.accept.proofs.accept.Goals as goal

pub returns-in_err-load : goal.returns-in_err-load
returns-in_err-load c =
    let p = err_from_is_err_and c.from_residual.result c.from_residual.ensures.1 in
    rw (p.1, p.2) (store_refused _ _ _ (rw c.in_err-load.was at c.load.ensures))

pub returns-in_err-read_record : goal.returns-in_err-read_record
returns-in_err-read_record c =
    let p = err_from_is_err_and c.from_residual-in_err-read_record.result c.from_residual-in_err-read_record.ensures.1 in
    rw (p.1, p.2)
    (record_judged _ _ _ (omega arith) (rw c.in_ok-load.was at c.load.ensures) _ (unread c.read_record.ensures c.in_err-read_record.was))

pub returns : goal.returns
returns c =
    record_judged _ _ _ (omega arith) (rw c.in_ok-load.was at c.load.ensures) _
    (by_references c.read_record.ensures c.in_ok-read_record.was c.references.ensures)
