use native.Mathlib.Omega.{arith}
use Rattle.std.proofs.lemmas.Result.{err_from_is_err_and}
use Rattle.nester.specs.laws.NestingStore.{stood_loaded, nest_accepted, nest_refused}
use Rattle.nester.proofs.nest.Goals as goal

pub nest_record-requires : goal.nest_record-requires
nest_record-requires c = stood_loaded c.accept.ensures c.in_ok-accept.was (omega arith)

pub returns : goal.returns
returns c = nest_accepted c.accept.ensures c.in_ok-accept.was c.nest_record.ensures

pub returns-in_err-accept : goal.returns-in_err-accept
returns-in_err-accept c =
    let p = err_from_is_err_and c.from_residual.result c.from_residual.ensures.1 in
    rw (p.1, p.2) (nest_refused c.accept.ensures _ c.in_err-accept.was)
