use Rattle.cfg_selects.specs.laws.paths.IntoLaws.{into_refused, into_one, into_none, into_all}
use Rattle.state_words.specs.laws.Filled.{full_of_err}
use native.Mathlib.Omega.{arith}
use borrow.Author.Rules.{rules}
use Rattle.cfg_selects.proofs.into.structurize_select_into.Goals as goal

pub returns-in_err-structurize_select : goal.returns-in_err-structurize_select
returns-in_err-structurize_select c =
    let found = rw c.in-Some.is at c.convergent_case.ensures in
    rw (full_of_err c.from_residual.ensures.0)
    (into_refused _ _ _ _ found.place found.few
    c.case_at-x.ensures
    c.unclaimed_case.ensures
    c.set_case.ensures c.structurize_select.ensures c.in_err-structurize_select.was)

pub returns-in-Some : goal.returns-in-Some
returns-in-Some c =
    let found = rw c.in-Some.is at c.convergent_case.ensures in
    into_one _ _ _ _ found.place found.few
    c.case_at-x.ensures
    c.unclaimed_case.ensures
    c.set_case.ensures c.structurize_select.ensures
    c.in_ok-structurize_select.was c.append_maybe_claimed_region.ensures

pub returns-in_err-structurize_select-2 : goal.returns-in_err-structurize_select-2
returns-in_err-structurize_select-2 c =
    let found = rw c.in_default.is at c.convergent_case.ensures in
    rw (full_of_err c.from_residual-in_err-structurize_select-2.ensures.0)
    (into_none _ _ _ _ found.place (omega arith) c.structurize_select-2.ensures
    c.in_err-structurize_select-2.was)

pub returns : goal.returns
returns c =
    let found = rw c.in_default.is at c.convergent_case.ensures in
    into_all _ _ _ _ found.place (omega arith) c.structurize_select-2.ensures
    c.in_ok-structurize_select-2.was c.take_spare.ensures
