use borrow.Author.Tests.{not-true, not-false}
use Rattle.cfg_selects.specs.laws.paths.IntoLaws.{if_full, if_made}
use Rattle.cfg_selects.specs.laws.paths.IntoLaws.{if_not}
use borrow.Author.Rules.{rules}
use Rattle.state_words.specs.laws.Filled.{full_of_err}
use Rattle.cfg_selects.proofs.into.select_if.Goals as goal

pub returns-then-not-needed : goal.returns-then-not-needed
returns-then-not-needed c = if_not _ _ _ _ _ (c.if-not-needed.true)

pub returns-in_err-h : goal.returns-in_err-h
returns-in_err-h c =
    rw (full_of_err c.from_residual.ensures.0)
    (if_full _ _ _ _ _ (c.if-not-needed.false) c.define_select.ensures c.in_err-h.was)

pub returns : goal.returns
returns c =
    if_made _ _ _ _ _ (c.if-not-needed.false)
    c.define_select.ensures c.in_ok-h.was c.emit_bundles.ensures
