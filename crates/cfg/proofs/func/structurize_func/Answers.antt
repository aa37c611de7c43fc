-- What the words say after each way through is what the definition says of the graph.
use Rattle.cfg.specs.laws.paths.FuncLaws.{stood_begun, func_untouched, func_concluded, of_refused}
use Rattle.cfg.specs.laws.shown.FuncShownLaws.{structurize_func_shown}
use Rattle.std.proofs.lemmas.Result.{err_from_is_err_and}
use Rattle.cfg.proofs.func.structurize_func.Goals as goal

pub returns-then-not-entered_once : goal.returns-then-not-entered_once
returns-then-not-entered_once c =
    λ g st valid. structurize_func_shown g valid st c.requires.room
    (func_untouched c.before_claim-counts.ensures c.requires c.entered_once.ensures g st valid c.if-not-entered_once.true)

pub claim_entry-requires : goal.claim_entry-requires
claim_entry-requires c = stood_begun c.before_claim-counts.ensures c.requires

pub returns-in_err-claim : goal.returns-in_err-claim
returns-in_err-claim c =
    let refused = err_from_is_err_and c.from_residual.result c.from_residual.ensures.1 in
    rw (refused.1, refused.2)
    λ g st valid. structurize_func_shown g valid st c.requires.room
    (func_concluded c.before_claim-counts.ensures c.requires c.entered_once.ensures g st valid c.if-not-entered_once.false
    c.claim_entry.ensures (λ h on. of_refused c.in_err-claim.was))

pub returns : goal.returns
returns c =
    λ g st valid. structurize_func_shown g valid st c.requires.room
    (func_concluded c.before_claim-counts.ensures c.requires c.entered_once.ensures g st valid c.if-not-entered_once.false
    c.claim_entry.ensures (rw c.in_ok-claim.was c.conclude.ensures))
