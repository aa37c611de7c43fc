use Rattle.cfg_emits.specs.laws.paths.EmitsLaws.{bundle_refused, bundle_made}
use borrow.Author.Rules.{rules}
use Rattle.state_words.specs.laws.Filled.{full_of_err}
use Rattle.cfg_emits.proofs.emit.emit_bundle.Goals as goal

pub returns-in_err-emit_inputs : goal.returns-in_err-emit_inputs
returns-in_err-emit_inputs c =
    rw (full_of_err c.from_residual.ensures.0)
    (bundle_refused _ _ _ c.target.ensures
    c.per_case_deferred-places.ensures
    c.select_node-node.ensures
    c.emit_inputs.ensures c.in_err-emit_inputs.was)

pub returns : goal.returns
returns c =
    bundle_made _ _ _ c.target.ensures
    c.per_case_deferred-places.ensures
    c.select_node-node.ensures
    c.emit_inputs.ensures c.in_ok-emit_inputs.was
    c.emit_condition.ensures
