use Rattle.cfg_loops.specs.laws.paths.LoopsLaws.{loop_full, loop_made}
use Rattle.cfg_loops.specs.laws.paths.LoopsLaws.{wrapper_full}
use borrow.Author.Rules.{rules}
use Rattle.state_words.specs.laws.Filled.{full_of_err}
use Rattle.cfg_loops.proofs.loops.structurize_loop.Goals as goal

pub returns-in_err-wrapper : goal.returns-in_err-wrapper
returns-in_err-wrapper c =
    rw (full_of_err c.from_residual.ensures.0)
    (wrapper_full c.input_count-n.ensures c.backedge_inputs-vs.ensures
    c.set_length.ensures c.condition_in-condition.ensures
    c.split_out_target.ensures c.define_region.ensures
    c.in_err-wrapper.was)

pub returns-in_err-define_loop : goal.returns-in_err-define_loop
returns-in_err-define_loop c =
    rw (full_of_err c.from_residual-in_err-define_loop.ensures.0)
    (loop_full c.input_count-n.ensures c.backedge_inputs-vs.ensures
    c.set_length.ensures c.condition_in-condition.ensures
    c.split_out_target.ensures c.define_region.ensures
    c.in_ok-wrapper.was
    c.enter_inputs-kept.ensures c.define_loop.ensures c.in_err-define_loop.was)

pub returns : goal.returns
returns c =
    loop_made c.input_count-n.ensures c.backedge_inputs-vs.ensures
    c.set_length.ensures c.condition_in-condition.ensures
    c.split_out_target.ensures c.define_region.ensures
    c.in_ok-wrapper.was
    c.enter_inputs-kept.ensures
    c.define_loop.ensures
    c.in_ok-define_loop.was c.set_structured_body.ensures
    c.add_exit_edges.ensures
