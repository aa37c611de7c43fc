use Rattle.cfg_merging.specs.laws.paths.RewritingLaws.{inputs_path}
use Rattle.cfg_merging.specs.Turns.{turn_next}
use Rattle.cfg_merging.proofs.rewriting.rewrite_inputs.Goals as goal

pub loop-k-preserved : goal.loop-k-preserved
loop-k-preserved c = rw c.rewrite_case_input.ensures
    (turn_next _ _ _ _ c.loop-k.invariant c.loop-k-test.true)

pub returns : goal.returns
returns c = inputs_path _ _ _ _ _ _ c.loop-k-test.false c.case_origin.ensures
    c.input_count-n.ensures c.loop-k.invariant
