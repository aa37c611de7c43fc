use Rattle.cfg_merging.specs.laws.paths.RewritingLaws.{bundle_path}
use Rattle.cfg_merging.specs.Turns.{turn_next}
use Rattle.cfg_merging.proofs.rewriting.rewrite_bundle.Goals as goal

pub loop-k-preserved : goal.loop-k-preserved
loop-k-preserved c = rw c.rewrite_input.ensures
    (turn_next _ _ _ _ c.loop-k.invariant c.loop-k-test.true)

pub returns : goal.returns
returns c = bundle_path _ _ _ _ _ _ c.loop-k-test.false c.target.ensures
    c.target_input_count-n.ensures c.loop-k.invariant
