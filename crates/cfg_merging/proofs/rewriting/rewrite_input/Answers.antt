use Rattle.cfg_merging.specs.laws.paths.RewritingLaws.{input_path}
use Rattle.cfg_merging.proofs.rewriting.rewrite_input.Goals as goal

pub returns : goal.returns
returns c = input_path _ _ _ _ _ _ _ c.target_input-v.ensures c.look_up_noting-x.ensures
    c.set_target_input.ensures
