use Rattle.cfg_merging.specs.laws.paths.RewritingLaws.{case_input_path}
use Rattle.cfg_merging.proofs.rewriting.rewrite_case_input.Goals as goal

pub returns : goal.returns
returns c = case_input_path _ _ _ _ _ _ _ c.case_input-v.ensures
    c.look_up_noting-x.ensures
    c.set_case_input.ensures
