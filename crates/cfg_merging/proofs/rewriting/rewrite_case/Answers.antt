use Rattle.cfg_merging.specs.laws.paths.RewritingLaws.{case_path}
use Rattle.cfg_merging.proofs.rewriting.rewrite_case.Goals as goal

pub returns : goal.returns
returns c =
    case_path _ _ _ _ _ _ c.rewrite_given.ensures
    c.case_start-start.ensures c.case_length-n.ensures c.rewrite_set.ensures
