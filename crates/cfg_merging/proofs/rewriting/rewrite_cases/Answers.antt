use Rattle.cfg_merging.specs.Rewriting.{rewrite_cases}
use Rattle.cfg_merging.specs.laws.paths.RewritingLaws.{front_case}
use Rattle.cfg_merging.specs.Turns.{left_next, left_last}
use mathlib.Core.Path.{◌∙◌}
use Rattle.cfg_merging.proofs.rewriting.rewrite_cases.Goals as goal

pub loop-j-preserved : goal.loop-j-preserved
loop-j-preserved c = left_next _ _ _ _ _ _ c.loop-j.invariant (λ g m k. front_case g m k)
    c.loop-j-test.true _ c.rewrite_case.ensures

pub returns : goal.returns
unfolding rewrite_cases
returns c = λ g st. left_last _ _ _ _ _ _ c.loop-j.invariant c.loop-j-test.false g st ∙ rw c.case_count-n.ensures
