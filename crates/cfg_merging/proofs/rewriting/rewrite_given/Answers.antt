use Rattle.cfg_merging.specs.laws.paths.RewritingLaws.{given_path, none_given}
use borrow.Author.Rules.{rules}
use Rattle.cfg_merging.proofs.rewriting.rewrite_given.Goals as goal

pub returns-then-eq : goal.returns-then-eq
returns-then-eq c = given_path _ _ _ c.case_kind.ensures (search rules) c.rewrite_inputs.ensures

pub returns-else-eq : goal.returns-else-eq
returns-else-eq c = none_given _ _ _ c.case_kind.ensures (search rules)
