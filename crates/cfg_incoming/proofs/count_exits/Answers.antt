use Rattle.nesting.specs.Nesting.{exit_targets}
use borrow.Author.Rules.{rules}
use Rattle.cfg_incoming.proofs.count_exits.Goals as goal

pub returns-clause-of_record : goal.returns-clause-of_record
unfolding exit_targets
returns-clause-of_record c = search rules
