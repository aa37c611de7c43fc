use Rattle.state_nodes.specs.NodeTables.{earlier_part}
use mathlib.Core.Path.{◌∙◌}
use Rattle.meaning.specs.facts.Tests.{picked, passed_over}
use borrow.Author.Tests.{lt-ltb, le-ltb}
use borrow.Author.Rules.{rules}
use Rattle.state_nodes.proofs.conditions.cond_part.Goals as goal

pub returns-then-p-c : goal.returns-then-p-c
unfolding earlier_part
returns-then-p-c c = c.cond_word-p.ensures ∙ picked _ _ (rw c.cond_word-p.ensures at (lt-ltb _ _ c.if-p-c.true))

pub returns : goal.returns
unfolding earlier_part
returns c = passed_over _ _ (rw c.cond_word-p.ensures at (le-ltb _ _ c.if-p-c.false))
