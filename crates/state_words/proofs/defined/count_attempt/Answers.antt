use Rattle.state_words.specs.Totals.{attempted}
use mathlib.Core.Path.{◌∙◌}
use Rattle.meaning.specs.facts.Tests.{picked, passed_over}
use borrow.Author.Tests.{lt-ltb, le-ltb}
use borrow.Author.Rules.{rules}
use Rattle.state_words.proofs.defined.count_attempt.Goals as goal

pub returns-then-n-lt65535 : goal.returns-then-n-lt65535
unfolding attempted
returns-then-n-lt65535 c = (rw c.head-n.ensures at c.set_head.ensures)
    ∙ picked _ _ (rw c.head-n.ensures at (lt-ltb _ _ c.if-n-lt65535.true))

pub returns : goal.returns
unfolding attempted
returns c = passed_over _ _ (rw c.head-n.ensures at (le-ltb _ _ c.if-n-lt65535.false))
