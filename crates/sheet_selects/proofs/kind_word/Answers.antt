use borrow.Author.Tests.{eq-eqb, ne_eqb}
use Rattle.sheet_selects.specs.SelectLines.{kind_word}
use Rattle.sheet_selects.proofs.kind_word.Goals as goal

pub returns-then-shape-eq-BOOL_COND : goal.returns-then-shape-eq-BOOL_COND
unfolding kind_word
returns-then-shape-eq-BOOL_COND c = rw (eq-eqb c.args.shape 0 c.if-shape-eq-BOOL_COND.true)

pub returns-else-shape-eq-BOOL_COND : goal.returns-else-shape-eq-BOOL_COND
unfolding kind_word
returns-else-shape-eq-BOOL_COND c = rw (ne_eqb c.args.shape 0 c.if-shape-eq-BOOL_COND.false)
