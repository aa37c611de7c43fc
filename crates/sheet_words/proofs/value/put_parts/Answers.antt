use borrow.Author.Tests.{eq-eqb, ne_eqb}
use Rattle.sheet_words.specs.Outputs.{value_words}
use Rattle.sheet_words.proofs.value.put_parts.Goals as goal

pub returns-then-p-eq3 : goal.returns-then-p-eq3
unfolding value_words
returns-then-p-eq3 c =
    rw (← c.parts_of-p.ensures, eq-eqb c.parts_of-p.result.kind 3 c.if-p-eq3.true)
    c.put_output.ensures

pub returns-else-p-eq3 : goal.returns-else-p-eq3
unfolding value_words
returns-else-p-eq3 c =
    rw (← c.parts_of-p.ensures, ne_eqb c.parts_of-p.result.kind 3 c.if-p-eq3.false)
    c.put_three.ensures
