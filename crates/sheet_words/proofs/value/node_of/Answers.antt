use Rattle.meaning.specs.facts.Tests.{is_below, not_below}
use Rattle.sheet_words.specs.Outputs.{node_of}
use Rattle.sheet_words.proofs.value.node_of.Goals as goal

pub returns-then-o-output_count : goal.returns-then-o-output_count
unfolding node_of
returns-then-o-output_count c = rw (is_below c.if-o-output_count.true c.output_count.ensures) c.output_node.ensures

pub returns-else-o-output_count : goal.returns-else-o-output_count
unfolding node_of
returns-else-o-output_count c = rw (not_below c.if-o-output_count.false c.output_count.ensures)
