use Rattle.state_words.specs.laws.Stored.{two_and_run}
use Rattle.state_nodes.specs.NodeTables.{output_defined, outputs_full}
use Rattle.state_words.specs.Sections.{stored_all_at}
use mathlib.Core.Path.{refl}
use native.Mathlib.Omega.{arith}
use borrow.Author.Rules.{rules}
use Rattle.state_nodes.proofs.outputs.define_output.Goals as goal

pub returns-then-o-lt-MOST_OUTPUTS : goal.returns-then-o-lt-MOST_OUTPUTS
returns-then-o-lt-MOST_OUTPUTS c =
    output_defined c.output_count-o.ensures
    c.if-o-lt-MOST_OUTPUTS.true
    (rw (two_and_run _ _ _ _ _ _ _ c.put.ensures
    c.put-then-o-lt-MOST_OUTPUTS.ensures c.put_all.ensures) at c.set_head.ensures)

pub returns : goal.returns
unfolding stored_all_at
returns c = outputs_full (omega (arith, c.output_count-o.ensures)) refl
