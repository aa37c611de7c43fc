use mathlib.Core.Path.{sym}
use Rattle.sheet_words.specs.laws.PutInFrontLaws.{puts_as, puts_then}
use Rattle.sheet_blocks.specs.BlockParts.{exit_listed}
use Rattle.sheet_blocks.proofs.exits.put_exit.Goals as goal

pub returns : goal.returns
returns c =
    λ g s x op vs e.
    puts_as
    (puts_then (rw e at (c.put_end_values-values.ensures g s x))
    (rw (c.opcode-op.ensures g x.state.stands op vs e) at c.put_three.ensures))
    (sym (exit_listed s c.args.node op vs))
