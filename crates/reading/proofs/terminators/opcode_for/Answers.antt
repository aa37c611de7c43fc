-- Of kind 2 one word is read, else none.
use Rattle.std.proofs.Common.{refl, eq-eqb, ne_eqb}
use Rattle.reading.specs.laws.TerminatorsForgotten.{opcode_none, opcode_word}
use Rattle.reading.specs.laws.AnswerSteps.{reads_rest}
use Rattle.reading.proofs.terminators.opcode_for.Goals as goal

pub returns-then-k-eq-TERMINATOR_EXIT : goal.returns-then-k-eq-TERMINATOR_EXIT
returns-then-k-eq-TERMINATOR_EXIT c =
    reads_rest _ _ _ _ _ refl (opcode_word _ _ _ (eq-eqb _ _ c.if-k-eq-TERMINATOR_EXIT.true)) _ c.past_word.ensures

pub returns : goal.returns
returns c = record { is = opcode_none _ _ _ (ne_eqb _ _ c.if-k-eq-TERMINATOR_EXIT.false); same = refl }
