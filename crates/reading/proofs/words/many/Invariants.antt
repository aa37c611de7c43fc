-- The loop follows `many`, by whatever definition the reader reads.
use Rattle.std.specs.Prelude.{ℕ, List}
use Rattle.format.specs.Read.{Reader}
use Rattle.reading.specs.Answers.{ReadsBy}
use Rattle.reading.specs.laws.Turns.{Turn}
use Rattle.reading.proofs.words.many.Given as goal

abbrev pub invariant-loop : goal.invariant-loop
invariant-loop g l = (p : Reader Unit) (w : List ℕ) → ReadsBy (goal.F-post g l.read) p w → Turn p w l.initial.c l.n l.counter l.c
