use borrow.Author.Rules.{rules}
use native.Mathlib.Omega.{arith}
use Rattle.fields.specs.laws.Turns.{instr_turn, instr_stop}
use Rattle.fields.proofs.places.behind_instructions.Goals as goal

pub loop-preserved : goal.loop-preserved
loop-preserved c = (
  search rules,
  rw (c.behind_values-p.ensures, c.place.ensures)
      (instr_turn _ _ _ _ _ c.loop-test.true c.loop.invariant.1),
)

pub returns : goal.returns
returns c = instr_stop _ _ _ _ _ c.loop-test.false c.loop.invariant.1
