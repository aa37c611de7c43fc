use Rattle.fields.specs.laws.Instructions.{instruction_by, instruction_at}
use Rattle.fields.proofs.instruction.Goals as goal

pub returns : goal.returns
returns c g s =
    let a = c.args in
    instruction_by _ _ (rw (← c.instruction_place-p.ensures) at (instruction_at s a.r a.b a.i))
    c.word_at.ensures c.word_at-2.ensures c.word_at-3.ensures
    c.word_at-4.ensures
