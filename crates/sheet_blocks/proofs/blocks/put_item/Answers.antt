use mathlib.Core.Path.{ap}
use Rattle.fields.specs.declared.shape.Instruction.{Instruction}
use Rattle.sheet_words.specs.laws.PutInFrontLaws.{puts_then}
use Rattle.sheet_blocks.proofs.blocks.put_item.Goals as goal

pub returns : goal.returns
returns c = λ g s x.
    let is = c.instruction-x.ensures g x.state.stands in
    let ty = ap (λ (z : Instruction). z.ty) is in
    let opcode = ap (λ (z : Instruction). z.opcode) is in
    let reads = c.put_reads-reads.ensures g s x (ap (λ (z : Instruction). z.reads) is) in
    puts_then
    (puts_then (puts_then (puts_then reads (rw ty at c.put_word-ty.ensures)) (rw opcode at c.put_word-opcode.ensures))
    c.put-place.ensures)
    c.put_word.ensures
