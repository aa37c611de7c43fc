use Rattle.fields.specs.ByNumber.{instr_of}
use Rattle.sheet_blocks.specs.laws.RecordNames.{named_at, instr_named}
use Rattle.sheet_blocks.proofs.blocks.read_word.Goals as goal

pub returns : goal.returns
returns c = λ g s x h.
    let stands = x.state.stands in
    let reads = (instr_of g c.args.r c.args.b c.args.i).reads in
    let named = instr_named x.valid stands c.args.r c.args.b c.args.i in
    named_at reads named c.args.k h c.read.result c.value_word.ensures (c.read.ensures g stands)
