use Rattle.fields.specs.ByNumber.{end_values}
use Rattle.sheet_blocks.specs.laws.RecordNames.{named_at, end_named}
use Rattle.sheet_blocks.proofs.exits.end_word.Goals as goal

pub returns : goal.returns
returns c = λ g s x h.
    let stands = x.state.stands in
    let named = end_named x.valid stands c.args.r in
    named_at (end_values g c.args.r) named c.args.k h c.value.result c.value_word.ensures (c.value.ensures g stands)
