use mathlib.Core.Path.{sym}
use Prim.Native.Nat.{◌+◌}
use lib.ListN.{get_or}
use Rattle.format.specs.References.{no_instr}
use Rattle.fields.specs.ByNumber.{block_of}
use Rattle.sheet_words.specs.laws.PutInFrontLaws.{puts_as, puts_then}
use Rattle.sheet_words.specs.laws.Rows.{run_start, run_turn}
use Rattle.sheet_words.specs.laws.PartLaws.{puts_from}
use Rattle.sheet_blocks.specs.BlockParts.{item_part, block_listed}
use Rattle.sheet_blocks.proofs.blocks.put_block.Goals as goal

pub loop-i-init : goal.loop-i-init
loop-i-init c = λ g s x. run_start _ _ _ _

pub loop-i-preserved : goal.loop-i-preserved
loop-i-preserved c = λ g s x.
    let is = block_of g c.args.r c.args.b in
    let first = c.instructions_before-first.result in
    run_turn (λ j. item_part s c.args.r (first + j) (get_or is j no_instr)) _ _ c.loop-i-test.true
    c.loop-i.auto.i (c.loop-i.invariant g s x) (rw c.from.ensures at (c.put_item-front.ensures g s x))

pub returns : goal.returns
returns c = λ g s x.
    let stands = x.state.stands in
    let is = block_of g c.args.r c.args.b in
    let size = c.block_length-n.ensures g stands in
    let items = puts_from (item_part s c.args.r) no_instr c.instructions_before-first.result is size
    c.loop-i-test.false (c.loop-i.invariant g s x) in
    puts_as
    (puts_then (puts_then (puts_then items (rw size at c.put_word-items.ensures)) c.put-number.ensures)
    c.put_word.ensures)
    (rw (c.instructions_before-first.ensures.of_record g stands) (sym (block_listed s c.args.r c.args.node _ is)))
