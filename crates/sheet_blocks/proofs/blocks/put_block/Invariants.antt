use Prim.Native.Nat.{◌+◌, ◌-◌}
use lib.ListN.{get_or}
use Rattle.format.specs.References.{no_instr}
use Rattle.fields.specs.ByNumber.{block_of}
use Rattle.sheet_words.specs.PutInFront.{Puts}
use Rattle.sheet_words.specs.Parts.{OfState}
use Rattle.sheet_words.specs.laws.Rows.{run}
use Rattle.sheet_blocks.specs.BlockParts.{item_part}
use Rattle.sheet_blocks.proofs.blocks.put_block.Given as goal

abbrev pub invariant-loop-i : goal.invariant-loop-i
invariant-loop-i l =
    OfState l.w (λ g s. Puts l.initial.out l.initial.front (run (λ j. item_part s l.r (l.first + j) (get_or (block_of g l.r l.b) j no_instr)) l.i (l.n - l.i)) l.out l.front)
