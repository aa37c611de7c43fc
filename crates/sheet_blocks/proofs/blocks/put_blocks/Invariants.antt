use Prim.Native.Nat.{◌-◌}
use Rattle.meaning.specs.Graph.{region}
use Rattle.sheet_words.specs.PutInFront.{Puts}
use Rattle.sheet_words.specs.Parts.{OfState}
use Rattle.sheet_words.specs.laws.Rows.{run}
use Rattle.sheet_blocks.specs.BlockParts.{block_part}
use Rattle.sheet_blocks.proofs.blocks.put_blocks.Given as goal

abbrev pub invariant-loop-b : goal.invariant-loop-b
invariant-loop-b l =
    OfState l.w (λ g s. Puts l.initial.out l.initial.front (run (block_part s l.first l.r (region g l.r).blocks) l.b (l.n - l.b)) l.out l.front)
