use Prim.Native.Nat.{◌≤◌, ◌*◌}
use lib.ListN.{drop}
use Rattle.meaning.specs.Graph.{region}
use Rattle.record.specs.Stands.{OfRecord}
use Rattle.text.specs.Buffer.{Buffer, buffer, Wrote}
use Rattle.text_parts.specs.Listing.{blocks_text}
use Rattle.text_parts.proofs.blocks.put_blocks.Given as goal

abbrev pub invariant-loop-b : goal.invariant-loop-b
invariant-loop-b l =
    (l.k ≤ l.b * 65535) × OfRecord l.w (λ g. (q : Buffer) → Wrote (buffer l.out l.place) (blocks_text l.r l.k (drop l.b (region g l.r).blocks)) q
    → Wrote (buffer l.initial.out l.initial.place) (blocks_text l.r 0 (region g l.r).blocks) q)
