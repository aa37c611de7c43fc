use mathlib.Core.Path.{◌≡◌}
use Prim.Native.Nat.{◌≤◌, ◌+◌, ◌*◌}
use lib.ListN.{length, drop}
use Rattle.meaning.specs.Graph.{region}
use Rattle.format.specs.References.{instructions}
use Rattle.record.specs.Stands.{OfRecord}
use Rattle.fields.proofs.instruction_count.Given as goal

abbrev pub invariant-loop-b : goal.invariant-loop-b
invariant-loop-b l =
    (l.sum ≤ 65535 * l.b) × OfRecord l.w (λ g. l.sum + length (instructions (drop l.b (region g l.r).blocks)) ≡ length
    (instructions (region g l.r).blocks))
