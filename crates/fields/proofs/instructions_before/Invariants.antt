use mathlib.Core.Path.{◌≡◌}
use Prim.Native.Nat.{◌≤◌, ◌*◌}
use Rattle.meaning.specs.Graph.{region}
use Rattle.record.specs.Stands.{OfRecord}
use Rattle.fields.specs.ByNumber.{instructions_before}
use Rattle.fields.proofs.instructions_before.Given as goal

abbrev pub invariant-loop-q : goal.invariant-loop-q
invariant-loop-q l =
    (l.instructions ≤ 65535 * l.q) × OfRecord l.w (λ g. l.instructions ≡ instructions_before (region g l.r).blocks l.q)
