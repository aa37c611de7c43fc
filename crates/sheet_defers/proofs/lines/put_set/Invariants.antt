-- The loop's invariant: the lines from bundle i on are put.
use Prim.Native.Nat.{◌-◌}
use Rattle.nesting.specs.Nesting.{DeferredEdgeBundleSet}
use Rattle.state_shown.specs.States.{ShowsOwnSet}
use Rattle.sheet_words.specs.PutInFront.{Puts}
use Rattle.sheet_words.specs.laws.Rows.{run}
use Rattle.sheet_words.specs.Parts.{OfState}
use Rattle.sheet_defers.specs.laws.DeferParts.{defer_at}
use Rattle.sheet_defers.proofs.lines.put_set.Given as goal

abbrev pub invariant-loop-i : goal.invariant-loop-i
invariant-loop-i l =
    OfState l.w (λ g s. (d : DeferredEdgeBundleSet) → ShowsOwnSet g l.w l.r d → Puts l.initial.out l.initial.to (run (defer_at s l.r d) l.i (l.n - l.i)) l.out l.to)
