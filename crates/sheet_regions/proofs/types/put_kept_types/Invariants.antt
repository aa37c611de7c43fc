-- The loop's invariant: the inputs behind list h are put, n of them.
use mathlib.Core.List.{[], ◌∷◌}
use Prim.Native.Nat.{◌+◌, ◌≤◌}
use Rattle.nesting.specs.Nesting.{plain}
use Rattle.sheet_words.specs.Parts.{OfState}
use Rattle.sheet_regions.specs.Kept.{kept_type, CellsPut}
use Rattle.sheet_regions.proofs.types.put_kept_types.Given as goal

abbrev pub invariant-loop-h : goal.invariant-loop-h
invariant-loop-h l =
    OfState l.w (λ g s. CellsPut l.w (λ q. plain (kept_type g l.w l.r q ∷ [])) l.initial.h.0 l.h.0 l.n l.initial.out l.initial.to l.out l.to)
    × (l.n + l.h.0 ≤ l.initial.h.0)

abbrev pub decreases-loop-h : goal.decreases-loop-h
decreases-loop-h l = l.h.0
