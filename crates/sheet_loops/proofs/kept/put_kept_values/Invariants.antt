-- The loop's invariant: the inputs behind list h are put, n of them.
use Prim.Native.Nat.{◌+◌, ◌≤◌}
use Rattle.state_shown.specs.Values.{value}
use Rattle.sheet_words.specs.Parts.{OfState, value_part}
use Rattle.sheet_regions.specs.Kept.{kept_word, CellsPut}
use Rattle.sheet_loops.proofs.kept.put_kept_values.Given as goal

abbrev pub invariant-loop-h : goal.invariant-loop-h
invariant-loop-h l =
    OfState l.w (λ g s. CellsPut l.w (λ q. value_part s (value (kept_word l.w l.back q))) l.initial.h.0 l.h.0 l.n l.initial.out l.initial.to l.out l.to)
    × (l.n + l.h.0 ≤ l.initial.h.0)

abbrev pub decreases-loop-h : goal.decreases-loop-h
decreases-loop-h l = l.h.0
