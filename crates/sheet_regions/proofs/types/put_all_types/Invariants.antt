use mathlib.Core.List.{[], ◌∷◌}
use Prim.Native.Nat.{◌-◌}
use lib.ListN.{get_or}
use Rattle.meaning.specs.Graph.{region}
use Rattle.nesting.specs.Nesting.{plain}
use Rattle.record.specs.Stands.{OfRecord}
use Rattle.sheet_words.specs.PutInFront.{Puts}
use Rattle.sheet_words.specs.laws.Rows.{run}
use Rattle.sheet_regions.proofs.types.put_all_types.Given as goal

abbrev pub invariant-loop-k : goal.invariant-loop-k
invariant-loop-k l =
    OfRecord l.w (λ g. Puts l.initial.out l.initial.front (run (λ j. plain (get_or (region g l.r).inputs j 0 ∷ [])) l.k (l.n - l.k)) l.out l.front)
