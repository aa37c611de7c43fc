-- The loop's invariant: the values from place k on are put.
use Prim.Native.Nat.{ℕ, ◌-◌, ◌<◌}
use mathlib.Core.Path.{◌≡◌}
use mathlib.Core.List.{List}
use lib.ListN.{length, get_or}
use Rattle.meaning.specs.Graph.{Value, no_value}
use Rattle.state_shown.specs.Values.{value}
use Rattle.sheet_words.specs.PutInFront.{Puts}
use Rattle.sheet_words.specs.Parts.{OfState, value_part}
use Rattle.sheet_words.specs.laws.Rows.{run}
use Rattle.sheet_words.proofs.value.put_values.Given as goal

abbrev pub invariant-loop-k : goal.invariant-loop-k
invariant-loop-k g l =
    OfState l.w (λ graph s. (vs : List Value) → l.n ≡ length vs
    → ((k x : ℕ) → k < l.n → goal.F-post g l.word_of k x → value x ≡ get_or vs k no_value)
    → Puts l.initial.out l.initial.front (run (λ j. value_part s (get_or vs j no_value)) l.k (l.n - l.k)) l.out l.front)
