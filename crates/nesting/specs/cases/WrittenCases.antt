-- The stores of the proved cases, each written again from the words that it holds: the same bytes.
use Rattle.std.specs.Prelude.{◌≡◌, refl, Bool, true, false, ◌&&◌, List, [], ◌∷◌, map, ℕ, length}
use Rattle.std.proofs.Common.{ap}
use Rattle.meaning.specs.facts.Tests.{clash, and_both}
use Rattle.meaning.specs.facts.Elements.{same_numbers, numbers_same}
use Rattle.format.specs.Store.{Answer, accepted, refused, if_accepted, store_words, written}
use Rattle.format.specs.stores.Pack.{store_of_graph}
use Rattle.format.specs.stores.Quick.{quick_store_words, same_store_words}
use Rattle.nesting.specs.cases.Cases.{Case, cases}

-- What is written of the words, if they were accepted, into as many bytes as the store has.
abbrev pub written_again : List ℕ → Answer (List ℕ) → Answer (List ℕ)
written_again s a = if_accepted a λ ws. written ws (length s)

-- The store itself, if its words were accepted.
abbrev pub as_it_stands : List ℕ → Answer (List ℕ) → Answer (List ℕ)
as_it_stands s a = if_accepted a λ ws. accepted s

-- ---- the test that is computed: one bit
abbrev store_is : List ℕ → Answer (List ℕ) → Bool
store_is s (accepted t) = same_numbers t s
store_is s (refused n w) = false

abbrev same_again : List ℕ → Answer (List ℕ) → Bool
same_again s (accepted ws) = store_is s (written ws (length s))
same_again s (refused n w) = true

unfoldable all_again : List Case → Bool
all_again [] = true
all_again (c ∷ cs) = same_again c.store (quick_store_words c.store) && all_again cs

store_same : (s : List ℕ) (a : Answer (List ℕ)) → store_is s a ≡ true → a ≡ accepted s
store_same s (accepted t) e = ap accepted (numbers_same t s e)
store_same s (refused n w) e = absurd (clash (cc))

again_same : (s : List ℕ) (a : Answer (List ℕ)) → same_again s a ≡ true → written_again s a ≡ as_it_stands s a
again_same s (accepted ws) e = store_same s (written ws (length s)) e
again_same s (refused n w) e = refl

again_by : (s : List ℕ) → same_again s (quick_store_words s) ≡ true
    → written_again s (store_words s) ≡ as_it_stands s (store_words s)
again_by s e = rw (same_store_words s) (again_same s (quick_store_words s) e)

all_written : (cs : List Case) → all_again cs ≡ true
    → map (λ c. written_again c.store (store_words c.store)) cs ≡ map (λ c. as_it_stands c.store (store_words c.store)) cs
unfolding all_again
all_written [] e = refl
all_written (c ∷ cs) e =
    let h = and_both (same_again c.store (quick_store_words c.store)) (all_again cs) e in
    rw (again_by c.store h.0, all_written cs h.1)

-- For each case whose store holds words, what is written of them is that store.
pub written_cases :
    map (λ c. written_again c.store (store_words c.store)) cases
    ≡ map (λ c. as_it_stands c.store (store_words c.store)) cases
unfolding all_again quick_store_words written store_of_graph
written_cases = all_written cases refl
