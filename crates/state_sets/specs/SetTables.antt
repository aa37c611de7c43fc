-- What a step does to bundles and their sets.
use Rattle.std.specs.Prelude.{◌≡◌, Option, None, Some, List, [], ◌∷◌, ℕ, zero, suc, ◌+◌, ◌*◌, ◌-◌, ltb, eqb}
use Rattle.state_words.specs.Sections.{word, stored, stored_all, bundles, set_starts, set_lengths}
use Rattle.meaning.specs.Lists.{pick}
use Rattle.state_words.specs.declared.bundle_numbers.BundleNumber.{BundleNumber}
use Rattle.state_words.specs.Rows.{bundle_input, bundle_input_at, bundle_row_at, bundle_target, bundle_word}
use Rattle.state_words.specs.Rows.{most_bundles}
use Rattle.state_words.specs.Rows.{no_bundle_word, own_edges_from}
use Rattle.state_words.specs.Rows.{slot_count, slot_size}

unfoldable pub slot : ℕ → ℕ
slot r = pick (ltb r slot_count) (slot_size * r) no_bundle_word

unfoldable pub own_edge : ℕ → ℕ
own_edge j = pick (ltb j 8) (own_edges_from + j) no_bundle_word

unfoldable pub bundle_at : ℕ → ℕ → ℕ
bundle_at start i = pick (ltb start most_bundles) (pick (ltb i slot_size) (start + i) no_bundle_word) no_bundle_word

abbrev pub bundle_words : List ℕ → ℕ → List ℕ
bundle_words l b =
    let field : ℕ → ℕ = λ i. bundle_word l b i in
    field 0 ∷ field 1 ∷ field 2 ∷ field 3 ∷ field 4 ∷ field 5 ∷ field 6 ∷ []

-- Input k of a bundle; there are four at most.
unfoldable pub input_word : List ℕ → ℕ → ℕ → ℕ
input_word l b k = pick (ltb k 4) (bundle_input l b k) 0

unfoldable pub input_stored : List ℕ → ℕ → ℕ → ℕ → List ℕ
input_stored l b k v = pick (ltb k 4) (stored l bundles (bundle_input_at b k) v) l

-- Two slots change hands.
abbrev pub swapped : List ℕ → ℕ → ℕ → List ℕ
swapped l a b = stored (stored l set_starts a (word l set_starts b)) set_starts b (word l set_starts a)

-- The first bundle to a target among n from `start` on, of which i were passed.
unfoldable pub find_by : List ℕ → ℕ → ℕ → ℕ → ℕ → ℕ
find_by l start t zero i = no_bundle_word
find_by l start t (suc n) i = pick (eqb (bundle_target l (bundle_at start i)) t) (bundle_at start i) (find_by l start t n (suc i))

-- What a search answered, as a number.
abbrev pub number_of : Option BundleNumber → ℕ
number_of None = no_bundle_word
number_of (Some b) = b.0

-- A bundle that was found has a number of its own.
abbrev pub Numbered : Option BundleNumber → Type 0
Numbered None = Unit
Numbered (Some b) = b.0 ≡ no_bundle_word → ⊥

-- ---- A bundle leaves its set: the last takes its place, or those behind it move up.
abbrev pub bundle_copied : List ℕ → ℕ → ℕ → List ℕ
bundle_copied l to from = stored_all l bundles (bundle_row_at to) (bundle_words l from)

-- k bundles behind bundle i.
unfoldable pub shifted : List ℕ → ℕ → ℕ → ℕ → List ℕ
shifted l start i zero = l
shifted l start i (suc k) = shifted (bundle_copied l (bundle_at start i) (bundle_at start (suc i))) start (suc i) k

unfoldable pub swap_removed : List ℕ → ℕ → ℕ → List ℕ
swap_removed l r b =
    let n = word l set_lengths r in
    pick (eqb n 0) l (stored (bundle_copied l b (bundle_at (word l set_starts r) (n - 1))) set_lengths r (n - 1))

unfoldable pub shift_removed : List ℕ → ℕ → ℕ → List ℕ
shift_removed l r i =
    let n = word l set_lengths r in
    pick (eqb n 0) l (stored (shifted l (word l set_starts r) i (n - 1 - i)) set_lengths r (n - 1))
