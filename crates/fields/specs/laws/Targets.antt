-- The targets of a terminator by place, and the values passed to each (document 01: by first standing).
use Rattle.std.specs.Prelude.{◌≡◌, Bool, true, ◌||◌, ℕ, suc, ◌+◌, ◌≤◌, ◌<◌, length, get_or, eqb}
use Rattle.std.proofs.Math.Path.{refl, ap}
use Rattle.std.proofs.Common.{sym, ◌∙◌, eqb-true}
use Rattle.std.proofs.Math.Bool.{false}
use mathlib.Core.List.{List, [], ◌∷◌}
use native.Mathlib.Omega.{arith}
use Rattle.meaning.specs.Graph.{Graph, Value}
use Rattle.format.specs.Read.{got, many, counted, read_value}
use Rattle.meaning.specs.Lists.{is_in, pick, distinct_from, rank}
use Rattle.format.specs.Places.{next, after}
use Rattle.meaning.specs.facts.Tests.{clash}
use Rattle.meaning.specs.facts.Members.{seen_twice}
use Rattle.meaning.specs.facts.Distinct.{distinct_again, distinct_new, rank_here, rank_next}
use Rattle.format.specs.laws.Readers.{part, after_front}
use Rattle.record.specs.laws.Parts.{counted_parts}
use Rattle.record.specs.Stands.{words_of_record, Stands}
use Rattle.fields.specs.ItemsAndPlaces.{word_item, behind_values, again, behind_list, list_for}
use Rattle.fields.specs.laws.Repeats.{earlier, again_here}
use Rattle.fields.specs.laws.Lists.{value_fixed, counted_at, behind_values_is}
use Rattle.fields.specs.laws.Regions.{small}

module _ (w : List ℕ) (ts t : ℕ) where
  -- One turn of the search for the values passed to t.
  pub list_here : (n q p : ℕ) → eqb t (word_item w ts q) ≡ true → list_for w ts t (suc n) q p ≡ p
  unfolding list_for
  list_here n q p h = rw (h, list_for)

  pub list_next : (n q p : ℕ) → eqb t (word_item w ts q) ≡ false
      → list_for w ts t (suc n) q p ≡ list_for w ts t n (suc q) (behind_list w ts q p)
  unfolding list_for
  list_next n q p h = rw (h, list_for)

  list_again : (n q p : ℕ) → eqb t (word_item w ts q) ≡ false → again w ts q ≡ true
      → list_for w ts t (suc n) q p ≡ list_for w ts t n (suc q) p
  unfolding behind_list
  list_again n q p h a = list_next n q p h ∙ ap (λ b. list_for w ts t n (suc q) (pick b p (behind_values w p))) a

  list_new : (n q p : ℕ) → eqb t (word_item w ts q) ≡ false → again w ts q ≡ false
      → list_for w ts t (suc n) q p ≡ list_for w ts t n (suc q) (behind_values w p)
  unfolding behind_list
  list_new n q p h a = list_next n q p h ∙ ap (λ b. list_for w ts t n (suc q) (pick b p (behind_values w p))) a

  -- The search ends at the list of t's rank.
  pub record Found (xs seen : List ℕ) (q p : ℕ) : Type 0 where
    pub place : list_for w ts t (length xs) q p ≡ after (rank t (distinct_from seen xs)) (counted 0 4 read_value) (words_of_record w) p
    pub below : rank t (distinct_from seen xs) < length (distinct_from seen xs)

-- Whether a target stood before, by the words and by the list.
seen_more : (w : List ℕ) (ts q x : ℕ) (seen : List ℕ) → word_item w ts q ≡ x → ((y : ℕ) → is_in y seen ≡ is_in y (earlier w ts q)) → (y : ℕ)
    → is_in y (x ∷ seen) ≡ is_in y (earlier w ts (suc q))
unfolding earlier
seen_more w ts q x seen here same y = ap (λ z. eqb y z || is_in y seen) (sym here) ∙ ap (λ b. eqb y (word_item w ts q) || b) (same y)

module _ {w : List ℕ} {g : Graph} (s : Stands w g) (ts t : ℕ) where
  -- behind one list of passed values
  pub passed_behind : (p : ℕ) {xs : List Value} {e : ℕ} → counted 0 4 read_value (words_of_record w) p ≡ got xs e → behind_values w p ≡ e
  passed_behind p h =
      let a = counted_at w read_value 3 _ (value_fixed w) 0 4 p h in
      let few = (counted_parts 0 4 read_value (words_of_record w) p h).high_bound in
      behind_values_is a (omega (arith, a.end, small s a.inside))

  module _ (x : ℕ) (xs seen : List ℕ) (q p : ℕ) (here : word_item w ts q ≡ x) where
    found_here : is_in t seen ≡ false → eqb t x ≡ true → Found w ts t (x ∷ xs) seen q p
    unfolding after
    found_here out n =
        let new : is_in x seen ≡ false = ap (λ y. is_in y seen) (sym (eqb-true t x n)) ∙ out in
        let list = distinct_new seen x xs new in
        let first : rank t (distinct_from seen (x ∷ xs)) ≡ 0 = ap (rank t) list ∙ rank_here t x _ n in
        record {
          place =
              list_here w ts t (length xs) q p (ap (eqb t) here ∙ n)
              ∙ ap (λ k. after k (counted 0 4 read_value) (words_of_record w) p) (sym first);
          below = rw (first, list) (omega arith);
        }

    found_again : is_in x seen ≡ true → eqb t x ≡ false → again w ts q ≡ true → Found w ts t xs seen (suc q) p
        → Found w ts t (x ∷ xs) seen q p
    found_again m n stood rest =
        let list = distinct_again seen x xs m in
        record {
          place =
              list_again w ts t (length xs) q p (ap (eqb t) here ∙ n) stood ∙ rest.place
              ∙ ap (λ l. after (rank t l) (counted 0 4 read_value) (words_of_record w) p) (sym list);
          below = rw list rest.below;
        }

    found_new : is_in x seen ≡ false → eqb t x ≡ false → again w ts q ≡ false → {v : List Value} {e : ℕ}
        → counted 0 4 read_value (words_of_record w) p ≡ got v e → Found w ts t xs (x ∷ seen) (suc q) e → Found w ts t (x ∷ xs) seen q p
    found_new m n stood {v} {e} h rest =
        let list = distinct_new seen x xs m in
        let k = rank t (distinct_from (x ∷ seen) xs) in
        let later : rank t (distinct_from seen (x ∷ xs)) ≡ suc k = ap (rank t) list ∙ rank_next t x _ n in
        let front : after (suc k) (counted 0 4 read_value) (words_of_record w) p ≡ after k (counted 0 4 read_value) (words_of_record w) e =
        after_front (counted 0 4 read_value) (words_of_record w) k p
        ∙ ap (λ i. after k (counted 0 4 read_value) (words_of_record w) (next i)) h in
        record {
          place =
              list_new w ts t (length xs) q p (ap (eqb t) here ∙ n) stood
              ∙ ap (list_for w ts t (length xs) (suc q)) (passed_behind p h)
              ∙ rest.place
              ∙ sym (ap (λ i. after i (counted 0 4 read_value) (words_of_record w) p) later ∙ front);
          below = rw (later, list) (omega (arith, rest.below));
        }

    stood : q < get_or w ts 0 → ((y : ℕ) → is_in y seen ≡ is_in y (earlier w ts q)) → again w ts q ≡ is_in x seen
    stood l same = again_here w ts q l ∙ ap (λ y. is_in y (earlier w ts q)) here ∙ sym (same x)

  pub found : (xs seen : List ℕ) (q p : ℕ) {ys : List (List Value)} {e : ℕ} → q + length xs ≤ get_or w ts 0
      → ((k : ℕ) → k < length xs → word_item w ts (q + k) ≡ get_or xs k 0) → ((y : ℕ) → is_in y seen ≡ is_in y (earlier w ts q))
      → is_in t seen ≡ false → is_in t xs ≡ true → many (length (distinct_from seen xs)) (counted 0 4 read_value) (words_of_record w) p
      ≡ got ys e → Found w ts t xs seen q p
  unfolding many
  found [] seen q p few items same out in' h = absurd (clash (cc))
  found (x ∷ xs) seen q p {ys} {e} few items same out in' h =
      by_test (is_in x seen) refl (eqb t x) refl (λ seen' p' zs e' same' out' in'' h'. found xs seen' (suc q) p'
      (omega arith) rest same' out' in'' h')
    where
      here : word_item w ts q ≡ x
      here = let at : q ≡ q + 0 = omega arith in ap (word_item w ts) at ∙ items 0 (omega arith)

      rest : (k : ℕ) → k < length xs → word_item w ts (suc q + k) ≡ get_or xs k 0
      rest k l = let at : suc q + k ≡ q + suc k = omega arith in ap (word_item w ts) at ∙ items (suc k) (omega arith)

      Rest : Type 0
      Rest =
          (seen' : List ℕ) (p' : ℕ) (zs : List (List Value)) (e' : ℕ) → ((y : ℕ) → is_in y seen' ≡ is_in y (earlier w ts (suc q)))
          → is_in t seen' ≡ false → is_in t xs ≡ true → many (length (distinct_from seen' xs)) (counted 0 4 read_value)
          (words_of_record w) p' ≡ got zs e' → Found w ts t xs seen' (suc q) p'

      more : (y : ℕ) → is_in y (x ∷ seen) ≡ is_in y (earlier w ts (suc q))
      more = seen_more w ts q x seen here same

      in_rest : eqb t x ≡ false → is_in t xs ≡ true
      in_rest n = sym (ap (λ b. b || is_in t xs) n) ∙ in'

      by_test : (b : Bool) → is_in x seen ≡ b → (c : Bool) → eqb t x ≡ c → Rest → Found w ts t (x ∷ xs) seen q p
      by_test b m true n ih = found_here x xs seen q p here out n
      by_test true m false n ih =
          found_again x xs seen q p here m n (stood x xs seen q p here (omega arith) same ∙ m)
          (ih seen p ys e (λ y. sym (seen_twice y x seen m) ∙ more y) out (in_rest n) (rw (distinct_again seen x xs m) at h))
      by_test false m false n ih =
          let a = part (counted 0 4 read_value (words_of_record w) p) _ ys e (rw (distinct_new seen x xs m) at h) in
          let b = part (many (length (distinct_from (x ∷ seen) xs)) (counted 0 4 read_value) (words_of_record w) a.place) _ ys e
          a.second in
          found_new x xs seen q p here m n (stood x xs seen q p here (omega arith) same ∙ m) a.first
          (ih (x ∷ seen) a.place b.value b.place more (ap (λ b. b || is_in t seen) n ∙ out) (in_rest n) b.first)
