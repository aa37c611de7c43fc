-- Whether an item of a list of words stands earlier in the list too: by the words, and by the list.
use Rattle.std.specs.Prelude.{◌≡◌, Bool, ◌||◌, ◌&&◌, List, [], ◌∷◌, length}
use Rattle.std.proofs.Math.Path.{refl, sym, ap}
use Rattle.std.proofs.Common.{◌∙◌, arith}
use Rattle.std.proofs.Math.Bool.{true, false, or_comm}
use Prim.Native.Nat.{ℕ, zero, suc, ◌+◌, ◌≤◌, ◌<◌}
use Rattle.std.proofs.Math.ListN.{get_or}
use Rattle.std.proofs.Math.Dec.{eqb, ltb}
use borrow.Author.Tests.{lt-ltb, le-ltb, ltb-true}
use Rattle.meaning.specs.Lists.{is_in}
use Rattle.reading.specs.Readings.{stands}
use Rattle.fields.specs.ByNumber.{before, stands_before}
use Rattle.fields.specs.ItemsAndPlaces.{word_item, again}
use Rattle.fields.specs.laws.Lists.{ListAt, word_item_is}

-- Within the list.
pub stands_within : (xs : List ℕ) (k : ℕ) → k < length xs → stands_before xs k ≡ is_in (get_or xs k 0) (before xs k)
unfolding stands_before
stands_within xs k l = rw (lt-ltb k (length xs) l)

module _ (w : List ℕ) (p : ℕ) where
  -- The first q items of the list at p, the last first.
  unfoldable pub earlier : ℕ → List ℕ
  earlier zero = []
  earlier (suc q) = word_item w p q ∷ earlier q

  item_here : (q : ℕ) → q < get_or w p 0 → word_item w p q ≡ get_or w (p + 1 + q) 0
  unfolding word_item
  item_here q l = rw (lt-ltb q (get_or w p 0) l)

  stands_earlier : (x q : ℕ) → q ≤ get_or w p 0 → stands w (p + 1) x q ≡ is_in x (earlier q)
  unfolding stands earlier
  stands_earlier x zero l = refl
  stands_earlier x (suc q) l =
      or_comm (stands w (p + 1) x q) (eqb x (get_or w (p + 1 + q) 0))
      ∙ ap (λ y. eqb x y || stands w (p + 1) x q) (sym (item_here q (omega arith)))
      ∙ ap (λ b. eqb x (word_item w p q) || b) (stands_earlier x q (omega arith))

  pub again_here : (q : ℕ) → q < get_or w p 0 → again w p q ≡ is_in (word_item w p q) (earlier q)
  unfolding again
  again_here q l =
      ap (λ b. b && stands w (p + 1) (get_or w (p + 1 + q) 0) q) (lt-ltb q (get_or w p 0) l)
      ∙ stands_earlier (get_or w (p + 1 + q) 0) q (omega arith)
      ∙ ap (λ y. is_in y (earlier q)) (sym (item_here q l))

  -- what the code answers, which has the count n
  pub again_by : (q : ℕ) {n : ℕ} {a : Bool} → n ≡ get_or w p 0 → q < n → a ≡ stands w (p + 1) (get_or w (p + 1 + q) 0) q → a ≡ again w p q
  unfolding again
  again_by q {n} count l h = h ∙ sym (ap (λ b. b && stands w (p + 1) (get_or w (p + 1 + q) 0) q) (lt-ltb q (get_or w p 0) (omega arith)))

  pub not_again : (q : ℕ) {n : ℕ} → n ≡ get_or w p 0 → n ≤ q → false ≡ again w p q
  unfolding again
  not_again q {n} count l = sym (ap (λ b. b && stands w (p + 1) (get_or w (p + 1 + q) 0) q) (le-ltb q (get_or w p 0) (omega arith)))

module _ (w : List ℕ) {p : ℕ} {xs : List ℕ} (l : ListAt w 1 (λ at. get_or w at 0) p xs) where
  earlier_is : (k : ℕ) → earlier w p k ≡ before xs k
  unfolding earlier before
  earlier_is zero = refl
  earlier_is (suc k) = ap (λ x. x ∷ earlier w p k) (word_item_is w l k) ∙ ap (λ ys. get_or xs k 0 ∷ ys) (earlier_is k)

  pub again_is : (k : ℕ) → again w p k ≡ stands_before xs k
  unfolding again stands_before
  again_is k = by_test (ltb k (length xs)) refl
    where
      by_test : (b : Bool) → ltb k (length xs) ≡ b → again w p k ≡ stands_before xs k
      by_test true q =
          let below = ltb-true k (length xs) q in
          again_here w p k (omega (arith, l.count))
          ∙ ap (λ x. is_in x (earlier w p k)) (word_item_is w l k)
          ∙ ap (is_in (get_or xs k 0)) (earlier_is k)
          ∙ sym (stands_within xs k below)
      by_test false q =
          ap (λ n. ltb k n && stands w (p + 1) (get_or w (p + 1 + k) 0) k) l.count
          ∙ ap (λ b. b && stands w (p + 1) (get_or w (p + 1 + k) 0) k) q
          ∙ sym (ap (λ b. b && is_in (get_or xs k 0) (before xs k)) q)
