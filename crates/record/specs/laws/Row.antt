-- Storing a row of words one after the other, and what stays as it was.
use Rattle.std.specs.Prelude.{◌≡◌, refl, Bool, true, false, List, ℕ, ◌+◌, ◌-◌, ◌≤◌, ◌<◌, min, length, get_or, set, take, drop, eqb, ltb}
use Rattle.std.proofs.Common.{sym, ap, subst, ◌∙◌, arith, length-set, length-take, length-drop, get_or-set_same, get_or-set_other, get_or-take, get_or-drop, ext_get_or, eqb-true, ltb-true, ltb-false}
use Rattle.std.proofs.lemmas.Bool.{eqb-false}
use Rattle.record.specs.Index.{Row}

pub row_none : (old : List ℕ) (at : ℕ) (f : ℕ → ℕ) → Row old old at 0 f
row_none old at f = record { size = refl; below = λ k l. refl; above = λ k l. refl; row = λ k l. absurd (omega arith) }

-- one word more
pub row_next : (old new : List ℕ) (at n : ℕ) (f : ℕ → ℕ) {v : ℕ} → Row old new at n f → at + n < length old → v ≡ f n
    → Row old (set new (at + n) v) at (n + 1) f
row_next old new at n f {v} r l h =
    record {
      size = length-set new (at + n) v ∙ r.size;
      below = λ k below. get_or-set_other new (at + n) k v 0 (λ q. omega arith) ∙ r.below k below;
      above = λ k above. get_or-set_other new (at + n) k v 0 (λ q. omega arith) ∙ r.above k (omega arith);
      row = λ k below. by_place k below (eqb k n) refl;
    }
  where
    by_place : (k : ℕ) → k < n + 1 → (t : Bool) → eqb k n ≡ t → get_or (set new (at + n) v) (at + k) 0 ≡ f k
    by_place k below true q = let same : k ≡ n = eqb-true k n q in rw same (get_or-set_same new (at + n) v 0 (omega (arith, r.size)) ∙ h)
    by_place k below false q =
        let other = eqb-false k n q in
        get_or-set_other new (at + n) (at + k) v 0 (λ p. other (omega arith)) ∙ r.row k (omega (arith, other))

pub row_end : (old new : List ℕ) (at n m : ℕ) (f : ℕ → ℕ) → n ≤ m → m ≤ n → Row old new at n f → Row old new at m f
row_end old new at n m f p q r = let same : n ≡ m = omega arith in subst (λ k. Row old new at k f) same r

-- two rows, one after the other
pub row_join : (old mid new : List ℕ) (at n m : ℕ) (f g : ℕ → ℕ) → Row old mid at n f → Row mid new (at + n) m g
    → ((k : ℕ) → g k ≡ f (n + k)) → Row old new at (n + m) f
row_join old mid new at n m f g a b same =
    record {
      size = b.size ∙ a.size;
      below = λ k l. b.below k (omega arith) ∙ a.below k l;
      above = λ k l. b.above k (omega arith) ∙ a.above k (omega arith);
      row = λ k l. by_place k l (ltb k n) refl;
    }
  where
    by_place : (k : ℕ) → k < n + m → (t : Bool) → ltb k n ≡ t → get_or new (at + k) 0 ≡ f k
    by_place k l true q = let h = ltb-true k n q in b.below (at + k) (omega arith) ∙ a.row k h
    by_place k l false q =
        let h = ltb-false k n q in
        let there : at + k ≡ at + n + (k - n) = omega arith in
        let back : n + (k - n) ≡ k = omega arith in
        ap (λ i. get_or new i 0) there ∙ b.row (k - n) (omega arith) ∙ same (k - n) ∙ ap f back

-- the words in front of a row, and those behind it
pub row_front : {old new : List ℕ} {at n : ℕ} {f : ℕ → ℕ} → Row old new at n f → (k : ℕ) → k ≤ at → take k new ≡ take k old
row_front {old} {new} r k l =
    ext_get_or 0 (take k new) (take k old) (length-take k new ∙ ap (min k) r.size ∙ sym (length-take k old))
    (λ i below. let less : i < k = omega (arith, length-take k new) in get_or-take k new i 0 less ∙ r.below i (omega arith)
    ∙ sym (get_or-take k old i 0 less))

pub row_back : {old new : List ℕ} {at n : ℕ} {f : ℕ → ℕ} → Row old new at n f → (k : ℕ) → at + n ≤ k → drop k new ≡ drop k old
row_back {old} {new} r k l =
    ext_get_or 0 (drop k new) (drop k old) (length-drop k new ∙ ap (λ i. i - k) r.size ∙ sym (length-drop k old))
    (λ i below. get_or-drop k new i 0 ∙ r.above (k + i) (omega arith) ∙ sym (get_or-drop k old i 0))
