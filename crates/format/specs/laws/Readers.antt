-- Laws of the readers: what a reading that succeeds consists of, and how a loop follows `many`.
use Rattle.std.specs.Prelude.{◌≡◌, Bool, true, false, length}
use Rattle.std.proofs.Math.Path.{refl, sym, ap}
use Rattle.std.proofs.Common.{◌∙◌, arith}
use mathlib.Core.List.{List, [], ◌∷◌}
use Prim.Native.Nat.{ℕ, zero, suc, ◌<◌}
use Rattle.std.proofs.Math.ListN.{get_or}
use Rattle.format.specs.Read.{Read, got, bad, Reader, read_then, expect, many}
use Rattle.format.specs.Places.{next, forget_value, after}
use Rattle.meaning.specs.facts.Tests.{clash}

-- A sequence that succeeds: the first part succeeds, and the second from there.
pub record Parted {A B : Type 0} (r : Read A) (k : A → ℕ → Read B) (b : B) (e : ℕ) : Type 0 where
  pub value : A
  pub place : ℕ
  pub first : r ≡ got value place
  pub second : k value place ≡ got b e

pub part : {A B : Type 0} (r : Read A) (k : A → ℕ → Read B) (b : B) (e : ℕ) → read_then r k ≡ got b e → Parted r k b e
part (got a at) k b e h = record { value = a; place = at; first = refl; second = h }
part (bad n) k b e h = absurd (clash (cc))

pub expected : (t : Bool) (ws : List ℕ) (i : ℕ) {u : Unit} {j : ℕ} → expect t ws i ≡ got u j → t ≡ true
expected true ws i q = refl
expected false ws i q = absurd (clash (cc))

-- what a reading gives is determined
pub got_value : {A : Type 0} {a b : A} {i j : ℕ} → got a i ≡ got b j → a ≡ b
got_value h = cc

pub got_place : {A : Type 0} {a b : A} {i j : ℕ} → got a i ≡ got b j → i ≡ j
got_place h = cc

module _ {A : Type 0} (p : Reader A) (ws : List ℕ) where
  -- One step of a loop: the rest is read from the next place.
  pub many_step : (n at : ℕ) {e : ℕ} → forget_value (p ws at) ≡ got tt e
      → forget_value (many (suc n) p ws at) ≡ forget_value (many n p ws e)
  unfolding many
  many_step n at {e} h = by_first (p ws at) h
    where
      by_rest : (x : A) (r : Read (List A)) → forget_value (read_then r λ xs i. got (x ∷ xs) i) ≡ forget_value r
      by_rest x (got xs i) = refl
      by_rest x (bad k) = refl

      by_first : (r : Read A) → forget_value r ≡ got tt e → forget_value
          (read_then r λ x i. read_then (many n p ws i) λ xs j. got (x ∷ xs) j) ≡ forget_value (many n p ws e)
      by_first (got x i) q = let same : i ≡ e = cc in rw same (by_rest x (many n p ws e))
      by_first (bad k) q = cc

  pub many_stop : (n at : ℕ) {k : ℕ} → forget_value (p ws at) ≡ bad k → forget_value (many (suc n) p ws at) ≡ bad k
  unfolding many
  many_stop n at {k} h = by_first (p ws at) h
    where
      by_first : (r : Read A) → forget_value r ≡ bad k → forget_value (read_then r λ x i. read_then (many n p ws i) λ xs j. got (x ∷ xs) j)
          ≡ bad k
      by_first (got x i) q = cc
      by_first (bad m) q = cc

  pub many_length : (n at : ℕ) {e : ℕ} {xs : List A} → many n p ws at ≡ got xs e → length xs ≡ n
  unfolding many
  many_length zero at {xs = xs} h = let same : xs ≡ [] = cc in rw same
  many_length (suc n) at {e} {xs} h =
      let a = part (p ws at) (λ x i. read_then (many n p ws i) λ ys j. got (x ∷ ys) j) xs e h in
      let b = part (many n p ws a.place) (λ ys j. got (a.value ∷ ys) j) xs e a.second in
      let same : xs ≡ a.value ∷ b.value = cc in
      rw same (ap suc (many_length n a.place b.first))

  -- after, from the front
  pub after_front : (k at : ℕ) → after (suc k) p ws at ≡ after k p ws (next (p ws at))
  unfolding after
  after_front zero at = refl
  after_front (suc k) at = ap (λ i. next (p ws i)) (after_front k at)

  pub many_end : (n at : ℕ) {e : ℕ} {xs : List A} → many n p ws at ≡ got xs e → e ≡ after n p ws at
  unfolding many after
  many_end zero at {e} h = cc
  many_end (suc n) at {e} {xs} h =
      let a = part (p ws at) (λ x i. read_then (many n p ws i) λ ys j. got (x ∷ ys) j) xs e h in
      let b = part (many n p ws a.place) (λ ys j. got (a.value ∷ ys) j) xs e a.second in
      let ends : b.place ≡ e = cc in
      let there : next (p ws at) ≡ a.place = ap next a.first in
      sym ends ∙ many_end n a.place b.first ∙ ap (λ i. after n p ws i) (sym there) ∙ sym (after_front n at)

  -- Item k is read where the k before it end.
  pub many_at : (n at : ℕ) {e : ℕ} {xs : List A} (d : A) → many n p ws at ≡ got xs e → (k : ℕ) → k < n
      → p ws (after k p ws at) ≡ got (get_or xs k d) (after (suc k) p ws at)
  unfolding many after get_or
  many_at zero at d h k l = absurd (omega arith)
  many_at (suc n) at {e} {xs} d h zero l =
      let a = part (p ws at) (λ x i. read_then (many n p ws i) λ ys j. got (x ∷ ys) j) xs e h in
      let b = part (many n p ws a.place) (λ ys j. got (a.value ∷ ys) j) xs e a.second in
      let same : xs ≡ a.value ∷ b.value = cc in
      let there : next (p ws at) ≡ a.place = ap next a.first in
      rw (same, there) a.first
  many_at (suc n) at {e} {xs} d h (suc k) l =
      let a = part (p ws at) (λ x i. read_then (many n p ws i) λ ys j. got (x ∷ ys) j) xs e h in
      let b = part (many n p ws a.place) (λ ys j. got (a.value ∷ ys) j) xs e a.second in
      let same : xs ≡ a.value ∷ b.value = cc in
      let there : next (p ws at) ≡ a.place = ap next a.first in
      let here : after (suc k) p ws at ≡ after k p ws a.place = after_front k at ∙ ap (λ i. after k p ws i) there in
      let then : after (suc (suc k)) p ws at ≡ after (suc k) p ws a.place =
      after_front (suc k) at ∙ ap (λ i. after (suc k) p ws i) there in
      let item : get_or xs (suc k) d ≡ get_or b.value k d = ap (λ l. get_or l (suc k) d) same in
      let rest = many_at n a.place d b.first k (omega arith) in
      ap (λ i. p ws i) here ∙ rest ∙ ap (λ x. got x (after (suc k) p ws a.place)) (sym item) ∙ ap (got (get_or xs (suc k) d)) (sym then)
