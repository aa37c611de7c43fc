-- A loop that counts up: what is left of it, from a turn to the next.
use Rattle.std.specs.Prelude.{◌≡◌, refl, List}
use Prim.Native.Nat.{ℕ, zero, suc, ◌+◌, ◌-◌, ◌≤◌, ◌<◌}
use native.Mathlib.Omega.{arith}
use Rattle.std.proofs.Common.{add-one}
use Rattle.meaning.specs.Graph.{Graph}
use Rattle.record.specs.Stands.{OfRecord}
use Rattle.state_shown.specs.Front.{SameKinds}
use Rattle.state_shown.specs.laws.FrontKept.{kinds_same, kinds_then, stands_kept}

-- n turns from turn i on.
unfoldable pub turned : {A : Type 0} → (A → ℕ → A) → A → ℕ → ℕ → A
turned f a zero i = a
turned f a (suc n) i = turned f (f a i) n (suc i)

module _ {A : Type 0} (f : A → ℕ → A) where
  pub turn_first : (a : A) (n : ℕ) → turned f a (n - 0) 0 ≡ turned f a n 0
  turn_first a n = let e : n - 0 ≡ n = omega arith in rw e

  module _ (a : A) (n i : ℕ) {whole : A} (left : turned f a (n - i) i ≡ whole) where
    pub turn_next : i < n → turned f (f a i) (n - (i + 1)) (i + 1) ≡ whole
    unfolding turned
    turn_next h = let s : n - i ≡ suc (n - (i + 1)) = omega arith in rw (add-one i) (rw (add-one i) at (rw s at left))

    pub turn_last : n ≤ i → a ≡ whole
    unfolding turned
    turn_last h = let s : n - i ≡ 0 = omega arith in rw s at left

-- Turns that are the same, as far as there are turns.
pub turned_same : {A : Type 0} (f f' : A → ℕ → A) (most : ℕ) → ((a : A) (i : ℕ) → i < most → f a i ≡ f' a i) → (n : ℕ) (a : A) (i : ℕ)
    → i + n ≤ most → turned f a n i ≡ turned f' a n i
unfolding turned
turned_same f f' most same zero a i h = refl
turned_same f f' most same (suc n) a i h =
    rw (same a i (omega arith)) (turned_same f f' most same n (f' a i) (suc i) (omega arith))

-- ---- A loop whose turns read the record: it stands as long as nothing is stored in front.
module _ {A : Type 0} (words : A → List ℕ) where
  pub front_turned : (f : A → ℕ → A) → ((a : A) (i : ℕ) → SameKinds (words a) (words (f a i))) → (n : ℕ) (a : A) (i : ℕ)
      → SameKinds (words a) (words (turned f a n i))
  unfolding turned
  front_turned f same zero a i = kinds_same (words a)
  front_turned f same (suc n) a i = kinds_then (same a i) (front_turned f same n (f a i) (suc i))

  pub record Left (f : Graph → A → ℕ → A) (a : A) (n : ℕ) (b : A) (i : ℕ) (g : Graph) : Type 0 where
    pub front : SameKinds (words a) (words b)
    pub rest : turned (f g) b (n - i) i ≡ turned (f g) a n 0

  module _ (f : Graph → A → ℕ → A) where
    pub left_first : (a : A) (n : ℕ) → OfRecord (words a) (Left f a n a 0)
    left_first a n g st = record { front = kinds_same (words a); rest = turn_first (f g) a n }

    module _ (a : A) (n : ℕ) (b : A) (i : ℕ) (left : OfRecord (words a) (Left f a n b i)) where
      pub left_next : ((g : Graph) (a : A) (i : ℕ) → SameKinds (words a) (words (f g a i))) → i < n → (c : A)
          → OfRecord (words b) (λ g. c ≡ f g b i) → OfRecord (words a) (Left f a n c (i + 1))
      left_next same h c step g st =
          let x = left g st in
          let e = step g (stands_kept x.front st) in
          rw e (record { front = kinds_then x.front (same g b i); rest = turn_next (f g) b n i x.rest h })

      pub left_last : n ≤ i → OfRecord (words a) (λ g. b ≡ turned (f g) a n 0)
      left_last h g st = turn_last (f g) b n i (left g st).rest h
