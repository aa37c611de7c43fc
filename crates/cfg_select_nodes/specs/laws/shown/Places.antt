-- What holds of each of a list's elements with its place, from a place on.
use Rattle.std.specs.Prelude.{◌≡◌, List, ◌∷◌, ℕ, suc, ◌+◌, ◌<◌, length, get_or}
use Rattle.std.proofs.Common.{arith}

module _ {A : Type 0} (none : A) (P : ℕ → A → Type 0) where
  abbrev pub From : ℕ → List A → Type 0
  From j xs = (i : ℕ) → i < length xs → P (j + i) (get_or xs i none)

  pub first_of : (j : ℕ) (x : A) (xs : List A) → From j (x ∷ xs) → P j x
  first_of j x xs f = let e : j + 0 ≡ j = omega arith in rw e at (f 0 (omega arith))

  pub rest_of : (j : ℕ) (x : A) (xs : List A) → From j (x ∷ xs) → From (suc j) xs
  rest_of j x xs f i h = let e : j + suc i ≡ suc j + i = omega arith in rw e at (f (suc i) (omega arith))

  pub from_start : (xs : List A) → ((i : ℕ) → i < length xs → P i (get_or xs i none)) → From 0 xs
  from_start xs f i h = let e : 0 + i ≡ i = omega arith in rw e (f i h)
