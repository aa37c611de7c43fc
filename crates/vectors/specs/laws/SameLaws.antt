-- Two lists compared place by place.
use Rattle.std.specs.Prelude.{◌≡◌, refl, Bool, true, false, ◌&&◌, List, [], ◌∷◌, ℕ, eqb}
use Rattle.std.proofs.Common.{eqb-true, eq-eqb}
use Rattle.vectors.specs.Same.{same_list}

pub same_equal : (a b : List ℕ) → same_list a b ≡ true → a ≡ b
unfolding same_list
same_equal [] [] h = refl
same_equal [] (y ∷ ys) h = cc
same_equal (x ∷ xs) [] h = cc
same_equal (x ∷ xs) (y ∷ ys) h = by_test (eqb x y) refl h (same_equal xs ys)
  where
    by_test : (t : Bool) → eqb x y ≡ t → (t && same_list xs ys) ≡ true → (same_list xs ys ≡ true → xs ≡ ys) → x ∷ xs ≡ y ∷ ys
    by_test true e k rest = let p = eqb-true x y e in let q = rest k in cc
    by_test false e k rest = let z : false ≡ true = k in cc

pub same_self : (a : List ℕ) → same_list a a ≡ true
unfolding same_list
same_self [] = refl
same_self (x ∷ xs) = rw (eq-eqb x x refl) (same_self xs)

-- An answer that is true exactly if two lists are equal.
pub as_same : (a b : List ℕ) (r : Bool) → (r ≡ true → a ≡ b) × (a ≡ b → r ≡ true) → r ≡ same_list a b
as_same a b r h = by_tests r (same_list a b) refl refl
  where
    by_tests : (p q : Bool) → r ≡ p → same_list a b ≡ q → p ≡ q
    by_tests true true e f = refl
    by_tests false false e f = refl
    by_tests true false e f = let s = same_self a in let k = h.0 e in cc
    by_tests false true e f = let k = h.1 (same_equal a b f) in cc
