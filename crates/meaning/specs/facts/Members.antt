-- Membership in a list of numbers: `is_in` of what stands in front, of the rest, of two lists joined, of one named twice.
use Rattle.std.specs.Prelude.{◌≡◌, refl, ◌⊎◌, Bool, true, false, ◌||◌, List, [], ◌∷◌, ◌++◌, ℕ, zero, suc, ◌≤◌, ◌<◌, ◌+◌, length, get_or, eqb}
use Rattle.std.proofs.Common.{sym, ap, ◌∙◌, inl, inr, eqb-true, eq-eqb, ne_eqb, arith}
use Rattle.std.proofs.Math.Bool.{or-true, or-false, or_assoc}
use Rattle.std.proofs.lemmas.Bool.{eqb-false}
use Rattle.meaning.specs.Lists.{is_in, times_in, pick, All}
use Rattle.meaning.specs.facts.Tests.{clash, neither}

pub in_front : (x : ℕ) (xs : List ℕ) → is_in x (x ∷ xs) ≡ true
in_front x xs = rw (eq-eqb x x refl)

pub in_rest : (x y : ℕ) (xs : List ℕ) → is_in x xs ≡ true → is_in x (y ∷ xs) ≡ true
in_rest x y xs h = rw h (or-true (eqb x y))

-- It is the first, or it is in the rest.
pub data FirstOrRest (x y : ℕ) (xs : List ℕ) : Type 0 where
  first : x ≡ y → FirstOrRest x y xs
  rest : is_in x xs ≡ true → FirstOrRest x y xs

pub first_or_rest : (x y : ℕ) (xs : List ℕ) → is_in x (y ∷ xs) ≡ true → FirstOrRest x y xs
first_or_rest x y xs h = go (eqb x y) refl h
  where
    go : (b : Bool) → eqb x y ≡ b → (b || is_in x xs) ≡ true → FirstOrRest x y xs
    go true e i = first (eqb-true x y e)
    go false e i = rest i

pub in_left : (x : ℕ) (a b : List ℕ) → is_in x a ≡ true → is_in x (a ++ b) ≡ true
in_left x [] b h = cc
in_left x (y ∷ a) b h = elim (first_or_rest x y a h) [ first e ↦ rw (eq-eqb x y e) | rest i ↦ in_rest x y (a ++ b) (in_left x a b i) ]

pub in_right : (x : ℕ) (a b : List ℕ) → is_in x b ≡ true → is_in x (a ++ b) ≡ true
in_right x [] b h = h
in_right x (y ∷ a) b h = in_rest x y (a ++ b) (in_right x a b h)

in_more : (x y : ℕ) (a : List ℕ) {P : Type 0} → (is_in x a ≡ true) ⊎ P → (is_in x (y ∷ a) ≡ true) ⊎ P
in_more x y a (inl i) = inl (in_rest x y a i)
in_more x y a (inr p) = inr p

pub left_or_right : (x : ℕ) (a b : List ℕ) → is_in x (a ++ b) ≡ true → (is_in x a ≡ true) ⊎ (is_in x b ≡ true)
left_or_right x [] b h = inr h
left_or_right x (y ∷ a) b h =
    elim (first_or_rest x y (a ++ b) h) [ first e ↦ inl (rw (eq-eqb x y e)) | rest i ↦ in_more x y a (left_or_right x a b i) ]

pub in_times : (r : ℕ) (xs : List ℕ) → is_in r xs ≡ true → 1 ≤ times_in r xs
in_times r [] p = absurd (clash (cc))
in_times r (x ∷ xs) p = go (eqb r x) p (λ h. in_times r xs h)
  where
    go : (b : Bool) → (b || is_in r xs) ≡ true → (is_in r xs ≡ true → 1 ≤ times_in r xs) → 1 ≤ pick b 1 0 + times_in r xs
    go true h ih = omega arith
    go false h ih = let z = ih h in omega arith

pub times_few : (r : ℕ) (xs : List ℕ) → times_in r xs ≤ length xs
times_few r [] = omega arith
times_few r (x ∷ xs) = let z = times_few r xs in go (eqb r x) z
  where
    go : (b : Bool) → times_in r xs ≤ length xs → pick b 1 0 + times_in r xs ≤ suc (length xs)
    go true z = omega arith
    go false z = omega arith

pub is_in_at : (xs : List ℕ) (k : ℕ) → k < length xs → is_in (get_or xs k 0) xs ≡ true
is_in_at [] k l = absurd (omega arith)
is_in_at (x ∷ xs) zero l = in_front x xs
is_in_at (x ∷ xs) (suc k) l = in_rest (get_or xs k 0) x xs (is_in_at xs k (omega arith))

pub is_in_snoc : (t u : ℕ) (ts : List ℕ) → is_in t (ts ++ (u ∷ [])) ≡ (is_in t ts || eqb t u)
is_in_snoc t u [] = or-false (eqb t u)
is_in_snoc t u (x ∷ ts) = ap (λ b. eqb t x || b) (is_in_snoc t u ts) ∙ sym (or_assoc (eqb t x) (is_in t ts) (eqb t u))

-- What is in a list may be named again.
pub seen_twice : (y x : ℕ) (seen : List ℕ) → is_in x seen ≡ true → is_in y (x ∷ seen) ≡ is_in y seen
seen_twice y x seen h = by_test (eqb y x) refl
  where
    by_test : (b : Bool) → eqb y x ≡ b → (b || is_in y seen) ≡ is_in y seen
    by_test true q = sym (ap (λ z. is_in z seen) (eqb-true y x q) ∙ h)
    by_test false q = refl

-- None of xs is u or seen: u is none of xs, and none of them is seen.
pub none_seen : (u : ℕ) (seen xs : List ℕ) → All (λ t. is_in t (u ∷ seen) ≡ false) xs
    → (is_in u xs ≡ false) × All (λ t. is_in t seen ≡ false) xs
none_seen u seen [] h = (refl, tt)
none_seen u seen (x ∷ xs) h =
    let a = neither (eqb x u) (is_in x seen) h.0 in
    let rest = none_seen u seen xs h.1 in
    (rw (ne_eqb u x (λ q. eqb-false x u a.0 (sym q))) rest.0, (a.1, rest.1))
