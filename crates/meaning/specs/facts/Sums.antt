-- Sums over a list of numbers, and over its first ones; where each stands once, what a change at one of them does to the sum.
use Rattle.std.specs.Prelude.{◌≡◌, refl, Bool, true, false, ◌||◌, List, [], ◌∷◌, ℕ, zero, suc, ◌+◌, ◌*◌, ◌≤◌, ◌<◌, length, get_or, take, drop, eqb}
use Rattle.std.proofs.Common.{ap, arith, add-one, drop_of_length-le, drop-cons, eqb-true}
use Rattle.std.proofs.lemmas.Bool.{eqb-false}
use Rattle.meaning.specs.Lists.{is_in, Distinct, total}
use Rattle.meaning.specs.facts.Tests.{clash}
use Rattle.meaning.specs.facts.Members.{FirstOrRest, first, rest, first_or_rest, in_front, in_rest}

pub total_less : (f h : ℕ → ℕ) → ((i : ℕ) → f i ≤ h i) → (l : List ℕ) → total f l ≤ total h l
total_less f h p [] = omega arith
total_less f h p (x ∷ l) = let a = p x in let b = total_less f h p l in omega arith

pub total_same : (f h : ℕ → ℕ) → ((i : ℕ) → f i ≡ h i) → (l : List ℕ) → total f l ≡ total h l
total_same f h p [] = refl
total_same f h p (x ∷ l) = let a = p x in let b = total_same f h p l in omega arith

pub total_add : (f h : ℕ → ℕ) (l : List ℕ) → total (λ i. f i + h i) l ≡ total f l + total h l
total_add f h [] = refl
total_add f h (x ∷ l) = let b = total_add f h l in omega arith

pub total_each : (k : ℕ) (l : List ℕ) → total (λ i. k) l ≡ length l * k
total_each k [] = omega arith
total_each k (x ∷ l) = let b = total_each k l in omega arith

-- Each of a list adds at most so much.
pub total_within : (f : ℕ → ℕ) (most : ℕ) (l : List ℕ) → ((i : ℕ) → is_in i l ≡ true → f i ≤ most) → total f l ≤ length l * most
total_within f most [] h = omega arith
total_within f most (x ∷ l) h =
    let a = h x (in_front x l) in
    let b = total_within f most l (λ i m. h i (in_rest i x l m)) in omega arith

pub total_one : (f : ℕ → ℕ) (r : ℕ) (l : List ℕ) → is_in r l ≡ true → f r ≤ total f l
total_one f r [] i = absurd (clash (cc))
total_one f r (x ∷ l) i = go (first_or_rest r x l i) (λ j. total_one f r l j)
  where
    go : FirstOrRest r x l → (is_in r l ≡ true → f r ≤ total f l) → f r ≤ f x + total f l
    go (first e) ih = rw e (omega arith)
    go (rest j) ih = let z = ih j in omega arith

-- ---- A sum over a list, from place k on, by the length n that the code has.
module _ {A : Type 0} (f : A → ℕ) (xs : List A) (d : A) {n : ℕ} (size : n ≡ length xs) where
  pub sum_turn : (k sum whole : ℕ) → k < n → sum + total f (drop k xs) ≡ whole
      → sum + f (get_or xs k d) + total f (drop (k + 1) xs) ≡ whole
  sum_turn k sum whole l h =
      let step = ap (total f) (drop-cons xs k d (omega arith)) in
      let next = ap (λ i. total f (drop i xs)) (add-one k) in
      omega arith

  pub sum_end : (k sum whole : ℕ) → n ≤ k → sum + total f (drop k xs) ≡ whole → sum ≡ whole
  sum_end k sum whole l h = let none = ap (total f) (drop_of_length-le xs {i = k} (omega arith)) in omega arith

-- The first ones and the next; one that is not there adds nothing.
pub total_next : {A : Type 0} (f : A → ℕ) (d : A) (xs : List A) (r : ℕ) → f d ≡ 0
    → total f (take (suc r) xs) ≡ total f (take r xs) + f (get_or xs r d)
total_next f d [] zero e = omega arith
total_next f d [] (suc r) e = omega arith
total_next f d (x ∷ xs) zero e = omega arith
total_next f d (x ∷ xs) (suc r) e = let z = total_next f d xs r e in omega arith

pub total_take : (xs : List ℕ) (a b : ℕ) → a < b → total (λ n. n) (take a xs) + get_or xs a 0 ≤ total (λ n. n) (take b xs)
total_take [] zero (suc b) h = omega arith
total_take [] (suc a) (suc b) h = omega arith
total_take (x ∷ xs) zero (suc b) h = omega arith
total_take (x ∷ xs) (suc a) (suc b) h = let z = total_take xs a b (omega arith) in omega arith
total_take xs a zero h = absurd (omega arith)

module _ (f h : ℕ → ℕ) (r : ℕ) (else : (i : ℕ) → (i ≡ r → ⊥) → h i ≡ f i) where
  unchanged : (l : List ℕ) → is_in r l ≡ false → total h l ≡ total f l
  unchanged [] i = refl
  unchanged (x ∷ l) i = go (eqb r x) refl i (λ j. unchanged l j)
    where
      go : (b : Bool) → eqb r x ≡ b → (b || is_in r l) ≡ false → (is_in r l ≡ false → total h l ≡ total f l)
          → h x + total h l ≡ f x + total f l
      go true e j ih = absurd (clash (cc))
      go false e j ih = let a = else x (λ p. eqb-false r x e (omega arith)) in let b = ih j in omega arith

  pub total_change : (l : List ℕ) → Distinct l → is_in r l ≡ true → total h l + f r ≡ total f l + h r
  total_change [] u i = absurd (clash (cc))
  total_change (x ∷ l) (n, u) i = go (eqb r x) refl i (λ j. total_change l u j)
    where
      go : (b : Bool) → eqb r x ≡ b → (b || is_in r l) ≡ true → (is_in r l ≡ true → total h l + f r ≡ total f l + h r)
          → (h x + total h l) + f r ≡ (f x + total f l) + h r
      go true e j ih = let p = eqb-true r x e in let z = unchanged l (rw p n) in rw p (omega arith)
      go false e j ih = let a = else x (λ p. eqb-false r x e (omega arith)) in let b = ih j in omega arith
