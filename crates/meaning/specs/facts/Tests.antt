-- Tests: what a boolean or a comparison of numbers says, and what is chosen by one.
use Rattle.std.specs.Prelude.{Bool, ◌||◌, false, true, ◌&&◌, ◌⊎◌, ◌≡◌, refl, ◌<◌, ℕ, ◌≤◌, eqb, ltb}
use Rattle.std.proofs.Math.Bool.{or_assoc, or_comm}
use Rattle.std.proofs.Common.{inl, inr, sym, ap, ◌∙◌, arith, ltb→lt, nltb→le, eq-eqb, eqb-true, ne_eqb, lt-ltb, le-ltb}
use Rattle.std.proofs.lemmas.Bool.{eqb-false}
use Rattle.meaning.specs.Lists.{pick}

-- Two different constructors are never equal: `clash (cc)`.
pub clash : ◌≡◌ {A = ℕ} 0 1 → ⊥
clash h = omega arith

pub or_either : (a b : Bool) → (a || b) ≡ true → (a ≡ true) ⊎ (b ≡ true)
or_either true b h = inl refl
or_either false b h = inr h

pub or_left : (a b : Bool) → (a || b) ≡ false → a ≡ false
or_left true b h = h
or_left false b h = refl

pub or_right : (a b : Bool) → (a || b) ≡ false → b ≡ false
or_right true b h = let z : true ≡ false = h in cc
or_right false b h = h

pub or_assoc_comm : (a b c : Bool) → ((a || b) || c) ≡ (a || (c || b))
or_assoc_comm a b c = or_assoc a b c ∙ ap (λ z. a || z) (or_comm b c)

pub or_left_comm : (a b c : Bool) → (a || (b || c)) ≡ (b || (a || c))
or_left_comm true true c = refl
or_left_comm true false c = refl
or_left_comm false b c = refl

pub or_mixed : (a b c d e : Bool) → (((a || b) || c) || (d || e)) ≡ (((b || a) || d) || (c || e))
or_mixed true true c d e = refl
or_mixed true false c d e = refl
or_mixed false true c d e = refl
or_mixed false false true true e = refl
or_mixed false false true false e = refl
or_mixed false false false d e = refl

pub false_if : (b : Bool) → (b ≡ true → ⊥) → b ≡ false
false_if true h = absurd (h refl)
false_if false h = refl

pub eqb_self : (n : ℕ) → eqb n n ≡ true
eqb_self n = eq-eqb n n refl

pub eqb_less : (a b : ℕ) → a < b → eqb a b ≡ false
eqb_less a b lt = ne_eqb a b (λ p. omega arith)

pub eqb_sym : (a b : ℕ) → eqb a b ≡ eqb b a
eqb_sym a b = go (eqb a b) (eqb b a) refl refl
  where
    go : (p q : Bool) → eqb a b ≡ p → eqb b a ≡ q → p ≡ q
    go true true e e' = refl
    go false false e e' = refl
    go true false e e' = absurd (eqb-false b a e' (sym (eqb-true a b e)))
    go false true e e' = absurd (eqb-false a b e (sym (eqb-true b a e')))

pub at_or_else : (P : Type 0) (q r : ℕ) → (q ≡ r → P) → (eqb q r ≡ false → P) → P
at_or_else P q r p e = go (eqb q r) refl
  where
    go : (o : Bool) → eqb q r ≡ o → P
    go true x = p (eqb-true q r x)
    go false x = e x

pub and_both : (a b : Bool) → (a && b) ≡ true → (a ≡ true) × (b ≡ true)
and_both true b h = (refl, h)
and_both false b h = absurd (clash (cc))

pub both_true : {a b : Bool} → a ≡ true → b ≡ true → (a && b) ≡ true
both_true {a} {b} p q = ap (λ x. x && b) p ∙ q

pub first_false : {a : Bool} (b : Bool) → a ≡ false → (a && b) ≡ false
first_false b p = ap (λ x. x && b) p

pub second_false : {a b : Bool} → a ≡ true → b ≡ false → (a && b) ≡ false
second_false {a} {b} p q = ap (λ x. x && b) p ∙ q

pub neither : (a b : Bool) → (a || b) ≡ false → (a ≡ false) × (b ≡ false)
neither true b h = absurd (clash (cc))
neither false b h = (refl, h)

pub picked_positive : (b : Bool) (n : ℕ) → 1 ≤ pick b n 0 → (b ≡ true) × (1 ≤ n)
picked_positive true n h = (refl, h)
picked_positive false n h = absurd (omega arith)

pub in_or_out : (r n : ℕ) → (r < n) ⊎ (n ≤ r)
in_or_out r n = go (ltb r n) refl
  where
    go : (b : Bool) → ltb r n ≡ b → (r < n) ⊎ (n ≤ r)
    go true p = inl (ltb→lt r n (rw p tt))
    go false p = inr (nltb→le r n (rw p tt))

-- ---- a test on a number that the code has, for the equal number that the definition has
pub is_below : {k n m : ℕ} → k < n → n ≡ m → ltb k m ≡ true
is_below {k} {n} {m} l h = lt-ltb k m (omega arith)

pub not_below : {k n m : ℕ} → n ≤ k → n ≡ m → ltb k m ≡ false
not_below {k} {n} {m} l h = le-ltb k m (omega arith)

pub is_equal : {n m k : ℕ} → n ≡ k → n ≡ m → eqb m k ≡ true
is_equal {n} {m} {k} l h = eq-eqb m k (omega arith)

pub not_equal : {n m k : ℕ} → (n ≡ k → ⊥) → n ≡ m → eqb m k ≡ false
not_equal {n} {m} {k} l h = ne_eqb m k (λ e. l (h ∙ e))

-- ---- a choice by a test
pub picked : {A : Type 0} {t : Bool} (a b : A) → t ≡ true → a ≡ pick t a b
picked a b h = sym (ap (λ t. pick t a b) h)

pub passed_over : {A : Type 0} {t : Bool} (a b : A) → t ≡ false → b ≡ pick t a b
passed_over a b h = sym (ap (λ t. pick t a b) h)

pub pick_and : (a b : Bool) → pick a b false ≡ (a && b)
pick_and true b = refl
pick_and false b = refl
