-- The numbers that stand for the first time, and the rank of one among them.
use Rattle.std.specs.Prelude.{◌≡◌, refl, Bool, true, false, ◌||◌, List, [], ◌∷◌, ◌++◌, ℕ, suc, ◌+◌, length, eqb}
use Rattle.std.proofs.Common.{ap, ◌∙◌, arith, eqb-true, eq-eqb, ne_eqb}
use Rattle.meaning.specs.Lists.{pick, is_in, Distinct, distinct_from, rank}
use Rattle.meaning.specs.facts.Tests.{clash}

-- ---- one number more: it stood before, or it did not
pub distinct_again : (seen : List ℕ) (x : ℕ) (xs : List ℕ) → is_in x seen ≡ true → distinct_from seen (x ∷ xs) ≡ distinct_from seen xs
unfolding distinct_from
distinct_again seen x xs h = rw (h, distinct_from)

pub distinct_new : (seen : List ℕ) (x : ℕ) (xs : List ℕ) → is_in x seen ≡ false
    → distinct_from seen (x ∷ xs) ≡ x ∷ distinct_from (x ∷ seen) xs
unfolding distinct_from
distinct_new seen x xs h = rw (h, distinct_from)

pub rank_here : (t x : ℕ) (xs : List ℕ) → eqb t x ≡ true → rank t (x ∷ xs) ≡ 0
unfolding rank
rank_here t x xs h = rw (h, rank)

pub rank_next : (t x : ℕ) (xs : List ℕ) → eqb t x ≡ false → rank t (x ∷ xs) ≡ suc (rank t xs)
unfolding rank
rank_next t x xs h = rw (h, rank)

-- ---- none of them stands twice
not_again : (ts seen : List ℕ) (x : ℕ) → is_in x seen ≡ true → is_in x (distinct_from seen ts) ≡ false
unfolding distinct_from
not_again [] seen x h = refl
not_again (t ∷ ts) seen x h = by_test (is_in t seen) refl (not_again ts seen x h) (not_again ts (t ∷ seen) x)
  where
    by_test : (b : Bool) → is_in t seen ≡ b → is_in x (distinct_from seen ts) ≡ false
        → (is_in x (t ∷ seen) ≡ true → is_in x (distinct_from (t ∷ seen) ts) ≡ false) → is_in x (distinct_from seen (t ∷ ts)) ≡ false
    by_test true q again new = ap (is_in x) (distinct_again seen t ts q) ∙ again
    by_test false q again new =
        let apart : eqb x t ≡ false = ne_eqb x t (λ e. let z = ap (λ y. is_in y seen) e in clash (cc)) in
        ap (is_in x) (distinct_new seen t ts q) ∙ rw apart (new (rw apart h))

pub distinct : (ts seen : List ℕ) → Distinct (distinct_from seen ts)
unfolding distinct_from
distinct [] seen = tt
distinct (t ∷ ts) seen = by_test (is_in t seen) refl (distinct ts seen) (distinct ts (t ∷ seen))
  where
    by_test : (b : Bool) → is_in t seen ≡ b → Distinct (distinct_from seen ts) → Distinct (distinct_from (t ∷ seen) ts)
        → Distinct (distinct_from seen (t ∷ ts))
    by_test true q again new = rw (distinct_again seen t ts q) again
    by_test false q again new =
        rw (distinct_new seen t ts q) (not_again ts (t ∷ seen) t (ap (λ b. b || is_in t seen) (eq-eqb t t refl)), new)

-- ---- how many they are, with one more at the end
pub distinct_snoc : (seen ts : List ℕ) (t : ℕ) → length (distinct_from seen (ts ++ (t ∷ []))) ≡ length (distinct_from seen ts) + pick
    (is_in t seen || is_in t ts) 0 1
unfolding distinct_from
distinct_snoc seen [] t = by_test (is_in t seen)
  where
    by_test : (b : Bool) → length {A = ℕ} (elim b [ true ↦ [] | false ↦ t ∷ [] ]) ≡ 0 + pick (b || false) 0 1
    by_test true = refl
    by_test false = refl
distinct_snoc seen (x ∷ ts) t = by_test (is_in x seen) refl (λ more. distinct_snoc more ts t)
  where
    -- x stood before: t is not in doubt for x alone
    covered : is_in x seen ≡ true → (b : Bool) → eqb t x ≡ b → (is_in t seen || is_in t ts) ≡ (is_in t seen || (b || is_in t ts))
    covered h true q = let same : t ≡ x = eqb-true t x q in rw (same, h)
    covered h false q = refl

    shuffle : (a b d : Bool) → ((a || b) || d) ≡ (b || (a || d))
    shuffle true true d = refl
    shuffle true false d = refl
    shuffle false true d = refl
    shuffle false false d = refl

    by_test : (b : Bool) → is_in x seen ≡ b → ((more : List ℕ)
        → length (distinct_from more (ts ++ (t ∷ []))) ≡ length (distinct_from more ts) + pick (is_in t more || is_in t ts) 0 1)
        → length {A = ℕ} (elim b [ true ↦ distinct_from seen (ts ++ (t ∷ [])) | false ↦ x ∷ distinct_from (x ∷ seen) (ts ++ (t ∷ [])) ])
        ≡ length {A = ℕ} (elim b [ true ↦ distinct_from seen ts | false ↦ x ∷ distinct_from (x ∷ seen) ts ]) + pick
        (is_in t seen || (eqb t x || is_in t ts)) 0 1
    by_test true h rest = rest seen ∙ ap (λ b. length (distinct_from seen ts) + pick b 0 1) (covered h (eqb t x) refl)
    by_test false h rest =
        let deeper = ap suc (rest (x ∷ seen)) in
        let sorted : pick {A = ℕ} ((eqb t x || is_in t seen) || is_in t ts) 0 1 ≡ pick (is_in t seen || (eqb t x || is_in t ts)) 0 1 =
        ap (λ b. pick b 0 1) (shuffle (eqb t x) (is_in t seen) (is_in t ts)) in
        deeper ∙ omega (arith, sorted)
