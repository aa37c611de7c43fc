-- Numbers below a bound, no two the same, are at most as many as the bound.
use Rattle.std.specs.Prelude.{◌≡◌, true, false, List, [], ◌∷◌, ◌⊎◌, ℕ, zero, suc, ◌-◌, ◌≤◌, ◌<◌, length, get_or, eqb}
use Rattle.std.proofs.Common.{sym, ap, ◌∙◌, inl, inr, arith, eq-eqb, ne_eqb}
use Rattle.std.proofs.Math.Decide.{dec_lt, ℕ_discrete}
use Rattle.meaning.specs.Lists.{pick, is_in, Distinct}
use Rattle.meaning.specs.facts.Tests.{clash}
use Rattle.meaning.specs.facts.Members.{is_in_at}

pub record FoundAt (f : ℕ → ℕ) (n v : ℕ) : Type 0 where
  pub place : ℕ
  pub below : place < n
  pub is : f place ≡ v

look_for : (f : ℕ → ℕ) (n v : ℕ) → FoundAt f n v ⊎ ((i : ℕ) → i < n → f i ≡ v → ⊥)
look_for f zero v = inr (λ i h e. absurd (omega arith))
look_for f (suc n) v =
    elim (ℕ_discrete (f n) v) [
      | yes e ↦ inl (record { place = n; below = omega arith; is = e })
      | no d ↦ elim (look_for f n v) [
        | inl x ↦ inl (record { place = x.place; below = (let h = x.below in omega arith); is = x.is })
        | inr x ↦ inr (λ i h e. elim (ℕ_discrete i n) [ yes y ↦ d (rw y at e) | no y ↦ x i (omega arith) e ])
      ]
    ]

-- The last takes the place of the one at i.
unfoldable moved : (ℕ → ℕ) → ℕ → ℕ → ℕ → ℕ
moved f i last k = pick (eqb k i) (f last) (f k)

module _ (f : ℕ → ℕ) (i last k : ℕ) where
  moved_there : k ≡ i → moved f i last k ≡ f last
  unfolding moved
  moved_there e = rw (eq-eqb k i e)

  moved_other : (k ≡ i → ⊥) → moved f i last k ≡ f k
  unfolding moved
  moved_other d = rw (ne_eqb k i d)

pub pigeonhole : (bound n : ℕ) (f : ℕ → ℕ) → ((i : ℕ) → i < n → f i < bound) → ((i j : ℕ) → i < j → j < n → f i ≡ f j → ⊥) → n ≤ bound
pigeonhole zero zero f below apart = omega arith
pigeonhole zero (suc n) f below apart = absurd (let h = below 0 (omega arith) in omega arith)
pigeonhole (suc bound) n f below apart = go (look_for f n bound)
    (λ d. pigeonhole bound n f (λ i h. let a = below i h in let b = d i h in omega arith) apart)
    (λ x a b. pigeonhole bound (n - 1) (moved f x.place (n - 1)) a b)
  where
    -- No two of the first n are the same, whichever comes first.
    differ : (i j : ℕ) → (i ≡ j → ⊥) → i < n → j < n → f i ≡ f j → ⊥
    differ i j d a b e = elim (dec_lt i j) [ yes h ↦ apart i j h b e | no h ↦ apart j i (omega arith) a (sym e) ]

    go : FoundAt f n bound ⊎ ((i : ℕ) → i < n → f i ≡ bound → ⊥) → (((i : ℕ) → i < n → f i ≡ bound → ⊥) → n ≤ bound)
        → ((x : FoundAt f n bound) → ((i : ℕ) → i < n - 1 → moved f x.place (n - 1) i < bound)
        → ((i j : ℕ) → i < j → j < n - 1 → moved f x.place (n - 1) i ≡ moved f x.place (n - 1) j → ⊥) → n - 1 ≤ bound)
        → n ≤ suc bound
    go (inr d) none one = let h = none d in omega arith
    go (inl x) none one =
        let p = x.place in
        let last = n - 1 in
        let b = x.below in
        let less : (j : ℕ) → j < n → (j ≡ p → ⊥) → f j < bound =
        λ j c d. (let u = below j c in let v : f j ≡ bound → ⊥ = λ e. differ j p d c b (e ∙ sym x.is) in omega arith) in
        let h = one x
        (λ i c. elim (ℕ_discrete i p) [
          | yes e ↦ rw (moved_there f p last i e) (less last (omega arith) (omega arith))
          | no d ↦ rw (moved_other f p last i d) (less i (omega arith) d)
        ])
        (λ i j c d e. elim (ℕ_discrete i p) [
          | yes u ↦ differ last j (omega arith) (omega arith) (omega arith)
              (sym (moved_there f p last i u) ∙ e ∙ moved_other f p last j (omega arith))
          | no u ↦ elim (ℕ_discrete j p) [
            | yes v ↦ differ i last (omega arith) (omega arith) (omega arith)
                (sym (moved_other f p last i u) ∙ e ∙ moved_there f p last j v)
            | no v ↦ differ i j (omega arith) (omega arith) (omega arith) (sym (moved_other f p last i u) ∙ e ∙ moved_other f p last j v)
          ]
        ]) in omega arith

-- ---- The same of a list in which each stands once.
not_in_at : (x : ℕ) (xs : List ℕ) → is_in x xs ≡ false → (i : ℕ) → i < length xs → x ≡ get_or xs i 0 → ⊥
not_in_at x xs f i h e =
    let z : is_in x xs ≡ true = ap (λ y. is_in y xs) e ∙ is_in_at xs i h in
    clash (cc)

places_apart : (xs : List ℕ) → Distinct xs → (i j : ℕ) → i < j → j < length xs → get_or xs i 0 ≡ get_or xs j 0 → ⊥
places_apart [] d i j l h e = absurd (omega arith)
places_apart (x ∷ xs) d i zero l h e = absurd (omega arith)
places_apart (x ∷ xs) d zero (suc j) l h e = not_in_at x xs d.0 j (omega arith) e
places_apart (x ∷ xs) d (suc i) (suc j) l h e = places_apart xs d.1 i j (omega arith) (omega arith) e

pub distinct_few : (bound : ℕ) (xs : List ℕ) → Distinct xs → ((x : ℕ) → is_in x xs ≡ true → x < bound) → length xs ≤ bound
distinct_few bound xs d below =
    pigeonhole bound (length xs) (λ i. get_or xs i 0) (λ i h. below (get_or xs i 0) (is_in_at xs i h)) (places_apart xs d)
