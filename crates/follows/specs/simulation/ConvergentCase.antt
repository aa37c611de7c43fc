-- A select with one convergent case: that case, and the others with it set aside.
use Rattle.std.specs.Prelude.{Bool, false, not, true, List, [], ◌∷◌, ◌⊎◌, ◌≡◌, refl, suc, zero, ℕ, eqb, length}
use Rattle.std.proofs.Common.{inl, inr, ◌∙◌, ap, subst, sym}
use Rattle.std.proofs.Math.Option.{some}
use Rattle.meaning.specs.facts.Tests.{clash, eqb_sym}
use Rattle.meaning.specs.Lists.{empty, pick}
use Rattle.nesting.specs.Nesting.{ClaimedRegion, MaybeClaimedRegion, convergent_cases, deferred_of, err, ok, without_convergent}
use Rattle.follows.specs.simulation.Bundles.{is_empty}
use Rattle.meaning.specs.facts.Elements.{In, nth, nth_in}

-- the claimed regions are distinct
abbrev pub Apart : List MaybeClaimedRegion → Type 0
Apart [] = Unit
Apart (err d ∷ cs) = Apart cs
Apart (ok c ∷ cs) = ((c' : ClaimedRegion) → In (ok c') cs → eqb c'.structured_body c.structured_body ≡ false) × Apart cs

-- where none converges, taking them out changes nothing
none_out : (cs : List MaybeClaimedRegion) → convergent_cases cs ≡ []
    → (without_convergent cs ≡ cs) × ((j : ℕ) (x : MaybeClaimedRegion) → nth cs j ≡ some x → deferred_of x ≡ [])
none_out [] h = (refl, λ j x p. cc)
none_out (c ∷ cs) h = go (λ q. none_out cs q) (empty (deferred_of c)) refl h
  where
    Out : List MaybeClaimedRegion → List MaybeClaimedRegion → Type 0
    Out rest l = (rest ≡ l) × ((j : ℕ) (x : MaybeClaimedRegion) → nth l j ≡ some x → deferred_of x ≡ [])

    each : deferred_of c ≡ [] → ((j : ℕ) (x : MaybeClaimedRegion) → nth cs j ≡ some x → deferred_of x ≡ [])
        → (j : ℕ) (x : MaybeClaimedRegion) → nth (c ∷ cs) j ≡ some x → deferred_of x ≡ []
    each e on zero x p = let z : c ≡ x = cc in rw (← z) e
    each e on (suc j) x p = on j x p

    go : (convergent_cases cs ≡ [] → Out (without_convergent cs) cs) → (b : Bool) → empty (deferred_of c) ≡ b
        → pick (not b) (c ∷ convergent_cases cs) (convergent_cases cs) ≡ [] → Out (pick b c (err []) ∷ without_convergent cs) (c ∷ cs)
    go ih true e q = let y = ih q in (ap (λ l. c ∷ l) y.0, each (is_empty (deferred_of c) e) y.1)
    go ih false e q = absurd (clash (cc))

pub record Converges (cases : List MaybeClaimedRegion) (c : MaybeClaimedRegion) (rest : List MaybeClaimedRegion) : Type 0 where
  pub at : ℕ
  pub is : nth cases at ≡ some c
  pub len : length rest ≡ length cases
  pub each : (j : ℕ) (x : MaybeClaimedRegion) → nth cases j ≡ some x
      → ((x ≡ c) × (nth rest j ≡ some (err []))) ⊎ ((nth rest j ≡ some x) × (deferred_of x ≡ []))
  pub from : (x : MaybeClaimedRegion) → In x rest → (x ≡ err []) ⊎ In x cases
  pub apart : Apart cases → Apart rest
  pub others : Apart cases → (y : ClaimedRegion) → c ≡ ok y → (z : ClaimedRegion) → In (ok z) rest
      → eqb y.structured_body z.structured_body ≡ false

pub converges : (cases : List MaybeClaimedRegion) (c : MaybeClaimedRegion) → convergent_cases cases ≡ c ∷ []
    → Converges cases c (without_convergent cases)
converges [] c p = absurd (clash (cc))
converges (x ∷ cs) c p = go (λ q. converges cs c q) (empty (deferred_of x)) refl p
  where
    skip : (r : List MaybeClaimedRegion) → deferred_of x ≡ [] → Converges cs c r → Converges (x ∷ cs) c (x ∷ r)
    skip r e cv = record {
      at = suc cv.at;
      is = cv.is;
      len = ap suc cv.len;
      each = each;
      from = from;
      apart = apart x;
      others =
          others x;
    }
      where
        each : (j : ℕ) (y : MaybeClaimedRegion) → nth (x ∷ cs) j ≡ some y
            → ((y ≡ c) × (nth (x ∷ r) j ≡ some (err []))) ⊎ ((nth (x ∷ r) j ≡ some y) × (deferred_of y ≡ []))
        each zero y q = let z : x ≡ y = cc in inr (q, rw (← z) e)
        each (suc j) y q = cv.each j y q

        from : (y : MaybeClaimedRegion) → (y ≡ x) ⊎ In y r → (y ≡ err []) ⊎ In y (x ∷ cs)
        from y (inl q) = inr (inl q)
        from y (inr i) = more (cv.from y i)
          where
            more : (y ≡ err []) ⊎ In y cs → (y ≡ err []) ⊎ In y (x ∷ cs)
            more (inl q) = inl q
            more (inr k) = inr (inr k)

        apart : (x : MaybeClaimedRegion) → Apart (x ∷ cs) → Apart (x ∷ r)
        apart (err d) h = cv.apart h
        apart (ok z) (ne, h) = ((λ z' i. still z' (cv.from (ok z') i)), cv.apart h)
          where
            still : (z' : ClaimedRegion) → (ok z' ≡ err []) ⊎ In (ok z') cs → eqb z'.structured_body z.structured_body ≡ false
            still z' (inl q) = cc
            still z' (inr k) = ne z' k

        others : (x : MaybeClaimedRegion) → Apart (x ∷ cs) → (y : ClaimedRegion) → c ≡ ok y → (z : ClaimedRegion) → In (ok z) (x ∷ r)
            → eqb y.structured_body z.structured_body ≡ false
        others (err d) h y q z (inl k) = cc
        others (err d) h y q z (inr i) = cv.others h y q z i
        others (ok x') (ne, h) y q z (inl k) =
            let e : z ≡ x' = cc in rw e (ne y (subst (λ v. In v cs) q (nth_in cs cv.at c cv.is)))
        others (ok x') (ne, h) y q z (inr i) = cv.others h y q z i

    here : ((j : ℕ) (y : MaybeClaimedRegion) → nth cs j ≡ some y → deferred_of y ≡ []) → c ≡ x → (rest : List MaybeClaimedRegion)
        → rest ≡ err [] ∷ cs → Converges (x ∷ cs) c rest
    here none_on e rest re = record {
      at = 0;
      is = rw e;
      len = rw re;
      each = each;
      from = λ y i. from y (rw re at i);
      apart = λ h. rw re (apart x h);
      others =
          λ h y q z i. others x e h y q z (rw re at i);
    }
      where
        each : (j : ℕ) (y : MaybeClaimedRegion) → nth (x ∷ cs) j ≡ some y
            → ((y ≡ c) × (nth rest j ≡ some (err []))) ⊎ ((nth rest j ≡ some y) × (deferred_of y ≡ []))
        each zero y q = let z : x ≡ y = cc in inl (sym z ∙ sym e, rw re)
        each (suc j) y q = inr (rw re q, none_on j y q)

        from : (y : MaybeClaimedRegion) → In y (err [] ∷ cs) → (y ≡ err []) ⊎ In y (x ∷ cs)
        from y (inl q) = inl q
        from y (inr i) = inr (inr i)

        apart : (x : MaybeClaimedRegion) → Apart (x ∷ cs) → Apart cs
        apart (err d) h = h
        apart (ok z) h = h.1

        others : (x : MaybeClaimedRegion) → c ≡ x → Apart (x ∷ cs) → (y : ClaimedRegion) → c ≡ ok y → (z : ClaimedRegion)
            → In (ok z) (err [] ∷ cs)
            → eqb y.structured_body z.structured_body ≡ false
        others (err d) e' h y q z i = cc
        others (ok x') e' h y q z (inl k) = cc
        others (ok x') e' (ne, h) y q z (inr i) = let w : y ≡ x' = cc in rw w (eqb_sym x'.structured_body z.structured_body ∙ ne z i)

    go : (convergent_cases cs ≡ c ∷ [] → Converges cs c (without_convergent cs)) → (b : Bool) → empty (deferred_of x) ≡ b
        → pick (not b) (x ∷ convergent_cases cs) (convergent_cases cs) ≡ c ∷ []
        → Converges (x ∷ cs) c (pick b x (err []) ∷ without_convergent cs)
    go ih true e q = skip (without_convergent cs) (is_empty (deferred_of x) e) (ih q)
    go ih false e q = let y = none_out cs (cc) in here y.1 (cc) (err [] ∷ without_convergent cs) (ap (λ l. err [] ∷ l) y.0)
