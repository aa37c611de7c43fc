-- Where the inputs of every region lead to their end, no chain passes a region twice: a look_up, marked or not, ends within as many
-- steps as the log has entries, and any fuel from there on gives the same answer.
use Rattle.std.specs.Prelude.{◌≡◌, refl, ◌⊎◌, Bool, true, false, ℕ, zero, suc, ◌^◌, ◌≤◌, ◌<◌, length, get_or, eqb}
use Rattle.std.proofs.Common.{sym, ap, ◌∙◌, subst, inl, inr, arith, pow-suc, eqb-true}
use mathlib.Core.List.Memᴰ
use mathlib.Core.List.{List, [], ◌∷◌, ◌++◌, map, Memᴰ}
use Rattle.std.proofs.Math.Option.{Option, none, some}
use Rattle.std.proofs.lemmas.List.{length-map}
use Rattle.meaning.specs.Graph.{Value, const, input, instr, output, bool, undef, held, no_value}
use Rattle.meaning.specs.facts.Tests.{clash}
use Rattle.nesting.specs.Nesting.{InputRewrite, renumber_to, replace_by, RegionInputRewrites, replace_with, renumber_or_replace_with}
use Rattle.nesting.specs.Nesting.{RewriteEntry, rewrites_of, chain_fuel, look_up_chain, look_up}
use Rattle.nesting.specs.lookups.Rewriting.{rewrite, meets}
use Rattle.nesting.proofs.lookups.ChainSteps.{next_value, Stops, EndsIn, ends_later, chain_same, meets_same}
use Rattle.nesting.specs.lookups.ChainEnds.{names, RewritesTo, Open, ChainsEnd, no_more, goes_on}
use Rattle.meaning.specs.Lists.{pick}

pub entry_kept : (es t : List RewriteEntry) (r : ℕ) (x : RegionInputRewrites) → rewrites_of es r ≡ some x → rewrites_of (es ++ t) r ≡ some x
entry_kept [] t r x p = absurd (clash (cc))
entry_kept (y ∷ es) t r x p = go (eqb r y.region) p (λ q. entry_kept es t r x q)
  where
    go : (b : Bool) → pick b (some y.rewrites) (rewrites_of es r) ≡ some x
        → (rewrites_of es r ≡ some x → rewrites_of (es ++ t) r ≡ some x) → pick b (some y.rewrites) (rewrites_of (es ++ t) r) ≡ some x
    go true q ih = q
    go false q ih = ih q

-- A log's chains end if those of a longer one do.
pub end_before : {es : List RewriteEntry} (t : List RewriteEntry) {r : ℕ} → ChainsEnd (es ++ t) r → ChainsEnd es r
end_before {es} t {r} (no_more o) = no_more (go (rewrites_of es r) refl)
  where
    go : (y : Option RegionInputRewrites) → rewrites_of es r ≡ y → Open es r
    go none e = e
    go (some y) e = let z = entry_kept es t r y e in absurd (clash (cc))
end_before {es} t {r} (goes_on x f h) = go (rewrites_of es r) refl (λ k v q g n. end_before t (h k v q g n))
  where
    go : (y : Option RegionInputRewrites) → rewrites_of es r ≡ y
        → ((k : ℕ) (v : Value) (q : ℕ) → RewritesTo x k v → names v ≡ some q → ChainsEnd es q) → ChainsEnd es r
    go none e ih = no_more e
    go (some y) e ih = let z = entry_kept es t r y e in let same : y ≡ x = cc in
        goes_on y e (λ k v q g n. ih k v q (subst (λ w. RewritesTo w k v) same g) n)

-- ---- the entry of r names an input of q
pub record NamesInput (es : List RewriteEntry) (r q : ℕ) : Type 0 where
  pub by : RegionInputRewrites
  pub is : rewrites_of es r ≡ some by
  pub at : ℕ
  pub value : Value
  pub gives : RewritesTo by at value
  pub named : names value ≡ some q

pub data RewritePath (es : List RewriteEntry) : ℕ → ℕ → Type 0 where
  one : {r q : ℕ} → NamesInput es r q → RewritePath es r q
  more : {r q z : ℕ} → NamesInput es r q → RewritePath es q z → RewritePath es r z

pub path_then : {es : List RewriteEntry} {r q z : ℕ} → RewritePath es r q → NamesInput es q z → RewritePath es r z
path_then (one l) m = more l (one m)
path_then (more l p) m = more l (path_then p m)

gives_same : {es : List RewriteEntry} {r q : ℕ} (x : RegionInputRewrites) → rewrites_of es r ≡ some x → (l : NamesInput es r q)
    → RewritesTo x l.at l.value
gives_same x e l = let i = l.is in let same : l.by ≡ x = cc in rw same at l.gives

no_leads : {es : List RewriteEntry} {r q : ℕ} → Open es r → NamesInput es r q → ⊥
no_leads o l = let i = l.is in clash (cc)

pub acyclic : {es : List RewriteEntry} {r : ℕ} → ChainsEnd es r → RewritePath es r r → ⊥
acyclic (no_more o) (one l) = no_leads o l
acyclic (no_more o) (more l m) = no_leads o l
acyclic (goes_on x e h) (one l) = acyclic (h l.at l.value _ (gives_same x e l) l.named) (one l)
acyclic (goes_on x e h) (more l m) = acyclic (h l.at l.value _ (gives_same x e l) l.named) (path_then m l)

-- ---- a list with one of its elements taken out
record Without (r : ℕ) (l : List ℕ) : Type 0 where
  others : List ℕ
  fewer : length l ≡ suc (length others)
  kept : (q : ℕ) → Memᴰ q l → (q ≡ r) ⊎ Memᴰ q others

take_out : (r : ℕ) (l : List ℕ) → Memᴰ r l → Without r l
take_out r [] m = absurd (Memᴰ.not-nil m)
take_out r (x ∷ l) m = go (Memᴰ.cases_cons m) (λ i. take_out r l i)
  where
    first : r ≡ x → (q : ℕ) → (q ≡ x) ⊎ Memᴰ q l → (q ≡ r) ⊎ Memᴰ q l
    first e q (inl p) = inl (p ∙ sym e)
    first e q (inr i) = inr i

    later : (h : Without r l) (q : ℕ) → (q ≡ x) ⊎ Memᴰ q l → (q ≡ r) ⊎ Memᴰ q (x ∷ h.others)
    later h q (inl p) = inr (Memᴰ.head p)
    later h q (inr i) = elim (h.kept q i) [ inl p ↦ inl p | inr j ↦ inr (Memᴰ.tail j) ]

    go : (r ≡ x) ⊎ Memᴰ r l → (Memᴰ r l → Without r l) → Without r (x ∷ l)
    go (inl e) ih = record { others = l; fewer = refl; kept = λ q i. first e q (Memᴰ.cases_cons i) }
    go (inr i) ih = let h = ih i in
        record { others = x ∷ h.others; fewer = ap suc h.fewer; kept = λ q j. later h q (Memᴰ.cases_cons j) }

abbrev logged : List RewriteEntry → List ℕ
logged es = map (λ e. e.region) es

in_logged : (es : List RewriteEntry) (r : ℕ) (x : RegionInputRewrites) → rewrites_of es r ≡ some x → Memᴰ r (logged es)
in_logged [] r x p = absurd (clash (cc))
in_logged (e ∷ es) r x p = go (eqb r e.region) refl p (λ q. in_logged es r x q)
  where
    go : (b : Bool) → eqb r e.region ≡ b → pick b (some e.rewrites) (rewrites_of es r) ≡ some x
        → (rewrites_of es r ≡ some x → Memᴰ r (logged es)) → Memᴰ r (logged (e ∷ es))
    go true q p ih = Memᴰ.head (eqb-true r e.region q)
    go false q p ih = Memᴰ.tail (ih p)

-- ---- the next value stops, or the entry gives it
data Next (es : List RewriteEntry) (r k : ℕ) (x : RegionInputRewrites) : Type 0 where
  last : Stops es (next_value es (input r k)) → Next es r k x
  given : RewritesTo x k (next_value es (input r k)) → Next es r k x

next : (es : List RewriteEntry) (r k : ℕ) (x : RegionInputRewrites) → rewrites_of es r ≡ some x → Next es r k x
next es r k (replace_with vs) e = given (rw e)
next es r k (renumber_or_replace_with xs) e = go (get_or xs k (renumber_to k)) refl
  where
    go : (y : InputRewrite) → get_or xs k (renumber_to k) ≡ y → Next es r k (renumber_or_replace_with xs)
    go (replace_by v) g = given (rw (e, g))
    go (renumber_to i) g = last (rw (e, g))

end_given : {es : List RewriteEntry} {r : ℕ} (x : RegionInputRewrites) (k : ℕ) (v : Value) → ChainsEnd es r → rewrites_of es r ≡ some x
    → RewritesTo x k v → (q : ℕ) → names v ≡ some q → ChainsEnd es q
end_given x k v (no_more o) e g q n = absurd (clash (cc))
end_given x k v (goes_on y f h) e g q n = let same : x ≡ y = cc in h k v q (subst (λ w. RewritesTo w k v) same g) n

module _ (es : List RewriteEntry) where
  abbrev ValueEnds : Value → Type 0
  ValueEnds v = (q : ℕ) → names v ≡ some q → ChainsEnd es q

  -- every logged region is still to be passed, or leads to where the chain is
  abbrev Covers : List ℕ → Value → Type 0
  Covers left v = (z : ℕ) → Memᴰ z (logged es) → Memᴰ z left ⊎ ((r : ℕ) → names v ≡ some r → RewritePath es z r)

  covers_next : (r k : ℕ) (x : RegionInputRewrites) → rewrites_of es r ≡ some x → RewritesTo x k (next_value es (input r k))
      → (left : List ℕ) (w : Without r left) → Covers left (input r k)
      → Covers w.others (next_value es (input r k))
  covers_next r k x e g left w c z m = go (c z m)
    where
      here : (q : ℕ) → names (next_value es (input r k)) ≡ some q → NamesInput es r q
      here q n = record { by = x; is = e; at = k; value = next_value es (input r k); gives = g; named = n }

      split : (z ≡ r) ⊎ Memᴰ z w.others → Memᴰ z w.others ⊎
          ((q : ℕ) → names (next_value es (input r k)) ≡ some q → RewritePath es z q)
      split (inl same) = inr (λ q n. rw same (one (here q n)))
      split (inr i) = inl i

      go : Memᴰ z left ⊎ ((q : ℕ) → some r ≡ some q → RewritePath es z q)
          → Memᴰ z w.others ⊎ ((q : ℕ) → names (next_value es (input r k)) ≡ some q → RewritePath es z q)
      go (inl i) = split (w.kept z i)
      go (inr f) = inr (λ q n. path_then (f r refl) (here q n))

  ends_by : (n : ℕ) (left : List ℕ) → length left ≡ n → (v : Value) → ValueEnds v → Covers left v
      → ((m : ℕ) → n ≡ suc m → (l : List ℕ) → length l ≡ m → ValueEnds (next_value es v) → Covers l (next_value es v)
      → EndsIn es m (next_value es v)) → EndsIn es n v
  ends_by n left len (const i) h c ih = ends_later es 0 n (const i) (record { ends = refl }) (omega arith)
  ends_by n left len (held r k) h c ih = ends_later es 0 n (held r k) (record { ends = refl }) (omega arith)
  ends_by n left len (instr r k) h c ih = ends_later es 0 n (instr r k) (record { ends = refl }) (omega arith)
  ends_by n left len (output o) h c ih = ends_later es 0 n (output o) (record { ends = refl }) (omega arith)
  ends_by n left len (bool b) h c ih = ends_later es 0 n (bool b) (record { ends = refl }) (omega arith)
  ends_by n left len (undef ty) h c ih = ends_later es 0 n (undef ty) (record { ends = refl }) (omega arith)
  ends_by n left len no_value h c ih = ends_later es 0 n no_value (record { ends = refl }) (omega arith)
  ends_by n left len (input r k) h c ih = go (rewrites_of es r) refl
    where
      passed : (x : RegionInputRewrites) → rewrites_of es r ≡ some x → (w : Without r left) → Next es r k x → (m : ℕ) → n ≡ suc m
          → EndsIn es n (input r k)
      passed x e w (last s) m l = ends_later es 1 n (input r k) (record { ends = s }) (omega arith)
      passed x e w (given g) m l =
          rw l (record {
            ends =
                (ih m l w.others (let z = w.fewer in omega arith) (end_given x k (next_value es (input r k)) (h r refl) e g)
                (covers_next r k x e g left w c)).ends;
          })

      go : (o : Option RegionInputRewrites) → rewrites_of es r ≡ o → EndsIn es n (input r k)
      go none e = ends_later es 0 n (input r k) (record { ends = rw e }) (omega arith)
      go (some x) e = elim (c r (in_logged es r x e)) [
        | inl i ↦ (let w = take_out r left i in passed x e w (next es r k x e) (length w.others) (let z = w.fewer in omega arith))
        | inr f ↦ absurd (acyclic (h r refl) (f r refl))
      ]

  pub ends_within : (n : ℕ) (left : List ℕ) → length left ≡ n → (v : Value) → ValueEnds v → Covers left v → EndsIn es n v
  ends_within zero left len v h c = ends_by 0 left len v h c (λ m l. absurd (omega arith))
  ends_within (suc n) left len v h c =
      ends_by (suc n) left len v h c
      (λ m l t q h' c'. let same : m ≡ n = omega arith in rw same (ends_within n t (rw same at q) (next_value es v) h' c'))

  pub value_ends : (v : Value) → ValueEnds v → EndsIn es (length es) v
  value_ends v h = ends_within (length es) (logged es) (length-map es (λ e. e.region)) v h (λ z m. inl m)

-- ---- the fuel of a look_up is more than enough
less_power : (n : ℕ) → n < 2 ^ n
less_power zero = omega arith
less_power (suc n) = let z = pow-suc 2 n in let y = less_power n in omega arith

module _ (es : List RewriteEntry) (all : (r : ℕ) → ChainsEnd es r) where
  pub rewrite_enough : (v : Value) (fuel : ℕ) → length es ≤ fuel → (look_up_chain fuel es v).value ≡ rewrite es v
  unfolding look_up
  rewrite_enough v fuel l =
      let e = value_ends es v (λ q n. all q) in
      chain_same es fuel (chain_fuel es) v (ends_later es (length es) fuel v e l)
      (ends_later es (length es) (chain_fuel es) v e (let z = less_power (length es) in omega arith))

  pub meets_enough : (v : Value) (fuel : ℕ) → length es < fuel → (look_up_chain fuel es v).twice ≡ meets es v
  unfolding look_up
  meets_enough v fuel l = meets_same es (length es) v (value_ends es v (λ q n. all q)) fuel (chain_fuel es) l (less_power (length es))
