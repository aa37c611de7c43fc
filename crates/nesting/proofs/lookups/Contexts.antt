-- Contexts: the regions whose inputs lead, by the log and past every mark, to the inputs of one region and to no other.
use Rattle.std.specs.Prelude.{◌≡◌, refl, Bool, true, false, List, [], ◌∷◌, ◌++◌, ℕ, zero, suc, get_or, eqb}
use Rattle.std.proofs.Common.{◌∙◌, eqb-true, eq-eqb, ne_eqb}
use Rattle.std.proofs.Math.Option.{none, some}
use Rattle.std.proofs.lemmas.Bool.{eqb-false}
use Rattle.meaning.specs.Graph.{Value, const, input, instr, output, bool, undef, held, no_value}
use Rattle.meaning.specs.facts.Tests.{clash}
use Rattle.nesting.specs.Nesting.{InputRewrite, renumber_to, replace_by, RegionInputRewrites, replace_with, renumber_or_replace_with}
use Rattle.nesting.specs.Nesting.{RewriteEntry, rewrites_of, chain_fuel, look_up}
use Rattle.nesting.specs.lookups.Rewriting.{rewrite}
use Rattle.nesting.proofs.lookups.ChainSteps.{next_value, after_steps, chain_steps, step_input, step_chain}
use Rattle.nesting.specs.lookups.ChainEnds.{names, RewritesTo, Open, ChainsEnd, no_more, goes_on}
use Rattle.nesting.proofs.lookups.ChainEnds.{entry_kept}
use Rattle.meaning.specs.Lists.{pick}

pub data WithinContext (es : List RewriteEntry) (p : ℕ) : ℕ → Type 0 where
  itself : WithinContext es p p
  inner : {r : ℕ} (x : RegionInputRewrites) → rewrites_of es r ≡ some x
      → ((k : ℕ) (v : Value) (q : ℕ) → RewritesTo x k v → names v ≡ some q → WithinContext es p q) → WithinContext es p r

-- A value of p's context.
pub record InContext (es : List RewriteEntry) (p : ℕ) (v : Value) : Type 0 where
  pub within : (q : ℕ) → names v ≡ some q → WithinContext es p q

-- what is no input, and an input of p itself
pub no_input : {es : List RewriteEntry} {p : ℕ} (v : Value) → names v ≡ none → InContext es p v
no_input v e = record { within = λ q n. absurd (clash (cc)) }

pub own_in : {es : List RewriteEntry} (p k : ℕ) → InContext es p (input p k)
own_in p k = record { within = λ q n. let z : p ≡ q = cc in rw (← z) itself }

-- ---- the log gains entries
pub within_more : {es : List RewriteEntry} {p r : ℕ} (t : List RewriteEntry) → WithinContext es p r → WithinContext (es ++ t) p r
within_more t itself = itself
within_more {es} {p} {r} t (inner x e h) = inner x (entry_kept es t r x e) (λ k v q g n. within_more t (h k v q g n))

pub context_more : {es : List RewriteEntry} {p : ℕ} {v : Value} (t : List RewriteEntry) → InContext es p v → InContext (es ++ t) p v
context_more t h = record { within = λ q n. within_more t (h.within q n) }

abbrev pub entry : ℕ → RegionInputRewrites → RewriteEntry
entry q x = record { region = q; rewrites = x }

pub entry_new : (es : List RewriteEntry) (q : ℕ) (x : RegionInputRewrites) (r : ℕ) → Open es r
    → rewrites_of (es ++ (entry q x ∷ [])) r ≡ pick (eqb r q) (some x) none
entry_new [] q x r p = refl
entry_new (y ∷ es) q x r p = go (eqb r y.region) p (λ h. entry_new es q x r h)
  where
    go : (b : Bool) → pick b (some y.rewrites) (rewrites_of es r) ≡ none
        → (rewrites_of es r ≡ none → rewrites_of (es ++ (entry q x ∷ [])) r ≡ pick (eqb r q) (some x) none)
        → pick b (some y.rewrites) (rewrites_of (es ++ (entry q x ∷ [])) r) ≡ pick (eqb r q) (some x) none
    go true h ih = absurd (clash (cc))
    go false h ih = ih h

pub entry_at : (es : List RewriteEntry) (q : ℕ) (x : RegionInputRewrites) → Open es q → rewrites_of (es ++ (entry q x ∷ [])) q ≡ some x
entry_at es q x p = let z = eq-eqb q q refl in entry_new es q x q p ∙ rw z

pub open_else : (es : List RewriteEntry) (q : ℕ) (x : RegionInputRewrites) (r : ℕ) → Open es r → (r ≡ q → ⊥)
    → Open (es ++ (entry q x ∷ [])) r
open_else es q x r p ne = let z = ne_eqb r q ne in entry_new es q x r p ∙ rw z

-- ---- region q is placed in p's context: its own context becomes p's
module _ (es : List RewriteEntry) (q p : ℕ) (x : RegionInputRewrites) (no_entry : Open es q)
    (given : (k : ℕ) (v : Value) → RewritesTo x k v → InContext es p v) where
  abbrev es⁺ : List RewriteEntry
  es⁺ = es ++ (entry q x ∷ [])

  pub replaced : {r : ℕ} → WithinContext es q r → WithinContext es⁺ p r
  replaced itself = inner x (entry_at es q x no_entry) (λ k v w g n. within_more (entry q x ∷ []) ((given k v g).within w n))
  replaced {r = r} (inner y e h) = inner y (entry_kept es (entry q x ∷ []) r y e) (λ k v w g n. replaced (h k v w g n))

  pub context_replaced : {v : Value} → InContext es q v → InContext es⁺ p v
  context_replaced h = record { within = λ w n. replaced (h.within w n) }

-- ---- every region is in the context of one that has no entry
pub record Rooted (es : List RewriteEntry) (r : ℕ) : Type 0 where
  pub root : ℕ
  pub no_entry : Open es root
  pub within : WithinContext es root r

rooted_end : {es : List RewriteEntry} {p r : ℕ} → Open es p → WithinContext es p r → ChainsEnd es r
rooted_end o itself = no_more o
rooted_end o (inner x e h) = goes_on x e (λ k v q g n. rooted_end o (h k v q g n))

pub rooted_ends : {es : List RewriteEntry} {r : ℕ} → Rooted es r → ChainsEnd es r
rooted_ends h = rooted_end h.no_entry h.within

pub rooted_add : (es : List RewriteEntry) (q p : ℕ) (x : RegionInputRewrites) → Open es q → Open es p → (p ≡ q → ⊥)
    → ((k : ℕ) (v : Value) → RewritesTo x k v → InContext es p v)
    → ((r : ℕ) → Rooted es r) → (r : ℕ) → Rooted (es ++ (entry q x ∷ [])) r
rooted_add es q p x open_q open_p ne given all r = go (all r) (eqb (all r).root q) refl
  where
    go : (h : Rooted es r) (b : Bool) → eqb h.root q ≡ b → Rooted (es ++ (entry q x ∷ [])) r
    go h true e =
        let same = eqb-true h.root q e in
        let w : WithinContext es q r = rw same at h.within in
        record { root = p; no_entry = open_else es q x p open_p ne; within = replaced es q p x open_q given w }
    go h false e = record {
      root = h.root;
      no_entry = open_else es q x h.root h.no_entry (eqb-false h.root q e);
      within =
          within_more (entry q x ∷ []) h.within;
    }

-- ---- a look_up stays in its context
module _ (es : List RewriteEntry) (p : ℕ) (no_entry : Open es p) where
  next_within : (r k : ℕ) → WithinContext es p r → InContext es p (step_chain (λ v. v) r k (rewrites_of es r))
  next_within r k itself = rw no_entry (record { within = λ q n. let z : p ≡ q = cc in rw (← z) itself })
  next_within r k (inner x e h) = rw e (go x e h)
    where
      slot : (xs : List InputRewrite) → rewrites_of es r ≡ some (renumber_or_replace_with xs)
          → ((k : ℕ) (v : Value) (q : ℕ) → RewritesTo (renumber_or_replace_with xs) k v → names v ≡ some q → WithinContext es p q)
          → (y : InputRewrite) → get_or xs k (renumber_to k) ≡ y → InContext es p (step_input (λ v. v) r y)
      slot xs e h (replace_by v) g = record { within = λ q n. h k v q g n }
      slot xs e h (renumber_to i) g = record { within = λ q n. let z : r ≡ q = cc in rw (← z) (inner (renumber_or_replace_with xs) e h) }

      go : (x : RegionInputRewrites) → rewrites_of es r ≡ some x
          → ((k : ℕ) (v : Value) (q : ℕ) → RewritesTo x k v → names v ≡ some q → WithinContext es p q)
          → InContext es p (step_chain (λ v. v) r k (some x))
      go (replace_with vs) e h = record { within = λ q n. h k (get_or vs k (undef 0)) q refl n }
      go (renumber_or_replace_with xs) e h = slot xs e h (get_or xs k (renumber_to k)) refl

  context_next : (v : Value) → InContext es p v → InContext es p (next_value es v)
  context_next (input r k) h = next_within r k (h.within r refl)
  context_next (const i) h = h
  context_next (held r k) h = h
  context_next (instr r k) h = h
  context_next (output o) h = h
  context_next (bool b) h = h
  context_next (undef ty) h = h
  context_next no_value h = h

  context_after : (n : ℕ) (v : Value) → InContext es p v → InContext es p (after_steps n es v)
  context_after zero v h = h
  context_after (suc n) v h = context_after n (next_value es v) (context_next v h)

  pub context_rewritten : (v : Value) → InContext es p v → InContext es p (rewrite es v)
  unfolding look_up
  context_rewritten v h = rw (chain_steps es (chain_fuel es) v) (context_after (chain_fuel es) v h)
