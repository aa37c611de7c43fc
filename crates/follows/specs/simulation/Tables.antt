-- The tables of nesting as they stand, and what look-ups and outputs at the end may be.
use Rattle.std.specs.Prelude.{Bool, List, ◌++◌, ◌≡◌, refl, suc, zero, ℕ, get_or}
use Rattle.std.proofs.Math.Option.{Option, none, some}
use Rattle.std.proofs.Common.{◌∙◌, ap, subst, sym}
use Rattle.meaning.specs.Graph.{Value, bool, const, held, input, instr, output, undef, no_value}
use Rattle.nesting.specs.Nesting.{chain_fuel, rewrites_of, InputRewrite, NestState, NodeOutput, RegionInputRewrites, RewriteEntry}
use Rattle.nesting.specs.Nesting.{renumber_or_replace_with, renumber_to, replace_by, replace_with, look_up}
use Rattle.nesting.specs.lookups.Rewriting.{rewrite}
use Rattle.nesting.proofs.lookups.ChainSteps.{after_steps, chain_steps, next_value, step_input, step_chain}
use Rattle.nesting.proofs.lookups.ChainEnds.{entry_kept}
use Rattle.meaning.specs.facts.Elements.{nth, nth_append, Extends, extends_refl, extends_then}
use Rattle.follows.specs.simulation.Key.{OutputAt}

-- ---- tables only gain
-- an entry stays, and so does an output where it is
pub entry_stays : {es es' : List RewriteEntry} (r : ℕ) {x : RegionInputRewrites} → Extends es es' → rewrites_of es r ≡ some x
    → rewrites_of es' r ≡ some x
entry_stays {es} r {x} p h = ap (λ l. rewrites_of l r) p.whole ∙ entry_kept es p.more r x h

pub stays : {a b : List NodeOutput} {n k : ℕ} {o : NodeOutput} → Extends a b → OutputAt n a k o → OutputAt n b k o
stays {a} {b} {n} {k} {o} p h = record { there = ap (λ l. nth l k) p.whole ∙ nth_append a p.more k o h.there; node = h.node }

pub record Tables : Type 0 where
  pub rewrites : List RewriteEntry
  pub outputs : List NodeOutput

abbrev pub tables : NestState → Tables
tables s = record { rewrites = s.region_input_rewrites; outputs = s.node_outputs }

pub record Gains (T T' : Tables) : Type 0 where
  pub rewrites : Extends T.rewrites T'.rewrites
  pub outputs : Extends T.outputs T'.outputs

pub gains_refl : (T : Tables) → Gains T T
gains_refl T = record { rewrites = extends_refl T.rewrites; outputs = extends_refl T.outputs }

pub gains_then : {T T' T'' : Tables} → Gains T T' → Gains T' T'' → Gains T T''
gains_then p q = record { rewrites = extends_then p.rewrites q.rewrites; outputs = extends_then p.outputs q.outputs }

-- ---- the tables at the end, as the present ones bind them
-- ρ: what each value will be looked up to.
abbrev pub Resolver : Type 0
Resolver = Value → Value

-- What an input of region r is at the end, by its rewrite: a renumbered one is the body input of its loop, the mark taken off.
abbrev pub final_input : Resolver → ℕ → InputRewrite → Value
final_input ρ r (replace_by v) = ρ v
final_input ρ r (renumber_to i) = input r i

abbrev pub EntryLaw : Resolver → ℕ → RegionInputRewrites → Type 0
EntryLaw ρ r (replace_with vs) = (k : ℕ) → ρ (input r k) ≡ ρ (get_or vs k (undef 0))
EntryLaw ρ r (renumber_or_replace_with xs) = (k : ℕ) → ρ (input r k) ≡ final_input ρ r (get_or xs k (renumber_to k))

-- Look-ups that obey the rewrites of T, and outputs os that begin with those of T.
pub record Respects (ρ : Resolver) (os : List NodeOutput) (T : Tables) : Type 0 where
  pub on_const : (i : ℕ) → ρ (const i) ≡ const i
  pub on_held : (r k : ℕ) → ρ (held r k) ≡ input r k
  pub on_instr : (r k : ℕ) → ρ (instr r k) ≡ instr r k
  pub on_output : (k : ℕ) → ρ (output k) ≡ output k
  pub on_bool : (b : Bool) → ρ (bool b) ≡ bool b
  pub on_undef : (ty : ℕ) → ρ (undef ty) ≡ undef ty
  pub steps : (v : Value) → ρ (next_value T.rewrites v) ≡ ρ v
  pub outputs : Extends T.outputs os

steps_before : (ρ : Resolver) (es t : List RewriteEntry) → ((v : Value) → ρ (next_value (es ++ t) v) ≡ ρ v) → (v : Value)
    → ρ (next_value es v) ≡ ρ v
steps_before ρ es t h (const i) = refl
steps_before ρ es t h (held r k) = refl
steps_before ρ es t h (instr r k) = refl
steps_before ρ es t h (output k) = refl
steps_before ρ es t h (bool b) = refl
steps_before ρ es t h (undef ty) = refl
steps_before ρ es t h no_value = refl
steps_before ρ es t h (input r k) = go (rewrites_of es r) refl
  where
    go : (o : Option RegionInputRewrites) → rewrites_of es r ≡ o → ρ (step_chain (λ v. v) r k o) ≡ ρ (input r k)
    go none p = refl
    go (some e) p = rw (entry_kept es t r e p) at (h (input r k))

pub respects_back : {T T' : Tables} {ρ : Resolver} {os : List NodeOutput} → Gains T T' → Respects ρ os T' → Respects ρ os T
respects_back {T} {ρ} p h = record {
  on_const = h.on_const;
  on_held = h.on_held;
  on_instr = h.on_instr;
  on_output = h.on_output;
  on_bool = h.on_bool;
  on_undef = h.on_undef;
  steps = steps_before ρ T.rewrites p.rewrites.more
      (subst (λ l. (v : Value) → ρ (next_value l v) ≡ ρ v) p.rewrites.whole h.steps);
  outputs = extends_then p.outputs h.outputs;
}

-- what an entry says of the look-ups
pub entry_law : {ρ : Resolver} {os : List NodeOutput} {T : Tables} → Respects ρ os T → (r : ℕ) (e : RegionInputRewrites)
    → rewrites_of T.rewrites r ≡ some e → EntryLaw ρ r e
entry_law h r (replace_with vs) p = λ k. sym (rw p at (h.steps (input r k)))
entry_law {ρ} h r (renumber_or_replace_with ss) p = λ k. sym (rw p at (h.steps (input r k))) ∙ go (get_or ss k (renumber_to k))
  where
    go : (sl : InputRewrite) → ρ (step_input (λ v. v) r sl) ≡ final_input ρ r sl
    go (replace_by v) = refl
    go (renumber_to i) = h.on_held r i

-- ---- a look_up now keeps what a value will be looked up to
pub lookup_keeps : {ρ : Resolver} {os : List NodeOutput} {T : Tables} → Respects ρ os T → (v : Value) → ρ (rewrite T.rewrites v) ≡ ρ v
unfolding look_up
lookup_keeps {ρ} {T} h v = ap ρ (chain_steps T.rewrites (chain_fuel T.rewrites) v) ∙ go (chain_fuel T.rewrites) v
  where
    go : (n : ℕ) (v : Value) → ρ (after_steps n T.rewrites v) ≡ ρ v
    go zero v = refl
    go (suc n) v = go n (next_value T.rewrites v) ∙ h.steps v
