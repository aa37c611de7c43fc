-- A marked value counts for "twice", by `changes_again`, just where its second look-up would change it (document 01): no chain that
-- leaves a region comes back to it.
use Rattle.std.specs.Prelude.{◌≡◌, refl, Bool, true, false, not, List, ℕ, zero, suc, length, get_or, eqb}
use Rattle.std.proofs.Common.{sym, ap, ◌∙◌, arith, eqb-true, eq-eqb}
use Rattle.std.proofs.Math.Option.{Option, none, some}
use Rattle.meaning.specs.Graph.{Value, const, input, instr, output, bool, undef, held, same_value, no_value}
use Rattle.nesting.specs.Nesting.{InputRewrite, renumber_to, replace_by, RegionInputRewrites, replace_with, renumber_or_replace_with}
use Rattle.nesting.specs.Nesting.{RewriteEntry, rewrites_of, changes_again}
use Rattle.nesting.specs.lookups.Rewriting.{rewrite}
use Rattle.nesting.proofs.lookups.ChainSteps.{next_value, after_steps, stops_after, chain_steps}
use Rattle.nesting.specs.lookups.ChainEnds.{names, RewritesTo, ChainsEnd}
use Rattle.nesting.proofs.lookups.ChainEnds.{NamesInput, RewritePath, one, path_then, acyclic}
use Rattle.nesting.proofs.lookups.ChainEnds.{rewrite_enough}

-- A value that names no input of r is not a marked one of r.
not_held : (u : Value) (r k : ℕ) → (names u ≡ some r → ⊥) → same_value u (held r k) ≡ false
not_held (const i) r k h = refl
not_held (input q j) r k h = refl
not_held (instr q j) r k h = refl
not_held (output o) r k h = refl
not_held (bool b) r k h = refl
not_held (undef ty) r k h = refl
not_held no_value r k h = refl
not_held (held q j) r k h = go (eqb q r) refl
  where
    go : (b : Bool) → eqb q r ≡ b → same_value (held q j) (held r k) ≡ false
    go true e = absurd (h (ap some (eqb-true q r e)))
    go false e = rw e

module _ (es : List RewriteEntry) where
  -- The log leads from r to what v names, if that is a region's input.
  abbrev LogReaches : ℕ → Value → Type 0
  LogReaches r v = (q : ℕ) → names v ≡ some q → RewritePath es r q

  leads : (r k : ℕ) (x : RegionInputRewrites) (v : Value) → rewrites_of es r ≡ some x → RewritesTo x k v → (q : ℕ) → names v ≡ some q
      → NamesInput es r q
  leads r k x v e g q n = record { by = x; is = e; at = k; value = v; gives = g; named = n }

  reaches_next : (r : ℕ) (v : Value) → LogReaches r v → LogReaches r (next_value es v)
  reaches_next r (const i) h = h
  reaches_next r (held z k) h = h
  reaches_next r (instr z k) h = h
  reaches_next r (output o) h = h
  reaches_next r (bool b) h = h
  reaches_next r (undef ty) h = h
  reaches_next r no_value h = h
  reaches_next r (input z k) h = go (rewrites_of es z) refl
    where
      to : (x : RegionInputRewrites) (v : Value) → rewrites_of es z ≡ some x → RewritesTo x k v → LogReaches r v
      to x v e g q n = path_then (h z refl) (leads z k x v e g q n)

      slot : (xs : List InputRewrite) → rewrites_of es z ≡ some (renumber_or_replace_with xs) → (y : InputRewrite)
          → get_or xs k (renumber_to k) ≡ y → LogReaches r (next_value es (input z k))
      slot xs e (replace_by v) g = rw (e, g) (to (renumber_or_replace_with xs) v e g)
      slot xs e (renumber_to i) g = rw (e, g) h

      go : (o : Option RegionInputRewrites) → rewrites_of es z ≡ o → LogReaches r (next_value es (input z k))
      go none e = rw e h
      go (some (replace_with vs)) e = rw e (to (replace_with vs) (get_or vs k (undef 0)) e refl)
      go (some (renumber_or_replace_with xs)) e = slot xs e (get_or xs k (renumber_to k)) refl

  reaches_after : (n r : ℕ) (v : Value) → LogReaches r v → LogReaches r (after_steps n es v)
  reaches_after zero r v h = h
  reaches_after (suc n) r v h = reaches_after n r (next_value es v) (reaches_next r v h)

module _ (es : List RewriteEntry) (all : (r : ℕ) → ChainsEnd es r) where
  -- A look_up takes the first step, and the rest has fuel enough.
  rewrite_next : (v : Value) → rewrite es v ≡ after_steps (length es) es (next_value es v)
  rewrite_next v = sym (rewrite_enough es all v (suc (length es)) (omega arith)) ∙ chain_steps es (suc (length es)) v

  -- The second look_up of `held r k` is that of `input r k`; only an entry that renumbers makes a marked value.
  pub second_look_up : (r k : ℕ) (xs : List InputRewrite) → rewrites_of es r ≡ some (renumber_or_replace_with xs)
      → changes_again k (rewrites_of es r) ≡ not (same_value (rewrite es (input r k)) (held r k))
  second_look_up r k xs e = go (get_or xs k (renumber_to k)) refl
    where
      go : (y : InputRewrite) → get_or xs k (renumber_to k) ≡ y
          → changes_again k (rewrites_of es r) ≡ not (same_value (rewrite es (input r k)) (held r k))
      go (renumber_to i) g =
          let same : rewrite es (input r k) ≡ held r i =
          rewrite_next (input r k) ∙ rw (e, g) (stops_after es (length es) (held r i) refl) in
          let self : eqb r r ≡ true = eq-eqb r r refl in
          rw (same, e, changes_again, g, self)
      go (replace_by v) g =
          let end = after_steps (length es) es v in
          let same : rewrite es (input r k) ≡ end = rewrite_next (input r k) ∙ rw (e, g) in
          let from_r = reaches_after es (length es) r v (λ q n. one (leads es r k (renumber_or_replace_with xs) v e g q n)) in
          let other : same_value end (held r k) ≡ false = not_held end r k (λ n. acyclic (all r) (from_r r n)) in
          rw (same, e, changes_again, g, other)
