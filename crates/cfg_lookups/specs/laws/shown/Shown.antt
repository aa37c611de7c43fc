-- For every state that the words show, a look_up answers the word of the definition's value, with its note.
use Rattle.std.specs.Prelude.{◌≡◌, Bool, false, ◌||◌, List, [], ◌∷◌, ◌++◌, map, length, get_or, eqb}
use Rattle.std.proofs.Math.Path.{refl, ap}
use Rattle.std.proofs.Common.{sym, ◌∙◌, subst, inl, arith}
use Rattle.std.proofs.Math.Bool.{true, not, or-false, or_assoc}
use Rattle.std.proofs.lemmas.List.{map-append}
use Rattle.std.proofs.Math.Option.{Option, some}
use Prim.Native.Nat.{ℕ, zero, suc, ◌+◌, ◌≤◌, ◌<◌}
use Rattle.std.proofs.Math.Decide.{ℕ_discrete}
use borrow.Author.Tests.{lt-ltb, le-ltb, eq-eqb, ne_eqb}
use Rattle.meaning.specs.Lists.{any, pick, tabulate}
use Rattle.meaning.specs.Graph.{Value, input, held}
use Rattle.meaning.specs.facts.Tests.{clash}
use Rattle.meaning.specs.facts.Elements.{any_snoc, length_tabulate, in_tabulate}
use Rattle.nesting.specs.Nesting as nesting
use Rattle.nesting.specs.Nesting.{InputRewrite, renumber_to, replace_by, RegionInputRewrites, renumber_or_replace_with}
use Rattle.nesting.specs.Nesting.{RewriteEntry, NestState, done, look_up_chain, look_up_input, rewrite_values, nest_state}
use Rattle.nesting.specs.Nesting.{counts_of, with_twice, most_regions}
use Rattle.nesting.proofs.lookups.ChainSteps.{EndsIn, ends_later, chain_same, meets_same}
use Rattle.nesting.specs.lookups.ChainEnds.{ChainsEnd}
use Rattle.nesting.proofs.lookups.ChainEnds.{ends_within, rewrite_enough, meets_enough}
use Rattle.state_words.specs.Sections.{section, stored, head, rewrites}
use Rattle.state_words.specs.Values.{is_input, is_held, input_region, input_index}
use Rattle.state_shown.specs.Values.{value}
use Rattle.state_shown.specs.laws.ValueWords.{Ranged, in_const, in_false, in_true, in_undef, in_output, in_input, in_held, in_instr}
use Rattle.state_shown.specs.laws.ValueWords.{in_none}
use Rattle.state_shown.specs.laws.ValueWords.{ranged}
use Rattle.state_shown.specs.laws.ValueWords.{same_word}
use Rattle.state_shown.specs.Tables.{ShowsInput, renumbered, replaced, ShowsEntry, no_entry, replaces, renumbers, ShowsRewrites}
use Rattle.state_shown.specs.Tables.{ShowsTables}
use Rattle.state_shown.specs.laws.Stores.{ChangesOnly, head_changes, nothing_changes}
use Rattle.state_shown.specs.laws.Steps.{twice_noted}
use Rattle.cfg_lookups.specs.declared.look_up.LookUp.{LookUp}
use Rattle.cfg_lookups.specs.LookUps as words
use Rattle.cfg_lookups.specs.LookUps.{plain, kind_at, entry_at, changes_again, stays, turns, look_up, Rewrites}
use Rattle.state_words.specs.Values.{held_from, input_from, instr_from}
use Rattle.state_words.specs.Rows.{twice_at, entry_none, entry_replace}

-- ---- The tests of a word, by its range.
pub input_in : (x : ℕ) → input_from ≤ x → x < held_from → is_input x ≡ true
unfolding is_input
input_in x a b = rw (le-ltb x input_from a, lt-ltb x held_from b)

pub input_below : (x : ℕ) → x < input_from → is_input x ≡ false
unfolding is_input
input_below x a = rw (lt-ltb x input_from a)

pub input_above : (x : ℕ) → held_from ≤ x → is_input x ≡ false
unfolding is_input
input_above x a = let b : input_from ≤ x = omega arith in rw (le-ltb x input_from b, le-ltb x held_from a)

pub held_in : (x : ℕ) → held_from ≤ x → x < instr_from → is_held x ≡ true
unfolding is_held
held_in x a b = rw (le-ltb x held_from a, lt-ltb x instr_from b)

pub held_below : (x : ℕ) → x < held_from → is_held x ≡ false
unfolding is_held
held_below x a = rw (lt-ltb x held_from a)

pub held_above : (x : ℕ) → instr_from ≤ x → is_held x ≡ false
unfolding is_held
held_above x a = let b : held_from ≤ x = omega arith in rw (le-ltb x held_from b, le-ltb x instr_from a)

held_range : (x r k : ℕ) → value x ≡ held r k → (held_from ≤ x) × (x < instr_from)
held_range x r k h = go (ranged x) h
  where
    go : {v : Value} → Ranged x v → v ≡ held r k → (held_from ≤ x) × (x < instr_from)
    go (in_const a e) h = absurd (clash (cc))
    go (in_false a e) h = absurd (clash (cc))
    go (in_true a e) h = absurd (clash (cc))
    go (in_undef a b e) h = absurd (clash (cc))
    go (in_output a b e) h = absurd (clash (cc))
    go (in_input a b e) h = absurd (clash (cc))
    go (in_held a b e) h = (a, b)
    go (in_instr a b e) h = absurd (clash (cc))
    go (in_none a e) h = absurd (clash (cc))

pub held_word : (x r k : ℕ) → value x ≡ held r k → is_held x ≡ true
held_word x r k h = held_in x (held_range x r k h).0 (held_range x r k h).1

-- ---- A look_up's answer in words, and the definition's.
pub record ShowsFound (a : LookUp) (b : nesting.LookUp Value) : Type 0 where
  pub value : value a.value ≡ b.value
  pub twice : a.twice ≡ b.twice

-- Marked words of one region are the same word if and only if their numbers are.
same_number : (x y r i k : ℕ) → value y ≡ held r i → value x ≡ held r k → eqb y x ≡ eqb i k
same_number x y r i k p q =
    elim (ℕ_discrete i k) [
      | yes e ↦ eq-eqb y x (same_word y x (let z = (held_range x r k q).1 in omega arith) (p ∙ rw e (sym q))) ∙ sym (eq-eqb i k e)
      | no d ↦ ne_eqb y x (λ e. d (let z : value x ≡ held r i = rw e at p in cc)) ∙ sym (ne_eqb i k d)
    ]

not_marked : (x y : ℕ) → is_held y ≡ false → is_held x ≡ true → eqb y x ≡ false
not_marked x y a b = ne_eqb y x (λ e. let z : is_held x ≡ false = rw e at a in clash (cc))

module _ (l : List ℕ) (es : List RewriteEntry) (shown : ShowsRewrites (section l rewrites) es) where
  -- A marked value: whether its region's entry would change it again.
  again_shown : (x : ℕ) → is_held x ≡ true → value x ≡ held (input_region x) (input_index x) → {o : Option RegionInputRewrites}
      → ShowsEntry (section l rewrites) (input_region x) o
      → changes_again l x ≡ nesting.changes_again (input_index x) o
  unfolding changes_again
  again_shown x h v (no_entry e) = rw (eq-eqb (kind_at l x) entry_none e)
  again_shown x h v (replaces e f) = rw (ne_eqb (kind_at l x) entry_none (omega arith), eq-eqb (kind_at l x) entry_replace e)
  again_shown x h v (renumbers {xs} e f) =
      rw (ne_eqb (kind_at l x) entry_none (omega arith), ne_eqb (kind_at l x) entry_replace (omega arith))
      (slot (get_or xs (input_index x) (renumber_to (input_index x))) (f (input_index x) (omega arith)))
    where
      slot : (u : InputRewrite) → ShowsInput (input_region x) (entry_at l x) u
          → not (eqb (entry_at l x) x) ≡ elim u [ replace_by w ↦ true | renumber_to i ↦ not (eqb i (input_index x)) ]
      slot (renumber_to i) (renumbered p) = ap not (same_number x (entry_at l x) (input_region x) i (input_index x) p v)
      slot (replace_by w) (replaced p q) = ap not (not_marked x (entry_at l x) q h)

  -- What a turn gives for an input, by its region's entry.
  module _ (n x : ℕ) (an_input : is_input x ≡ true) (is : value x ≡ input (input_region x) (input_index x))
      (before : (y : ℕ) → ShowsFound (turns n l y) (look_up_chain n es (value y))) where
    abbrev go : Value → nesting.LookUp Value
    go v = look_up_chain n es v

    input_shown : {o : Option RegionInputRewrites} → ShowsEntry (section l rewrites) (input_region x) o
        → ShowsFound (turns (suc n) l x) (look_up_input go (input_region x) (input_index x) o)
    unfolding turns words.renumbers
    input_shown (no_entry e) = rw (an_input, eq-eqb (kind_at l x) entry_none e) (record { value = is; twice = refl })
    input_shown (replaces {vs} e f) =
        rw (an_input, e, ← f (input_index x) (omega arith)) (before (entry_at l x))
    input_shown (renumbers {xs} e f) =
        rw (an_input, e) (slot (get_or xs (input_index x) (renumber_to (input_index x))) (f (input_index x) (omega arith)))
      where
        slot : (u : InputRewrite) → ShowsInput (input_region x) (entry_at l x) u
            → ShowsFound (pick (is_held (entry_at l x)) (plain (entry_at l x)) (turns n l (entry_at l x)))
            (look_up_input go (input_region x) 0 (some (renumber_or_replace_with (u ∷ []))))
        slot (renumber_to i) (renumbered p) = rw (held_word (entry_at l x) (input_region x) i p) (record { value = p; twice = refl })
        slot (replace_by w) (replaced p q) = rw (q, ← p) (before (entry_at l x))

  -- Turn by turn.
  turn_shown : (n x : ℕ) → ((y : ℕ) → ShowsFound (turns n l y) (look_up_chain n es (value y))) → {v : Value} → Ranged x v → value x ≡ v
      → ShowsFound (turns (suc n) l x) (look_up_chain (suc n) es v)
  unfolding turns look_up_chain stays
  turn_shown n x before (in_const a e) h = let z = h ∙ e in rw (e, input_below x (omega arith), held_below x (omega arith))
      (record { value = z; twice = refl })
  turn_shown n x before (in_false a e) h = let z = h ∙ e in rw (e, input_below x (omega arith), held_below x (omega arith))
      (record { value = z; twice = refl })
  turn_shown n x before (in_true a e) h = let z = h ∙ e in rw (e, input_below x (omega arith), held_below x (omega arith))
      (record { value = z; twice = refl })
  turn_shown n x before (in_undef a b e) h = let z = h ∙ e in
      rw (e, input_below x (omega arith), held_below x (omega arith)) (record { value = z; twice = refl })
  turn_shown n x before (in_output a b e) h = let z = h ∙ e in
      rw (e, input_below x b, held_below x (omega arith)) (record { value = z; twice = refl })
  turn_shown n x before (in_input a b e) h =
      rw e (input_shown n x (input_in x a b) (h ∙ e) before (shown.entry (input_region x) (omega arith)))
  turn_shown n x before (in_held a b e) h =
      let z = h ∙ e in
      rw (e, input_above x a, held_in x a b) (record {
        value = z;
        twice =
            again_shown x (held_in x a b) z (shown.entry (input_region x) (omega arith));
      })
  turn_shown n x before (in_instr a b e) h = let z = h ∙ e in rw (e, input_above x (omega arith), held_above x a)
      (record { value = z; twice = refl })
  turn_shown n x before (in_none a e) h = let z = h ∙ e in
      rw (e, input_above x (omega arith), held_above x (omega arith)) (record { value = z; twice = refl })

  pub chain_shown : (n x : ℕ) → ShowsFound (turns n l x) (look_up_chain n es (value x))
  unfolding turns look_up_chain
  chain_shown zero x = record { value = refl; twice = refl }
  chain_shown (suc n) x = turn_shown n x (λ y. chain_shown n y) (ranged x) refl

-- ---- A turn more than there are regions is enough: no chain passes a region twice.
module _ (l : List ℕ) (es : List RewriteEntry) (shown : ShowsRewrites (section l rewrites) es) (all : (r : ℕ) → ChainsEnd es r) where
  ends_soon : (v : Value) → EndsIn es most_regions v
  ends_soon v = ends_within es most_regions (tabulate most_regions (λ k. k)) (length_tabulate most_regions (λ k. k)) v (λ q n. all q)
      (λ z m. inl (in_tabulate most_regions (λ k. k) z (shown.logged z m)))

  pub look_up_shown : (x : ℕ) → ShowsFound (look_up l x) (nesting.look_up es (value x))
  look_up_shown x =
      let v = value x in
      let f = chain_shown l es shown (most_regions + 1) x in
      let e = ends_soon v in
      let enough : ℕ = most_regions + 1 in
      let long : ℕ = enough + length es in
      record {
        value = f.value ∙ chain_same es enough long v (ends_later es most_regions enough v e (omega arith))
            (ends_later es most_regions long v e (omega arith))
            ∙ rewrite_enough es all v long (omega arith);
        twice = f.twice ∙ meets_same es most_regions v e enough long (omega arith) (omega arith)
            ∙ meets_enough es all v long (omega arith);
      }

-- ---- The step that looks up one value: `rewrite_values` of it alone.
module _ {w w' : List ℕ} {s : NestState} (t : ShowsTables w s) (all : (r : ℕ) → ChainsEnd s.region_input_rewrites r) {x a : ℕ}
    (step : Rewrites w x w' a) where
  abbrev found : nesting.LookUp Value
  found = nesting.look_up s.region_input_rewrites (value x)

  pub rewritten_value : value a ≡ found.value
  rewritten_value = rw step.value (look_up_shown w s.region_input_rewrites t.rewritten all x).value

  noted_by : (b : Bool) → (look_up w x).twice ≡ b → ShowsTables w' (with_twice b s)
  noted_by true e = twice_noted t (step.noted ∙ rw e)
  noted_by false e =
      let n : w' ≡ w = step.noted ∙ rw e in
      let same : with_twice false s ≡ s = ap (λ b. nest_state s.region_states s.region_input_rewrites s.node_outputs
      (counts_of s) b) (or-false s.twice) in
      subst (λ z. ShowsTables w' z) (sym same) (rw n t)

  pub rewritten_tables : ShowsTables w' (with_twice found.twice s)
  rewritten_tables = noted_by found.twice (look_up_shown w s.region_input_rewrites t.rewritten all x).twice

  pub rewrite_shown : (rewrite_values (value x ∷ []) s ≡ done (value a ∷ []) (with_twice found.twice s))
      × ShowsTables w' (with_twice found.twice s)
  unfolding rewrite_values
  rewrite_shown = (rw (rewritten_value, or-false found.twice), rewritten_tables)

  pub rewrite_changes : ChangesOnly head twice_at w w'
  rewrite_changes = go (look_up w x).twice refl
    where
      go : (b : Bool) → (look_up w x).twice ≡ b → ChangesOnly head twice_at w w'
      go true e = let n : w' ≡ stored w head twice_at 1 = step.noted ∙ rw e in rw n (head_changes head twice_at w 1)
      go false e = let n : w' ≡ w = step.noted ∙ rw e in rw n (nothing_changes head twice_at w)

-- ---- Values looked up in turn, one by one.
pub rewrite_none : (s : NestState) → rewrite_values [] s ≡ done [] s
unfolding rewrite_values
rewrite_none s =
    ap (λ b. done [] (nest_state s.region_states s.region_input_rewrites s.node_outputs (counts_of s) b))
    (or-false s.twice)

pub rewrite_more : (vs us : List Value) (v u : Value) (s s₁ s₂ : NestState) → rewrite_values vs s ≡ done us s₁
    → rewrite_values (v ∷ []) s₁ ≡ done (u ∷ []) s₂
    → rewrite_values (vs ++ (v ∷ [])) s ≡ done (us ++ (u ∷ [])) s₂
unfolding rewrite_values
rewrite_more vs us v u s s₁ s₂ p q =
    let f : Value → Value = λ x. (nesting.look_up s.region_input_rewrites x).value in
    let g : Value → Bool = λ x. (nesting.look_up s.region_input_rewrites x).twice in
    let first : s₁ ≡ with_twice (any g vs) s = cc in
    let met : us ≡ map f vs = cc in
    let second : done (u ∷ []) s₂ ≡ rewrite_values (v ∷ []) (with_twice (any g vs) s) = sym q ∙ ap (λ z. rewrite_values (v ∷ []) z) first in
    let one : u ≡ f v = cc in
    let last : s₂ ≡ with_twice (g v || false) (with_twice (any g vs) s) = cc in
    rw (last, met, one, or_assoc s.twice (any g vs) (g v || false), ← any_snoc g vs v, ← map-append f vs (v ∷ []))
