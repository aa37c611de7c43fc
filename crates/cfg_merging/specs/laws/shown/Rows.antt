-- Words in a row, each looked up and stored where it stood: for every state that the words show they name the values looked up.
use Rattle.std.specs.Prelude.{◌≡◌, Bool, ◌||◌, eqb}
use Rattle.std.proofs.Math.Path.{refl, ap, subst}
use Rattle.std.proofs.Common.{sym, ◌∙◌}
use Rattle.std.proofs.Math.Bool.{true, false, or-false, or_assoc}
use mathlib.Core.List.{List, [], ◌∷◌, map}
use Prim.Native.Nat.{ℕ, zero, suc, ◌+◌, ◌≤◌, ◌<◌}
use native.Mathlib.Omega.{arith}
use Rattle.std.proofs.Math.ListN.{length, get_or}
use Rattle.std.proofs.lemmas.Bool.{eqb-false}
use Rattle.meaning.specs.Lists.{any, pick}
use Rattle.meaning.specs.Graph.{Value, undef}
use Rattle.meaning.specs.facts.Elements.{at_cons}
use Rattle.nesting.specs.Nesting as nesting
use Rattle.nesting.specs.Nesting.{NestState, nest_state, counts_of, with_twice}
use Rattle.nesting.specs.lookups.ChainEnds.{ChainsEnd}
use Rattle.state_words.specs.Sections.{Section, start, size, used, word, stored, head, rewrites}
use Rattle.state_words.specs.Values.{is_input, input_region, input_index}
use Rattle.state_shown.specs.Values.{value}
use Rattle.state_shown.specs.Tables.{ShowsTables}
use Rattle.state_shown.specs.laws.Stores.{ChangesOnly, word_changes, changes_then, nothing_changes, word_there, word_apart}
use Rattle.state_shown.specs.laws.Elsewhere.{Elsewhere, word_elsewhere, tables_stay}
use Rattle.state_shown.specs.laws.RegionSteps.{named_by}
use Rattle.state_shown.specs.Sets.{Names}
use Rattle.state_shown.specs.States.{NamedRewrites}
use Rattle.cfg_lookups.specs.declared.look_up.LookUp.{LookUp}
use Rattle.cfg_lookups.specs.LookUps.{plain, kind_at, entry_at, stays, renumbers, turns, look_up, Rewrites}
use Rattle.cfg_lookups.specs.laws.shown.Shown.{rewritten_value, rewritten_tables, rewrite_changes}
use Rattle.cfg_merging.specs.Turns.{turned}
use Rattle.cfg_merging.specs.Rewriting.{noted}
use Rattle.state_words.specs.Values.{names_nothing}
use Rattle.state_words.specs.Rows.{twice_at, entry_none}

-- ---- A look_up of a word that names a value gives one that does.
module _ (l : List ℕ) (named : NamedRewrites l) where
  module _ (x : ℕ) (h : x < names_nothing) (next : ℕ → LookUp) (before : (y : ℕ) → y < names_nothing → (next y).value < names_nothing) where
    abbrev by_entry : LookUp
    by_entry = pick (renumbers (kind_at l x) (entry_at l x)) (plain (entry_at l x)) (next (entry_at l x))

    entry_below : eqb (kind_at l x) entry_none ≡ false → by_entry.value < names_nothing
    entry_below e = go (renumbers (kind_at l x) (entry_at l x))
      where
        there : entry_at l x < names_nothing
        there = named.below (input_region x) (input_index x) (omega arith) (omega arith) (eqb-false (kind_at l x) entry_none e)

        go : (b : Bool) → (pick b (plain (entry_at l x)) (next (entry_at l x))).value < names_nothing
        go true = there
        go false = before (entry_at l x) there

    turn_below : (a b : Bool) → eqb (kind_at l x) entry_none ≡ b → (pick a (pick b (plain x) by_entry) (stays l x)).value < names_nothing
    unfolding stays
    turn_below true true e = h
    turn_below true false e = entry_below e
    turn_below false b e = h

  turns_below : (n x : ℕ) → x < names_nothing → (turns n l x).value < names_nothing
  unfolding turns
  turns_below zero x h = h
  turns_below (suc n) x h =
      turn_below x h (λ y. turns n l y) (λ y. turns_below n y) (is_input x) (eqb (kind_at l x) entry_none) refl

  pub look_up_below : (x : ℕ) → x < names_nothing → (look_up l x).value < names_nothing
  look_up_below x h = turns_below 129 x h

-- ---- Notes one behind the other.
pub no_note : (s : NestState) → with_twice false s ≡ s
no_note s = ap (λ b. nest_state s.region_states s.region_input_rewrites s.node_outputs (counts_of s) b) (or-false s.twice)

pub two_notes : (a b : Bool) (s : NestState) → with_twice b (with_twice a s) ≡ with_twice (a || b) s
two_notes a b s = ap (λ x. nest_state s.region_states s.region_input_rewrites s.node_outputs (counts_of s) x)
    (or_assoc s.twice a b)

-- ---- The words of section k from b + c on.
abbrev pub rewrite_word : Section → List ℕ → ℕ → List ℕ
rewrite_word k l i = stored (noted l (word l k i)) k i (look_up l (word l k i)).value

abbrev pub looked_up : NestState → List Value → List Value
looked_up s vs = map (λ v. (nesting.look_up s.region_input_rewrites v).value) vs

abbrev pub met_twice : NestState → List Value → Bool
met_twice s vs = any (λ v. (nesting.look_up s.region_input_rewrites v).twice) vs

pub record RowShown (k : Section) (o c : ℕ) (s : NestState) (l l' : List ℕ) (i : ℕ) (vs : List Value) : Type 0 where
  pub changes : ChangesOnly k 6 l l'
  pub before : (x : ℕ) → x < o + (c + i) → word l' k x ≡ word l k x
  pub behind : (x : ℕ) → o + (c + i) + length vs ≤ x → word l' k x ≡ word l k x
  pub tables : ShowsTables l' (with_twice (met_twice s vs) s)
  pub named : (j : ℕ) → j < length vs → Names (word l' k (o + (c + (i + j)))) (get_or (looked_up s vs) j (undef 0))

module _ (k : Section) (away : Elsewhere k) (room : start k + size k ≤ used) (o c : ℕ) where
  abbrev row_step : List ℕ → ℕ → List ℕ
  row_step l i = rewrite_word k l (o + (c + i))

  module _ (s : NestState) (all : (r : ℕ) → ChainsEnd s.region_input_rewrites r) (l : List ℕ) (t : ShowsTables l s)
      (names : NamedRewrites l) (i : ℕ) (below : o + (c + i) < size k) (v : Value) (first : Names (word l k (o + (c + i))) v) where
    x : ℕ
    x = word l k (o + (c + i))

    step : Rewrites l x (noted l x) (look_up l x).value
    unfolding noted
    step = record { value = refl; noted = refl }

    step_tables : ShowsTables (row_step l i) (with_twice (nesting.look_up s.region_input_rewrites v).twice s)
    unfolding x
    step_tables = tables_stay (word_elsewhere (noted l x) k away (o + (c + i)) (look_up l x).value)
        (rw first.is at (rewritten_tables t all step))

    noted_changes : ChangesOnly head twice_at l (noted l x)
    noted_changes = rewrite_changes t all step

    step_changes : ChangesOnly k 6 l (row_step l i)
    unfolding x
    step_changes =
        let g = noted_changes in
        changes_then (record { words = g.words; others = λ j a b. g.others j b b; totals = g.totals })
        (word_changes k 6 (noted l x) (λ e. away.not_head (sym e)) (o + (c + i)) (look_up l x).value)

    step_other : (q : ℕ) → (q ≡ o + (c + i) → ⊥) → word (row_step l i) k q ≡ word l k q
    unfolding x
    step_other q d =
        word_apart (noted l x) k (o + (c + i)) (look_up l x).value k q d
        ∙ ap (λ p. get_or p q 0) (noted_changes.others k (λ e. away.not_head (sym e)) (λ e. away.not_head (sym e)))

    step_named : Names (word (row_step l i) k (o + (c + i))) (nesting.look_up s.region_input_rewrites v).value
    unfolding x
    step_named =
        let full : used ≤ length (noted l x) = rw noted_changes.words t.size in
        rw (word_there (noted l x) k (o + (c + i)) (look_up l x).value (omega arith) below)
        (record {
          is = rw (← first.is) (rewritten_value t all step);
          below = look_up_below l names x first.below;
        })

  -- Row by row.
  pub row_shown : (vs : List Value) (s : NestState) → ((r : ℕ) → ChainsEnd s.region_input_rewrites r) → (l : List ℕ)
      → ShowsTables l s → NamedRewrites l → (i : ℕ) → o + (c + i) + length vs ≤ size k
      → ((j : ℕ) → j < length vs → Names (word l k (o + (c + (i + j)))) (get_or vs j (undef 0)))
      → RowShown k o c s l (turned row_step l (length vs) i) i vs
  unfolding turned
  row_shown [] s all l t names i below shown =
      record {
        changes = nothing_changes k 6 l;
        before = λ x h. refl;
        behind = λ x h. refl;
        tables = subst (λ z. ShowsTables l z) (sym (no_note s)) t;
        named = λ j h. absurd (omega arith);
      }
  row_shown (v ∷ vs) s all l t names i below shown =
      let here : i + 0 ≡ i = omega arith in
      let first : Names (word l k (o + (c + i))) v = rw here at (shown 0 (omega arith)) in
      let at : o + (c + i) < size k = omega arith in
      let l₁ = row_step l i in
      let g = step_changes s all l t names i at v first in
      let other = step_other s all l t names i at v first in
      let b = (nesting.look_up s.region_input_rewrites v).twice in
      let ih = row_shown vs (with_twice b s) all l₁ (step_tables s all l t names i at v first)
      (named_by (g.others rewrites away.not_rewrites (omega arith)) names) (suc i) (omega arith)
      (λ j h. let e : suc i + j ≡ i + suc j = omega arith in
      rw e (rw (other (o + (c + (i + suc j))) (omega arith)) (shown (suc j) (omega arith)))) in
      record {
        changes = changes_then g ih.changes;
        before = λ x h. ih.before x (omega arith) ∙ other x (omega arith);
        behind = λ x h. ih.behind x (omega arith) ∙ other x (omega arith);
        tables = subst (λ z. ShowsTables (turned row_step l₁ (length vs) (suc i)) z) (two_notes b (met_twice s vs) s) ih.tables;
        named = at_cons (λ q u. Names (word (turned row_step l₁ (length vs) (suc i)) k (o + (c + q))) u) (undef 0) i (length vs)
            (looked_up s vs)
            (rw (ih.before (o + (c + i)) (omega arith)) (step_named s all l t names i at v first)) ih.named;
      }
