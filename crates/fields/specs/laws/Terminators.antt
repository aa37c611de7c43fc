-- Where a terminator's kind, opcode, values and targets stand.
use Rattle.std.specs.Prelude.{◌≡◌, refl, Bool, true, false, List, ℕ, zero, suc, ◌+◌, ◌≤◌, ◌<◌, length, get_or, eqb}
use Rattle.std.proofs.Math.Path.{sym, ap}
use Rattle.std.proofs.Common.{◌∙◌, ⊎_elim, arith}
use Rattle.std.proofs.lemmas.List.{length-map}
use Rattle.meaning.specs.Graph.{Graph, Value, Edge, ControlInst, region, edges_of, no_edge}
use Rattle.format.specs.Read.{got, word, read_value, fewest_values, most_values, fewest_targets, most_targets, opcode_for, edges_passed}
use Rattle.format.specs.Read.{control_inst, terminator_exit, terminator_number}
use Rattle.format.specs.References.{values_of}
use Rattle.format.specs.Places.{start_of_region, limit_of_region, exits_of_region}
use Rattle.format.specs.laws.Readers.{got_value, got_place}
use Rattle.store.specs.Layout.{beyond, record_end, limit_word}
use Rattle.record.specs.laws.Parts.{word_parts, counted_parts, CountedParts}
use Rattle.record.specs.laws.PartsWithin.{TerminatorParts, terminator_parts}
use Rattle.record.specs.Stands.{words_of_record, Stands}
use Rattle.fields.specs.declared.shape.Terminator.{Terminator}
use Rattle.fields.specs.Shape.{kind_is, opcode_is, terminator_is}
use Rattle.fields.specs.ItemsAndPlaces.{placed, value_at, behind_values, indexed, values_place, targets_place}
use Rattle.fields.specs.laws.Lists.{ListAt, ReadAt, front, word_fixed, value_fixed, counted_at, no_list, placed_small}
use Rattle.fields.specs.laws.Lists.{behind_values_is}
use Rattle.fields.specs.laws.Regions.{Known, Beyond, small, beyond_words, no_word, beyond_values, region_case}
use Rattle.meaning.specs.Lists.{pick}
use Rattle.meaning.specs.facts.Elements.{no_element, one_element}

-- A terminator has the values and the edges that it was made from, in the numbers that its kind allows.
pub control_values : (k op : ℕ) (vs : List Value) (es : List Edge) → k ≤ terminator_number → fewest_values k ≤ length vs
    → length vs ≤ most_values k
    → values_of (control_inst k op vs es) ≡ vs
control_values zero op vs es b l h = no_element vs h
control_values (suc zero) op vs es b l h = refl
control_values (suc (suc zero)) op vs es b l h = refl
control_values (suc (suc (suc zero))) op vs es b l h = no_element vs h
control_values (suc (suc (suc (suc zero)))) op vs es b l h = one_element _ vs l h
control_values (suc (suc (suc (suc (suc zero))))) op vs es b l h = one_element _ vs l h
control_values (suc (suc (suc (suc (suc (suc k)))))) op vs es b l h = absurd (omega arith)

pub control_edges : (k op : ℕ) (vs : List Value) (es : List Edge) → k ≤ terminator_number → fewest_targets k ≤ length es
    → length es ≤ most_targets k
    → edges_of (control_inst k op vs es) ≡ es
control_edges zero op vs es b l h = no_element es h
control_edges (suc zero) op vs es b l h = no_element es h
control_edges (suc (suc zero)) op vs es b l h = no_element es h
control_edges (suc (suc (suc zero))) op vs es b l h = one_element no_edge es l h
control_edges (suc (suc (suc (suc zero)))) op vs es b l h = refl
control_edges (suc (suc (suc (suc (suc zero))))) op vs es b l h = refl
control_edges (suc (suc (suc (suc (suc (suc k)))))) op vs es b l h = absurd (omega arith)

-- The opcode word stands for ExitInvocation only.
pub record OpcodeParts (w : List ℕ) (k at op e : ℕ) : Type 0 where
  pub is : op ≡ pick (eqb k terminator_exit) (get_or w at 0) 0
  pub end : e ≡ pick (eqb k terminator_exit) (at + 1) at

pub opcode_parts : (w : List ℕ) (k at : ℕ) {op e : ℕ} → opcode_for k (words_of_record w) at ≡ got op e → OpcodeParts w k at op e
unfolding opcode_for
opcode_parts w k at {op} {e} h = by_test (eqb k terminator_exit) refl h
  where
    by_test : (t : Bool) → eqb k terminator_exit ≡ t → elim t [ true ↦ word (words_of_record w) at | false ↦ got 0 at ] ≡ got op e
        → OpcodeParts w k at op e
    by_test true q p =
        let a = word_parts (words_of_record w) at p in record { is = rw q (a.is ∙ front w at a.inside); end = rw q a.end }
    by_test false q p = record { is = rw q (sym (got_value p)); end = rw q (sym (got_place p)) }

-- A terminator's parts, and where the words lead to them.
pub record KnownTerminator (w : List ℕ) (r : ℕ) (x : ControlInst) (at e : ℕ) : Type 0 where
  pub parts : TerminatorParts (words_of_record w) at x e
  pub kind_word : get_or w (indexed w r limit_word + 1) 0 ≡ parts.k
  pub opcode_word : pick (eqb parts.k 2) (get_or w (indexed w r limit_word + 2) 0) 0 ≡ parts.op
  pub values_place_is : values_place w r ≡ parts.values_at
  pub targets_place_is : targets_place w r ≡ parts.targets_at
  pub values_is : values_of x ≡ parts.vs
  pub edges_is : edges_of x ≡ edges_passed parts.ts parts.passes

pub edges_length : (ts : List ℕ) (passes : List (List Value)) → length (edges_passed ts passes) ≡ length ts
unfolding edges_passed
edges_length ts passes = length-map ts _

module _ {w : List ℕ} {g : Graph} (s : Stands w g) where
  -- the list at a place that the words lead to
  pub known_terminator : (r at e : ℕ) {x : ControlInst} → indexed w r limit_word + 1 ≡ at → TerminatorParts (words_of_record w) at x e
      → KnownTerminator w r x at e
  unfolding values_place targets_place
  known_terminator r at e {x} here t =
      record {
        parts = t;
        kind_word = kind;
        opcode_word = ap (λ p. pick (eqb t.k 2) (get_or w p 0) 0) opcode_at ∙ sym o.is;
        values_place_is = values_at;
        targets_place_is = ap (behind_values w) values_at ∙ behind_values_is va (omega (arith, small s ta.inside));
        values_is =
            ap values_of t.is ∙ control_values t.k t.op t.vs (edges_passed t.ts t.passes) t.kind.high_bound
            vp.low_bound vp.high_bound;
        edges_is =
            ap edges_of t.is ∙ control_edges t.k t.op t.vs (edges_passed t.ts t.passes) t.kind.high_bound
            (omega (arith, tp.low_bound, size)) (omega (arith, tp.high_bound, size));
      }
    where
      va : ReadAt w (words_of_record w) 3 (value_at w) t.values_at t.vs t.targets_at
      va = counted_at w read_value 3 _ (value_fixed w) _ _ t.values_at t.values

      ta : ReadAt w (words_of_record w) 1 (λ at. get_or w at 0) t.targets_at t.ts t.passes_at
      ta = counted_at w word 1 _ (word_fixed w) _ _ t.targets_at t.targets

      vp : CountedParts (fewest_values t.k) (most_values t.k) read_value (words_of_record w) t.values_at t.vs t.targets_at
      vp = counted_parts _ _ read_value (words_of_record w) t.values_at t.values

      tp : CountedParts (fewest_targets t.k) (most_targets t.k) word (words_of_record w) t.targets_at t.ts t.passes_at
      tp = counted_parts _ _ word (words_of_record w) t.targets_at t.targets

      size : length (edges_passed t.ts t.passes) ≡ length t.ts
      size = edges_length t.ts t.passes

      o : OpcodeParts w t.k (at + 1) t.op t.values_at
      o = opcode_parts w t.k (at + 1) t.opcode

      opcode_at : indexed w r limit_word + 2 ≡ at + 1
      opcode_at = omega arith

      kind : get_or w (indexed w r limit_word + 1) 0 ≡ t.k
      kind = ap (λ p. get_or w p 0) here ∙ sym (front w at t.kind.inside) ∙ sym t.kind.is

      by_kind : (b : Bool) (e : ℕ) → e ≡ pick b (at + 1 + 1) (at + 1) → e < record_end
          → pick b (placed (indexed w r limit_word + 3)) (placed (indexed w r limit_word + 2)) ≡ e
      by_kind true e q l = let same : indexed w r limit_word + 3 ≡ e = omega arith in ap placed same ∙ placed_small e (omega arith)
      by_kind false e q l = let same : indexed w r limit_word + 2 ≡ e = omega arith in ap placed same ∙ placed_small e (omega arith)

      values_at : values_place w r ≡ t.values_at
      values_at =
          ap (λ k. pick (eqb k terminator_exit) (placed (indexed w r limit_word + 3)) (placed (indexed w r limit_word + 2))) kind
          ∙ by_kind (eqb t.k 2) t.values_at o.end (small s va.inside)

  module _ (r : ℕ) where
    pub known_end : Known w g r → KnownTerminator w r (region g r).terminator
        (limit_of_region (words_of_record w) (start_of_region (words_of_record w) r) + 1)
        (exits_of_region (words_of_record w) (start_of_region (words_of_record w) r))
    known_end k = known_terminator r _ _ (ap (λ p. p + 1) k.limit) (terminator_parts (words_of_record w) _ k.parts.terminator)

    -- The places of a region that is not there.
    pub no_values : Beyond w g r → values_place w r ≡ beyond
    unfolding values_place placed
    no_values k = rw (k.index limit_word, no_word s {p = 65536} (omega arith))

    pub no_targets : Beyond w g r → targets_place w r ≡ beyond
    unfolding targets_place
    no_targets k = ap (behind_values w) (no_values k) ∙ beyond_values s

    pub kind_bound : get_or w (indexed w r limit_word + 1) 0 ≤ terminator_number
    kind_bound =
        ⊎_elim
        (λ k. let t = known_end k in omega (arith, t.kind_word, t.parts.kind.high_bound))
        (λ k. let none : get_or w (indexed w r limit_word + 1) 0 ≡ 0 = ap (λ p. get_or w (p + 1) 0) (k.index limit_word)
        ∙ no_word s (omega arith) in omega arith)
        (region_case s r)

    pub values_at : ListAt w 3 (value_at w) (values_place w r) (values_of (region g r).terminator)
    values_at = ⊎_elim here there (region_case s r)
      where
        here : Known w g r → ListAt w 3 (value_at w) (values_place w r) (values_of (region g r).terminator)
        here k =
            let t = known_end k in
            rw (t.values_place_is, t.values_is) (counted_at w read_value 3 _ (value_fixed w) _ _ t.parts.values_at
            t.parts.values).list

        there : Beyond w g r → ListAt w 3 (value_at w) (values_place w r) (values_of (region g r).terminator)
        there k = rw (no_values k, k.none) (no_list w 3 _ beyond (beyond_words s (omega arith)))

    -- The answer for a kind and an opcode word gives the terminator again.
    pub terminator_from_words : (t : Terminator) → get_or w (indexed w r limit_word + 1) 0 ≡ kind_is t
        → pick (eqb (kind_is t) 2) (get_or w (indexed w r limit_word + 2) 0) 0 ≡ opcode_is t
        → terminator_is t (region g r).terminator ≡ (region g r).terminator
    terminator_from_words t kind op = ⊎_elim here there (region_case s r)
      where
        here : Known w g r → terminator_is t (region g r).terminator ≡ (region g r).terminator
        here k =
            let e = known_end k in
            let same : kind_is t ≡ e.parts.k = sym kind ∙ e.kind_word in
            let code : opcode_is t ≡ e.parts.op = sym op ∙ ap (λ n. pick (eqb n 2) (get_or w (indexed w r limit_word + 2) 0) 0) same
            ∙ e.opcode_word in
            ap (λ n. control_inst n (opcode_is t) (values_of (region g r).terminator) (edges_of (region g r).terminator)) same
            ∙ ap (λ n. control_inst e.parts.k n (values_of (region g r).terminator) (edges_of (region g r).terminator)) code
            ∙ ap (λ vs. control_inst e.parts.k e.parts.op vs (edges_of (region g r).terminator)) e.values_is
            ∙ ap (control_inst e.parts.k e.parts.op e.parts.vs) e.edges_is
            ∙ sym e.parts.is

        there : Beyond w g r → terminator_is t (region g r).terminator ≡ (region g r).terminator
        there k =
            let none : kind_is t ≡ 0 = sym kind ∙ ap (λ p. get_or w (p + 1) 0) (k.index limit_word) ∙ no_word s (omega arith) in
            ap (λ n. control_inst n (opcode_is t) (values_of (region g r).terminator) (edges_of (region g r).terminator)) none
            ∙ ap (λ x. x.terminator) (sym k.none)

    -- The same by the place and the kind that the code has.
    pub kind_by : {p kind : ℕ} → p ≡ indexed w r limit_word → kind ≡ get_or w (p + 1) 0 → kind ≤ terminator_number
    kind_by here is = rw (is, here) kind_bound

    pub terminator_by : {p kind : ℕ} → p ≡ indexed w r limit_word → kind ≡ get_or w (p + 1) 0 → (t : Terminator) → kind ≡ kind_is t
        → pick (eqb (kind_is t) 2) (get_or w (p + 2) 0) 0 ≡ opcode_is t → terminator_is t (region g r).terminator ≡ (region g r).terminator
    terminator_by here is t kind op =
        terminator_from_words t (ap (λ p. get_or w (p + 1) 0) (sym here) ∙ sym is ∙ kind)
        (ap (λ p. pick (eqb (kind_is t) 2) (get_or w (p + 2) 0) 0) (sym here) ∙ op)
