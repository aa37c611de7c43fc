-- For the proofs of materialize.rt: the parts of a condition made into values one by one, then merged; a part's number is less than its
-- merge's, so that the recursion ends.
use Rattle.std.specs.Prelude.{◌≡◌, refl, Bool, true, false, List, ℕ, ◌+◌, ◌≤◌, ◌<◌, get_or, set, eqb}
use Rattle.std.proofs.Common.{sym, ◌∙◌, arith}
use Rattle.std.proofs.Math.Decide.{dec_lt, ℕ_discrete}
use borrow.Author.Tests.{lt-ltb, le-ltb, eq-eqb, ne_eqb}
use Rattle.std.specs.Prelude.{Ok}
use Rattle.state_words.specs.Totals.{Defined, Full}
use Rattle.state_words.specs.Values.{output_word, true_word, false_word}
use Rattle.state_nodes.specs.NodeTables.{earlier_part, shape_size, OutputDefined}
use Rattle.cfg_lookups.specs.Materialized.{is_scrutinee, shape_at, part_at, Merges, the_scrutinee, new_output, no_output}
use Rattle.cfg_lookups.specs.Materialized.{Materializes}
use Rattle.cfg_lookups.specs.Materialized.{PartsMade, made_merge, full_part, part_more}
use Rattle.state_words.specs.Rows.{merge_node, merge_scrutinee, bool_shape, merges_from}

-- ---- The functions, path by path.
module _ (shape : ℕ) (vs : List ℕ) where
  pub scrutinee_number : (shape ≡ bool_shape → ⊥) → false ≡ is_scrutinee shape vs
  unfolding is_scrutinee
  scrutinee_number d = rw (ne_eqb shape bool_shape d)

  module _ (bool : shape ≡ bool_shape) where
    pub scrutinee_not : (get_or vs 0 0 ≡ true_word → ⊥) → false ≡ is_scrutinee shape vs
    unfolding is_scrutinee
    scrutinee_not d = rw (eq-eqb shape bool_shape bool, ne_eqb (get_or vs 0 0) true_word d)

    pub scrutinee_if : get_or vs 0 0 ≡ true_word → eqb (get_or vs 1 0) false_word ≡ is_scrutinee shape vs
    unfolding is_scrutinee
    scrutinee_if e = rw (eq-eqb shape bool_shape bool, eq-eqb (get_or vs 0 0) true_word e)

module _ (l : List ℕ) (c : ℕ) (vs : List ℕ) (shape : ℕ) (b : Bool) (of_shape : shape ≡ shape_at l c)
    (test : b ≡ is_scrutinee shape vs) where
  answer_is : is_scrutinee (shape_at l c) vs ≡ b
  answer_is = rw (← of_shape) (sym test)

  pub merged_scrutinee : b ≡ true → {x : ℕ} → x ≡ merge_scrutinee l c → Merges l c vs l (Ok x)
  merged_scrutinee e p = the_scrutinee (answer_is ∙ e) p refl

  module _ (other : b ≡ false) {l' : List ℕ} {node : ℕ} {a : Defined} (of_node : node ≡ merge_node l c)
      (made : OutputDefined node 1 vs l l' a) where
    pub merged_full : a ≡ Full → Merges l c vs l' Full
    merged_full e = no_output (answer_is ∙ other) (rw (of_node, e) at made)

    pub merged_output : {o : ℕ} → a ≡ Ok o → {x : ℕ} → x ≡ output_word o → Merges l c vs l' (Ok x)
    merged_output e p = new_output (answer_is ∙ other) (rw (of_node, e) at made) p

-- ---- The parts of a record, in turn.
pub few_parts : (shape : ℕ) → shape_size shape ≤ 8
unfolding shape_size
few_parts shape =
    elim (ℕ_discrete shape bool_shape) [
      | yes e ↦ rw (eq-eqb shape bool_shape e) (omega arith)
      | no d ↦ elim (dec_lt shape 8) [
        | yes h ↦ rw (ne_eqb shape bool_shape d, lt-ltb shape 8 h) (omega arith)
        | no h ↦ rw (ne_eqb shape bool_shape d, le-ltb shape 8 (omega arith)) (omega arith)
      ]
    ]

pub part_below : (p c : ℕ) → merges_from ≤ c → earlier_part p c < c
unfolding earlier_part
part_below p c h = elim (dec_lt p c) [ yes l ↦ rw (lt-ltb p c l) l | no l ↦ rw (le-ltb p c (omega arith)) (omega arith) ]

module _ {l l₁ vs : List ℕ} {c j : ℕ} (n shape : ℕ) (made : PartsMade l c j l₁ vs) (size : n ≡ shape_size shape)
    (of_shape : shape ≡ shape_at l c) where
  size_is : n ≡ shape_size (shape_at l c)
  size_is = size ∙ rw of_shape

  module _ (more : j < n) {p : ℕ} (part : p ≡ part_at l₁ c j) {l₂ : List ℕ} {a : Defined} (next : Materializes l₁ p l₂ a) where
    pub part_turn : {v : ℕ} → a ≡ Ok v → PartsMade l c (j + 1) l₂ (set vs j v)
    part_turn e = part_more made (rw size_is at more) part (rw e at next) refl refl

    pub part_full : merges_from ≤ c → a ≡ Full → Materializes l c l₂ Full
    part_full h e = full_part h (rw size_is at more) made part (rw e at next)

  pub parts_all : merges_from ≤ c → j ≤ n → n ≤ j → {l' : List ℕ} {a : Defined} → Merges l₁ c vs l' a → Materializes l c l' a
  parts_all h b d m = let e : j ≡ shape_size (shape_at l c) = omega (arith, size_is) in made_merge h (rw e at made) m
