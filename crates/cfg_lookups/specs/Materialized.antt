-- A lazy condition made real, as the words alone have it.
use Rattle.std.specs.Prelude.{◌≡◌, Bool, true, false, List, ℕ, ◌+◌, ◌≤◌, ◌<◌, get_or, set, replicate, eqb}
use Rattle.std.specs.Prelude.{Ok}
use Rattle.state_words.specs.Totals.{Defined, Full}
use Rattle.state_words.specs.Values.{output_word, undef_word, true_word, false_word}
use Rattle.state_nodes.specs.NodeTables.{earlier_part, shape_size, OutputDefined}
use Rattle.meaning.specs.Lists.{pick}
use Rattle.state_words.specs.Values.{undef_from}
use Rattle.state_words.specs.Rows.{merge_node, merge_part, merge_scrutinee, merge_shape, bool_shape, condition_true, condition_false}
use Rattle.state_words.specs.Rows.{merges_from}

unfoldable pub is_scrutinee : ℕ → List ℕ → Bool
is_scrutinee shape vs = pick (eqb shape bool_shape) (pick (eqb (get_or vs 0 0) true_word) (eqb (get_or vs 1 0) false_word) false) false

abbrev pub shape_at : List ℕ → ℕ → ℕ
shape_at l c = merge_shape l c

abbrev pub part_at : List ℕ → ℕ → ℕ → ℕ
part_at l c j = earlier_part (merge_part l c j) c

-- The parts' values put together: the scrutinee of record c, or a new output of its select.
pub data Merges (l : List ℕ) (c : ℕ) (vs l' : List ℕ) : Defined → Type 0 where
  the_scrutinee : {x : ℕ} → is_scrutinee (shape_at l c) vs ≡ true → x ≡ merge_scrutinee l c → l' ≡ l
      → Merges l c vs l' (Ok x)
  new_output : {o x : ℕ} → is_scrutinee (shape_at l c) vs ≡ false → OutputDefined (merge_node l c) 1 vs l l' (Ok o)
      → x ≡ output_word o → Merges l c vs l' (Ok x)
  no_output : is_scrutinee (shape_at l c) vs ≡ false → OutputDefined (merge_node l c) 1 vs l l' Full → Merges l c vs l' Full

mutual
  -- From words l condition c is made real; l' are the words then.
  pub data Materializes : List ℕ → ℕ → List ℕ → Defined → Type 0 where
    made_true : {l l' : List ℕ} {c : ℕ} → c ≡ condition_true → l' ≡ l → Materializes l c l' (Ok true_word)
    made_false : {l l' : List ℕ} {c : ℕ} → c ≡ condition_false → l' ≡ l → Materializes l c l' (Ok false_word)
    made_undef : {l l' : List ℕ} {c x : ℕ} → (c ≡ condition_true → ⊥) → (c ≡ condition_false → ⊥) → c < merges_from → x ≡ undef_word 1
        → l' ≡ l → Materializes l c l' (Ok x)
    made_merge : {l l₁ l' vs : List ℕ} {c : ℕ} {a : Defined} → merges_from ≤ c → PartsMade l c (shape_size (shape_at l c)) l₁ vs
        → Merges l₁ c vs l' a → Materializes l c l' a
    full_part : {l l₁ l' vs : List ℕ} {c j p : ℕ} → merges_from ≤ c → j < shape_size (shape_at l c) → PartsMade l c j l₁ vs
        → p ≡ part_at l₁ c j
        → Materializes l₁ p l' Full
        → Materializes l c l' Full

  -- The first j parts of record c are made: the words then, and the values in eight words.
  pub data PartsMade : List ℕ → ℕ → ℕ → List ℕ → List ℕ → Type 0 where
    no_part : {l l₁ vs : List ℕ} {c j : ℕ} → j ≡ 0 → l₁ ≡ l → vs ≡ replicate 8 undef_from → PartsMade l c j l₁ vs
    part_more : {l l₁ l₂ vs ws : List ℕ} {c j i p v : ℕ} → PartsMade l c j l₁ vs → j < shape_size (shape_at l c) → p ≡ part_at l₁ c j
        → Materializes l₁ p l₂ (Ok v)
        → i ≡ j + 1 → ws ≡ set vs j v → PartsMade l c i l₂ ws
