-- The loop of place_among, turn by turn: how many of the outputs so far are the node's.
use Rattle.std.specs.Prelude.{◌≡◌, List, ℕ, ◌+◌}
use Rattle.std.proofs.Common.{◌∙◌, arith, add-one}
use borrow.Author.Tests.{eq-eqb, ne_eqb}
use Rattle.sheet_words.specs.Outputs.{node_times}
use Rattle.state_words.specs.Rows.{output_node}

-- ---- The loop that counts, turn by turn.
module _ (w : List ℕ) (node i : ℕ) {sum x : ℕ} (before : sum ≡ node_times w node i) (is : x ≡ output_node w i) where
  pub one_more : {n : ℕ} → x ≡ node → n ≡ sum + 1 → n ≡ node_times w node (i + 1)
  unfolding node_times
  one_more e d = d ∙ rw (add-one i, before, ← is, eq-eqb x node e)

  pub no_more : {n : ℕ} → (x ≡ node → ⊥) → n ≡ sum → n ≡ node_times w node (i + 1)
  unfolding node_times
  no_more e d = d ∙ rw (add-one i, ← is, ne_eqb x node e) (omega arith)
