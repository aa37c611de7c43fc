-- What is printed of a store: the definition's text, for every store of bytes and every number of lent words; and what nesting leaves.
use Rattle.std.specs.Prelude.{◌≡◌, List, ℕ, ◌*◌, ◌≤◌, length, Result}
use Rattle.nesting.specs.Sheet.{answer, answer_text}
use Rattle.text.specs.Whole.{Written, full, Whole}
use Rattle.sheet.specs.Written.{lent}
use Rattle.store.specs.declared.refusals.Refusal.{Refusal}
use Rattle.nester.specs.Nests.{Nests}

-- The whole text from the buffer's beginning on, or its front if the buffer is too small. Twenty bytes, and sixteen for each lent word,
-- are room enough. What the state `w` and the lent words `out` then hold is what nesting the store leaves there.
pub record Prints (store w w' out out' text text' : List ℕ) (r : Written) : Type 0 where
  pub whole : Whole (answer_text (answer store (lent out))) text text' r
  pub fits : 16 * lent out ≤ length text → 20 ≤ length text → r ≡ full → ⊥
  pub told : Result ℕ Refusal
  pub nests : Nests store w w' out out' told
