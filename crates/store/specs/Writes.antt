-- What writing the record back answers, and what the lent bytes hold then (document 02, request 13).
use Rattle.std.specs.Prelude.{◌≡◌, List, ◌++◌, ℕ, ◌*◌, length, get_or, take, drop, Result}
use Rattle.std.proofs.lemmas.List.Edits.{sets}
use Rattle.format.specs.Store.{two_bytes, payload, check_from, block_of_words, blocks_of_words, written}
use Rattle.store.specs.Loaded.{answered, words_counted, words_after}
use Rattle.store.specs.declared.refusals.Refusal.{Refusal}

-- The words of the record that stands in front of the lent words: W of them, which is word 0.
abbrev pub words_of : List ℕ → List ℕ
words_of w = take (get_or w 0 0) w

-- The store stands in front of the lent bytes; a refusal leaves these as lent.
pub record WritesStore (w out out' : List ℕ) (a : Result ℕ Refusal) : Type 0 where
  pub answer : answered a ≡ words_counted (written (words_of w) (length out))
  pub bytes : out' ≡ words_after out (written (words_of w) (length out))

-- The first n of a block's words, as bytes from a place on, and the check so far, with the block's number in front.
pub record WordsPut (n number : ℕ) (ws : List ℕ) (at : ℕ) (out out' : List ℕ) (check : ℕ) : Type 0 where
  pub bytes : out' ≡ sets out at (payload n ws)
  pub sum : check ≡ check_from 0 (two_bytes number ++ payload n ws)

-- Block b of words, at its place among the lent bytes.
abbrev pub with_block : ℕ → List ℕ → List ℕ → List ℕ
with_block b ws out = sets out (512 * b) (block_of_words b (drop (253 * b) ws))

-- The first n blocks, in front of the lent bytes.
pub record BlocksPut (n : ℕ) (ws out out' : List ℕ) : Type 0 where
  pub bytes : out' ≡ sets out 0 (blocks_of_words 0 n ws)
