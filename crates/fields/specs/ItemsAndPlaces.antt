-- What the leaf functions answer, for any words: items of lists, and the places behind lists.
use Rattle.std.specs.Prelude.{Bool, true, false, ◌&&◌, List, ℕ, zero, suc, ◌+◌, ◌*◌, get_or, eqb}
use Rattle.std.proofs.Math.Dec.{ltb}
use Rattle.meaning.specs.Graph.{Value, no_value}
use Rattle.format.specs.Read.{value_from_words, terminator_exit}
use Rattle.store.specs.Layout.{beyond, start_word, limit_word, blocks_word, index_at}
use Rattle.reading.specs.Readings.{stands}
use Rattle.meaning.specs.Lists.{pick}

-- A place among the words; every other is the place that answers for a list that is not there.
unfoldable pub placed : ℕ → ℕ
placed p = pick (ltb p beyond) p beyond

module _ (w : List ℕ) where
  -- The value of three words.
  unfoldable pub value_at : ℕ → Value
  value_at p = value_from_words (get_or w p 0) (get_or w (p + 1) 0) (get_or w (p + 2) 0)

  -- Item k of the list at p: its count stands there, its items behind it.
  unfoldable pub word_item : ℕ → ℕ → ℕ
  word_item p k = pick (ltb k (get_or w p 0)) (get_or w (p + 1 + k) 0) 0

  unfoldable pub value_item : ℕ → ℕ → Value
  value_item p k = pick (ltb k (get_or w p 0)) (value_at (p + 1 + 3 * k)) no_value

  unfoldable pub behind_words : ℕ → ℕ
  behind_words p = placed (p + 1 + get_or w p 0)

  unfoldable pub behind_values : ℕ → ℕ
  behind_values p = placed (p + 1 + 3 * get_or w p 0)

  -- Whether item q of the list at p stands earlier too; what is beyond the list does not.
  unfoldable pub again : ℕ → ℕ → Bool
  unfolding stands
  again p q = ltb q (get_or w p 0) && stands w (p + 1) (get_or w (p + 1 + q) 0) q

  -- Word i of region r's row in the index.
  unfoldable pub indexed : ℕ → ℕ → ℕ
  indexed r i = pick (ltb r (get_or w 1 0)) (get_or w (index_at r + i) 0) beyond

  unfoldable pub blocks_place : ℕ → ℕ
  blocks_place r = behind_words (indexed r start_word)

  unfoldable pub block_place : ℕ → ℕ → ℕ
  block_place r b = pick (ltb b (get_or w (blocks_place r) 0)) (indexed r (blocks_word + b)) beyond

  -- Behind n instructions.
  unfoldable pub behind_instructions : ℕ → ℕ → ℕ
  behind_instructions zero p = p
  behind_instructions (suc n) p = behind_instructions n (behind_values (placed (p + 3)))

  unfoldable pub instruction_place : ℕ → ℕ → ℕ → ℕ
  instruction_place r b i =
      pick (ltb i (get_or w (block_place r b) 0)) (behind_instructions i (placed (block_place r b + 1))) beyond

  unfoldable pub values_place : ℕ → ℕ
  values_place r =
      let at = indexed r limit_word in pick (eqb (get_or w (at + 1) 0) terminator_exit) (placed (at + 3)) (placed (at + 2))

  unfoldable pub targets_place : ℕ → ℕ
  targets_place r = behind_values (values_place r)

  -- Behind the list of the target at place q, which has one where it stands for the first time.
  unfoldable pub behind_list : ℕ → ℕ → ℕ → ℕ
  behind_list ts q p = pick (again ts q) p (behind_values p)

  -- Where the values passed to t stand, by the targets from place q on, n of them; p is behind the lists of those before.
  unfoldable pub list_for : ℕ → ℕ → ℕ → ℕ → ℕ → ℕ
  list_for ts t zero q p = p
  list_for ts t (suc n) q p =
      elim (eqb t (word_item ts q)) [
        | true ↦ p
        | false ↦ list_for ts t n (suc q) (behind_list ts q p)
      ]

  unfoldable pub passed_place : ℕ → ℕ → ℕ
  passed_place r j =
      let ts = targets_place r in
      pick (ltb j (get_or w ts 0)) (list_for ts (word_item ts j) (get_or w ts 0) 0 (behind_words ts)) beyond
