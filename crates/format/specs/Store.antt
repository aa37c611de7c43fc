-- A store of bytes and the words that it holds (document 01, "store and record"): refusals 1, 2, 3, and 4 for W; and the store that is
-- written of words (document 02, request 13).
use Rattle.std.specs.Prelude.{Bool, true, false, ◌&&◌, List, [], ◌∷◌, ◌++◌, ℕ, zero, suc, ◌+◌, ◌-◌, ◌*◌, ◌/◌, ◌%◌, length, get_or, drop, eqb, leb, ltb}
use Rattle.meaning.specs.Lists.{tabulate}
use Rattle.format.specs.Refusals.{wrong_length, wrong_block_number, wrong_check, wrong_word_count, too_few_words}

-- What is taken, or the refusal's number and its word.
pub data Answer (A : Type 0) : Type 0 where
  accepted : A → Answer A
  refused : ℕ → ℕ → Answer A

abbrev pub if_accepted : {A B : Type 0} → Answer A → (A → Answer B) → Answer B
if_accepted (accepted a) k = k a
if_accepted (refused n w) k = refused n w

-- Two bytes from a place on, little-endian.
abbrev pub pair : List ℕ → ℕ → ℕ
pair s at = get_or s at 0 + 256 * get_or s (at + 1) 0

-- The check of a block that begins at a byte: over its first n bytes, the sum of byte times (place + 1).
unfoldable pub weighted : List ℕ → ℕ → ℕ → ℕ
weighted s at zero = 0
weighted s at (suc n) = weighted s at n + get_or s (at + n) 0 * (n + 1)

-- A block's number is in bytes 0 and 1, its check in bytes 508 to 511.
abbrev pub number_right : List ℕ → ℕ → Bool
number_right s b = eqb (pair s (512 * b)) b

abbrev pub check_right : List ℕ → ℕ → Bool
check_right s b = eqb (pair s (512 * b + 508) + 65536 * pair s (512 * b + 510)) (weighted s (512 * b) 508)

-- The first fault among the first n blocks, its number before its check, each with the block.
unfoldable pub blocks_checked : List ℕ → ℕ → Answer Unit
unfolding weighted
blocks_checked s zero = accepted tt
blocks_checked s (suc n) =
    if_accepted (blocks_checked s n) λ _.
    elim (number_right s n) [
      | false ↦ refused wrong_block_number n
      | true ↦ elim (check_right s n) [ false ↦ refused wrong_check n | true ↦ accepted tt ]
    ]

-- Word j of the joined payloads: 253 words to a block, from its byte 2 on.
abbrev pub word_at : List ℕ → ℕ → ℕ
word_at s j = pair s (512 * (j / 253) + 2 + 2 * (j % 253))

-- Whether the n words from word j on are zero.
unfoldable pub all_zero : List ℕ → ℕ → ℕ → Bool
all_zero s j zero = true
all_zero s j (suc n) = all_zero s j n && eqb (word_at s (j + n)) 0

abbrev pub length_right : ℕ → Bool
length_right n = ltb 0 n && (leb n 8192 && eqb (n % 512) 0)

-- As many blocks as w words need.
abbrev pub blocks_for : ℕ → ℕ
blocks_for w = (w + 252) / 253

-- W, which is word 0, against the number of blocks, and the words after W.
abbrev pub count_right : List ℕ → ℕ → ℕ → Bool
count_right s n w = ltb 0 w && (eqb n (blocks_for w) && all_zero s w (253 * n - w))

-- The words of a store: word 0, which is W, to word W - 1.
unfoldable pub store_words : List ℕ → Answer (List ℕ)
unfolding blocks_checked all_zero tabulate
store_words s =
    elim (length_right (length s)) [
      | false ↦ refused wrong_length 0
      | true ↦ if_accepted (blocks_checked s (length s / 512)) λ _.
          elim (count_right s (length s / 512) (word_at s 0)) [
            | false ↦ refused wrong_word_count 0
            | true ↦ accepted (tabulate (word_at s 0) (word_at s))
          ]
    ]

-- ---- writing
-- A word as two bytes, little-endian.
abbrev pub two_bytes : ℕ → List ℕ
two_bytes w = w % 256 ∷ w / 256 ∷ []

-- The bytes of n words, zeros once the words have run out.
unfoldable pub payload : ℕ → List ℕ → List ℕ
payload zero ws = []
payload (suc n) [] = 0 ∷ 0 ∷ payload n []
payload (suc n) (w ∷ ws) = two_bytes w ++ payload n ws

-- The sum of byte times (place + 1), from a place on.
unfoldable pub check_from : ℕ → List ℕ → ℕ
check_from at [] = 0
check_from at (b ∷ bs) = b * suc at + check_from (suc at) bs

-- The check stands behind the bytes that it is taken over.
unfoldable pub checked : List ℕ → List ℕ
unfolding check_from
checked bs = let c = check_from 0 bs in bs ++ two_bytes (c % 65536) ++ two_bytes (c / 65536)

-- Block b, of the first 253 words.
unfoldable pub block_of_words : ℕ → List ℕ → List ℕ
unfolding checked payload
block_of_words b ws = checked (two_bytes b ++ payload 253 ws)

-- n blocks from block b on.
unfoldable pub blocks_of_words : ℕ → ℕ → List ℕ → List ℕ
unfolding block_of_words
blocks_of_words b zero ws = []
blocks_of_words b (suc n) ws = block_of_words b ws ++ blocks_of_words (suc b) n (drop 253 ws)

-- The words of a record, W first, as blocks.
unfoldable pub store_of : List ℕ → List ℕ
unfolding blocks_of_words
store_of ws = blocks_of_words 0 (blocks_for (length ws)) ws

-- A record has 1 to 4,048 words: 16 blocks of 253.
abbrev pub number_of_words_right : ℕ → Bool
number_of_words_right n = ltb 0 n && leb n 4048

-- What is written of a record's words into so many lent bytes: the store; 4, for words that no store has; 10, where the bytes are too few.
unfoldable pub written : List ℕ → ℕ → Answer (List ℕ)
unfolding store_of
written ws lent =
    elim (number_of_words_right (length ws)) [
      | false ↦ refused wrong_word_count 0
      | true ↦ elim (leb (512 * blocks_for (length ws)) lent) [
        | false ↦ refused too_few_words 0
        | true ↦ accepted (store_of ws)
      ]
    ]
