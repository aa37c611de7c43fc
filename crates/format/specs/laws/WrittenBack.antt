-- What is written are bytes that read back as the words that went in, and an accepted store, read and written, comes out with the same
-- bytes (document 02, request 13).
use Rattle.std.specs.Prelude.{◌≡◌, true, List, [], ◌∷◌, get_or, take, drop}
use Rattle.std.proofs.Math.Path.{refl, ap}
use Rattle.std.proofs.Common.{sym, ◌∙◌, subst, arith, length-drop, get_or-drop, ext_get_or, take-take, length-take-le}
use Prim.Native.Nat.{ℕ, zero, suc, ◌+◌, ◌*◌, ◌/◌, ◌%◌, ◌-◌, ◌≤◌, ◌<◌}
use Rattle.std.proofs.Math.Decide.{dec_lt}
use Rattle.std.proofs.Math.ListN.{length, get_or-eq_default}
use borrow.Author.Tests.{eq-eqb, eqb-true}
use Rattle.meaning.specs.Lists.{tabulate, All}
use Rattle.meaning.specs.facts.Elements.{length_tabulate, tabulate_at, all_get_d, all_take, all_append}
use Rattle.format.specs.Store.{accepted, if_accepted, pair, weighted, number_right, check_right, blocks_checked, word_at}
use Rattle.format.specs.Store.{all_zero, blocks_for, count_right, store_words, check_from, block_of_words, blocks_of_words, store_of}
use Rattle.format.specs.Store.{two_bytes, payload}
use Rattle.format.specs.Read.{read_record}
use Rattle.format.specs.Accept.{with_references, accept}
use Rattle.format.specs.laws.Stores.{blocks_in, stored, count_rest, length_right_true, zero_each, block_right, StoreTested, tested}
use Rattle.format.specs.laws.Stores.{words_small, weight_bound}
use Rattle.format.specs.laws.Written.{pair_drop, pair_take, weighted_walk, block_word, block_check_word, take_front, block_at}
use Rattle.format.specs.laws.Written.{length_blocks, front_of_block, blocks_are, block_is, length_payload, check_words, block_parts}

-- The words of a record as a store has them.
pub record RecordWords (ws : List ℕ) : Type 0 where
  pub some : 0 < length ws
  pub few : length ws ≤ 4048
  pub first : get_or ws 0 0 ≡ length ws
  pub small : All (λ w. w < 65536) ws

all_drop : (P : ℕ → Type 0) (n : ℕ) (xs : List ℕ) → All P xs → All P (drop n xs)
all_drop P zero xs h = h
all_drop P (suc n) [] h = tt
all_drop P (suc n) (x ∷ xs) h = all_drop P n xs h.1

-- ---- what is written, read
module _ (n : ℕ) (ws : List ℕ) where
  abbrev blocks : List ℕ
  blocks = blocks_of_words 0 n ws

  -- Block b, and two of its bytes.
  block_here : (b : ℕ) → b < n → take 512 (drop (512 * b) blocks) ≡ block_of_words b (drop (253 * b) ws)
  block_here b l =
      let z : 0 + b ≡ b = omega arith in
      block_at 0 n b ws l ∙ ap (λ k. block_of_words k (drop (253 * b) ws)) z

  pair_here : (b at : ℕ) → b < n → at + 1 < 512 → pair blocks (512 * b + at) ≡ pair (block_of_words b (drop (253 * b) ws)) at
  pair_here b at l h =
      sym (pair_take 512 (drop (512 * b) blocks) at h ∙ pair_drop (512 * b) blocks at) ∙ ap (λ t. pair t at) (block_here b l)

  number_written : (b : ℕ) → b < n → number_right blocks b ≡ true
  number_written b l =
      let z : 512 * b ≡ 512 * b + 0 = omega arith in
      eq-eqb _ b (ap (pair blocks) z ∙ pair_here b 0 l (omega arith) ∙ block_word b (drop (253 * b) ws) 0 (omega arith))

  check_written : (b : ℕ) → b < n → check_right blocks b ≡ true
  check_written b l =
      let us = drop (253 * b) ws in
      let c = check_from 0 (front_of_block b us) in
      let low : pair blocks (512 * b + 508) ≡ c % 65536 = pair_here b 508 l (omega arith) ∙ block_check_word b us 0 (omega arith) in
      let high : pair blocks (512 * b + 510) ≡ c / 65536 = pair_here b 510 l (omega arith) ∙ block_check_word b us 1 (omega arith) in
      let sum : weighted blocks (512 * b) 508 ≡ c =
      weighted_walk blocks (512 * b) 508 (omega (arith, length_blocks 0 n ws))
      ∙ ap (check_from 0) (sym (take-take 508 512 (drop (512 * b) blocks) (omega arith)))
      ∙ ap (λ t. check_from 0 (take 508 t)) (block_here b l)
      ∙ ap (check_from 0) (take_front b us) in
      let same : pair blocks (512 * b + 508) + 65536 * pair blocks (512 * b + 510) ≡ weighted blocks (512 * b) 508 = omega arith in
      eq-eqb _ _ same

  blocks_written : (m : ℕ) → m ≤ n → blocks_checked blocks m ≡ accepted tt
  unfolding blocks_checked
  blocks_written zero l = refl
  blocks_written (suc m) l =
      rw (blocks_written m (omega arith), number_written m (omega arith), check_written m (omega arith))

  word_written : (j : ℕ) → j < 253 * n → word_at blocks j ≡ get_or ws j 0
  word_written j l =
      let b = j / 253 in
      let r = j % 253 in
      let e : 512 * b + 2 + 2 * r ≡ 512 * b + 2 * suc r = omega arith in
      let k : 253 * b + r ≡ j = omega arith in
      ap (pair blocks) e
      ∙ pair_here b (2 * suc r) (omega arith) (omega arith)
      ∙ block_word b (drop (253 * b) ws) (suc r) (omega arith)
      ∙ get_or-drop (253 * b) ws r 0
      ∙ ap (λ i. get_or ws i 0) k

  zeros_written : (k : ℕ) → length ws + k ≤ 253 * n → all_zero blocks (length ws) k ≡ true
  unfolding all_zero
  zeros_written zero l = refl
  zeros_written (suc k) l =
      let z : word_at blocks (length ws + k) ≡ 0 =
      word_written (length ws + k) (omega arith) ∙ get_or-eq_default ws 0 {n = length ws + k} (omega arith) in
      rw (zeros_written k (omega arith), eq-eqb _ 0 z)

  words_written : length ws ≤ 253 * n → tabulate (length ws) (word_at blocks) ≡ ws
  words_written l =
      ext_get_or 0 (tabulate (length ws) (word_at blocks)) ws (length_tabulate (length ws) (word_at blocks))
      λ i h.
      let k : i < length ws = omega (arith, length_tabulate (length ws) (word_at blocks)) in
      tabulate_at (length ws) (word_at blocks) i k ∙ word_written i (omega arith)

pub reads_back : (ws : List ℕ) → RecordWords ws → store_words (store_of ws) ≡ accepted ws
unfolding store_of
reads_back ws h =
    let n = blocks_for (length ws) in
    let s = blocks n ws in
    let long : length s ≡ 512 * n = length_blocks 0 n ws in
    let have : blocks_in s ≡ n = omega arith in
    let first : word_at s 0 ≡ length ws = word_written n ws 0 (omega (arith, h.some)) ∙ h.first in
    stored s true true (accepted tt)
    (length_right_true (length s) (λ z. omega (arith, h.some)) (omega (arith, h.few)) (omega arith))
    (ap (blocks_checked s) have ∙ blocks_written n ws n (omega arith))
    (ap (λ m. count_right s m (word_at s 0)) have
    ∙ ap (count_right s n) first
    ∙ sym (count_rest s n (length ws) (λ z. omega (arith, h.some)) refl)
    ∙ zeros_written n ws (253 * n - length ws) (omega arith))
    ∙ ap (λ w. accepted (tabulate w (word_at s))) first
    ∙ ap accepted (words_written n ws (omega arith))

pub accept_back : (ws : List ℕ) → RecordWords ws → accept (store_of ws) ≡ with_references (read_record ws)
unfolding accept
accept_back ws h = ap (λ a. if_accepted a λ us. with_references (read_record us)) (reads_back ws h)

-- ---- what is written are bytes
abbrev Bytes : List ℕ → Type 0
Bytes bs = All (λ b. b < 256) bs

abbrev Words : List ℕ → Type 0
Words ws = All (λ w. w < 65536) ws

two_bytes_small : (w : ℕ) → w < 65536 → Bytes (two_bytes w)
two_bytes_small w h = (omega arith, (omega arith, tt))

payload_small : (n : ℕ) (ws : List ℕ) → Words ws → Bytes (payload n ws)
unfolding payload
payload_small zero ws h = tt
payload_small (suc n) [] h = (omega arith, (omega arith, payload_small n [] tt))
payload_small (suc n) (w ∷ ws) h =
    all_append (λ b. b < 256) (two_bytes w) (payload n ws) (two_bytes_small w h.0) (payload_small n ws h.1)

check_small : (at : ℕ) (bs : List ℕ) → Bytes bs → at + length bs ≤ 508 → check_from at bs ≤ 129540 * length bs
unfolding check_from
check_small at [] h l = omega arith
check_small at (b ∷ bs) h l =
    omega (arith, weight_bound b at h.0 (omega arith), check_small (suc at) bs h.1 (omega arith))

block_small : (b : ℕ) (ws : List ℕ) → b < 65536 → Words ws → Bytes (block_of_words b ws)
block_small b ws l h =
    let front = payload_small 254 (b ∷ ws) (l, h) in
    let long = length_payload 254 (b ∷ ws) in
    let c = check_from 0 (front_of_block b ws) in
    let sum = check_small 0 (front_of_block b ws) front (omega arith) in
    let back = payload_small 2 (check_words c) (omega arith, (omega arith, tt)) in
    rw (block_parts b ws) (all_append (λ x. x < 256) (front_of_block b ws) (payload 2 (check_words c)) front back)

blocks_small : (a n : ℕ) (ws : List ℕ) → a + n ≤ 65536 → Words ws → Bytes (blocks_of_words a n ws)
unfolding blocks_of_words
blocks_small a zero ws l h = tt
blocks_small a (suc n) ws l h =
    all_append (λ b. b < 256) (block_of_words a ws) (blocks_of_words (suc a) n (drop 253 ws)) (block_small a ws (omega arith) h)
    (blocks_small (suc a) n (drop 253 ws) (omega arith) (all_drop (λ w. w < 65536) 253 ws h))

pub bytes_written : (ws : List ℕ) → RecordWords ws → All (λ b. b < 256) (store_of ws)
unfolding store_of
bytes_written ws h = blocks_small 0 (blocks_for (length ws)) ws (omega (arith, h.few)) h.small

-- ---- what was read, written
module _ (s ws : List ℕ) (bytes : All (λ b. b < 256) s) (t : StoreTested s ws) where
  number_of_words : length ws ≡ word_at s 0
  number_of_words = ap length (sym t.words) ∙ length_tabulate (word_at s 0) (word_at s)

  needed : blocks_for (length ws) ≡ blocks_in s
  needed = ap blocks_for number_of_words ∙ sym t.needed

  word_read : (j : ℕ) → j < 253 * blocks_in s → word_at s j ≡ get_or ws j 0
  word_read j l = by_place (dec_lt j (length ws))
    where
      by_place : Dec (j < length ws) → word_at s j ≡ get_or ws j 0
      by_place (yes k) =
          sym (tabulate_at (word_at s 0) (word_at s) j (omega (arith, number_of_words))) ∙ ap (λ l. get_or l j 0) t.words
      by_place (no g) =
          let e : word_at s 0 + (j - word_at s 0) ≡ j = omega (arith, number_of_words) in
          ap (word_at s) (sym e)
          ∙ zero_each s (word_at s 0) (253 * blocks_in s - word_at s 0) (j - word_at s 0) t.zeros (omega (arith, number_of_words))
          ∙ sym (get_or-eq_default ws 0 {n = j} (omega arith))

  block_read : (b : ℕ) → b < blocks_in s → block_of_words b (drop (253 * b) ws) ≡ take 512 (drop (512 * b) s)
  block_read b l = block_is b (drop (253 * b) ws) u (all_get_d (λ x. x < 256) 0 (omega arith) u small) long words check
    where
      u : List ℕ
      u = take 512 (drop (512 * b) s)

      right : (number_right s b ≡ true) × (check_right s b ≡ true)
      right = block_right s (blocks_in s) b t.blocks l

      place : (at : ℕ) → at + 1 < 512 → pair u at ≡ pair s (512 * b + at)
      place at h = pair_take 512 (drop (512 * b) s) at h ∙ pair_drop (512 * b) s at

      small : All (λ x. x < 256) u
      small =
          all_take (λ x. x < 256) 512 (drop (512 * b) s)
          (all_drop (λ x. x < 256) (512 * b) s bytes)

      long : length u ≡ 512
      long = length-take-le 512 (drop (512 * b) s) (omega (arith, length-drop (512 * b) s))

      words : (r : ℕ) → r < 254 → pair u (2 * r) ≡ get_or (b ∷ drop (253 * b) ws) r 0
      words zero h =
          let e : 512 * b + 0 ≡ 512 * b = omega arith in
          place 0 (omega arith) ∙ ap (pair s) e ∙ eqb-true _ b right.0
      words (suc r) h =
          let q : (253 * b + r) / 253 ≡ b = omega arith in
          let m : (253 * b + r) % 253 ≡ r = omega arith in
          let e : 512 * b + 2 * suc r ≡ 512 * ((253 * b + r) / 253) + 2 + 2 * ((253 * b + r) % 253) = omega arith in
          place (2 * suc r) (omega arith) ∙ ap (pair s) e ∙ word_read (253 * b + r) (omega arith) ∙ sym (get_or-drop (253 * b) ws r 0)

      check : pair u 508 + 65536 * pair u 510 ≡ check_from 0 (take 508 u)
      check =
          let stated : pair s (512 * b + 508) + 65536 * pair s (512 * b + 510) ≡ weighted s (512 * b) 508 = eqb-true _ _ right.1 in
          let low = place 508 (omega arith) in
          let high = place 510 (omega arith) in
          let sum : weighted s (512 * b) 508 ≡ check_from 0 (take 508 u) =
          weighted_walk s (512 * b) 508 (omega arith)
          ∙ ap (check_from 0) (sym (take-take 508 512 (drop (512 * b) s) (omega arith))) in
          omega arith

  written_as_read : store_of ws ≡ s
  unfolding store_of
  written_as_read = ap (λ n. blocks_of_words 0 n ws) needed ∙ blocks_are (blocks_in s) ws s t.whole block_read

pub same_bytes : (s ws : List ℕ) → All (λ b. b < 256) s → store_words s ≡ accepted ws → store_of ws ≡ s
same_bytes s ws bytes e = written_as_read s ws bytes (tested s ws e)

-- The words of an accepted store are a record's.
pub words_read : (s ws : List ℕ) → All (λ b. b < 256) s → store_words s ≡ accepted ws → RecordWords ws
words_read s ws bytes e =
    let t = tested s ws e in
    let n = number_of_words s ws bytes t in
    record {
      some = omega (arith, t.some);
      few = omega (arith, t.needed, t.short);
      first = sym (word_read s ws bytes t 0 (omega (arith, t.needed, t.some))) ∙ sym n;
      small = subst (All (λ w. w < 65536)) t.words (words_small s (all_get_d (λ b. b < 256) 0 (omega arith) s bytes) (word_at s 0));
    }
