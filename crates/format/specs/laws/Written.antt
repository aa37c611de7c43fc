-- Laws of the bytes that are written of words: one more word, the check in parts, a block by its words, the blocks by their places;
-- the answer by its tests.
use Rattle.std.specs.Prelude.{◌≡◌, refl, Bool, true, false, ◌&&◌, List, [], ◌∷◌, ◌++◌, ℕ, zero, suc, ◌+◌, ◌*◌, ◌/◌, ◌%◌, ◌≤◌, ◌<◌, length, get_or, take, drop, leb, ltb}
use Rattle.std.proofs.Common.{sym, ◌∙◌, append_assoc, append-nil, add-one, arith, add_assoc, not-suc-le-zero, length-append, length-drop, get_or-drop, get_or-take, take-suc, take-add, take_all, take_at, drop_at, drop-cons, drop-drop, ext_get_or, length-take-le, lt-ltb, le-leb, ltb-true, leb-true}
use Rattle.std.proofs.Math.Path.{ap}
use Rattle.std.proofs.Math.Bool.{and-false}
use Rattle.std.proofs.Math.ListN.{get_or-append}
use Rattle.std.proofs.lemmas.Bool.{lt-leb}
use Rattle.meaning.specs.facts.Tests.{clash, and_both}
use Rattle.format.specs.Store.{Answer, accepted, refused, pair, weighted, two_bytes, payload, check_from, checked, block_of_words}
use Rattle.format.specs.Store.{blocks_of_words, blocks_for, store_of, number_of_words_right, written}
use Rattle.format.specs.Refusals.{wrong_word_count, too_few_words}
use Rattle.format.specs.laws.Stores.{AllBytes}

-- ---- two bytes by place
pub pair_drop : (n : ℕ) (s : List ℕ) (at : ℕ) → pair (drop n s) at ≡ pair s (n + at)
pair_drop n s at = rw (get_or-drop n s at 0, get_or-drop n s (at + 1) 0, ← add_assoc n at 1)

pub pair_take : (n : ℕ) (s : List ℕ) (at : ℕ) → at + 1 < n → pair (take n s) at ≡ pair s at
pair_take n s at h = let l : at < n = omega arith in rw (get_or-take n s at 0 l, get_or-take n s (at + 1) 0 h)

pair_front : (xs ys : List ℕ) (at : ℕ) → at + 1 < length xs → pair (xs ++ ys) at ≡ pair xs at
pair_front xs ys at h =
    let l : at < length xs = omega arith in
    rw (get_or-append xs ys 0 at l, get_or-append xs ys 0 (at + 1) h)

pair_back : (xs ys : List ℕ) (n at : ℕ) → length xs ≡ n → pair (xs ++ ys) (n + at) ≡ pair ys at
pair_back xs ys n at e = sym (pair_drop n (xs ++ ys) at) ∙ ap (λ l. pair l at) (drop_at xs ys n e)

-- ---- the bytes of words
pub length_payload : (n : ℕ) (ws : List ℕ) → length (payload n ws) ≡ 2 * n
unfolding payload
length_payload zero ws = refl
length_payload (suc n) [] = omega (arith, length_payload n [])
length_payload (suc n) (w ∷ ws) = omega (arith, length_payload n ws)

pub payload_more : (n : ℕ) (ws : List ℕ) → payload (suc n) ws ≡ payload n ws ++ two_bytes (get_or ws n 0)
unfolding payload
payload_more zero [] = refl
payload_more zero (w ∷ ws) = refl
payload_more (suc n) [] = ap (λ l. 0 ∷ 0 ∷ l) (payload_more n [])
payload_more (suc n) (w ∷ ws) = ap (λ l. two_bytes w ++ l) (payload_more n ws)

pub payload_pair : (n : ℕ) (ws : List ℕ) (r : ℕ) → r < n → pair (payload n ws) (2 * r) ≡ get_or ws r 0
unfolding payload
payload_pair zero ws r h = absurd (not-suc-le-zero h)
payload_pair (suc n) [] zero h = refl
payload_pair (suc n) (w ∷ ws) zero h = omega arith
payload_pair (suc n) [] (suc r) h =
    let e : 2 * suc r ≡ 2 + 2 * r = omega arith in
    ap (pair (0 ∷ 0 ∷ payload n [])) e ∙ pair_back (0 ∷ 0 ∷ []) (payload n []) 2 (2 * r) refl ∙ payload_pair n [] r (omega arith)
payload_pair (suc n) (w ∷ ws) (suc r) h =
    let e : 2 * suc r ≡ 2 + 2 * r = omega arith in
    ap (pair (two_bytes w ++ payload n ws)) e
    ∙ pair_back (two_bytes w) (payload n ws) 2 (2 * r) refl
    ∙ payload_pair n ws r (omega arith)

-- Bytes are those of the words that they make.
two_bytes_of : (t : List ℕ) (at : ℕ) → AllBytes t → at + 1 < length t → two_bytes (pair t at) ≡ take 2 (drop at t)
two_bytes_of t at bytes h =
    let low : pair t at % 256 ≡ get_or t at 0 = omega (arith, bytes at) in
    let high : pair t at / 256 ≡ get_or t (at + 1) 0 = omega (arith, bytes at) in
    rw (low, high, add-one at, drop-cons t at 0 (omega arith), drop-cons t (suc at) 0 (omega arith))

pub payload_of : (n : ℕ) (ws t : List ℕ) → AllBytes t → 2 * n ≤ length t
    → ((r : ℕ) → r < n → pair t (2 * r) ≡ get_or ws r 0) → payload n ws ≡ take (2 * n) t
unfolding payload
payload_of zero ws t bytes long same = refl
payload_of (suc n) ws t bytes long same =
    let next : two_bytes (get_or ws n 0) ≡ take 2 (drop (2 * n) t) =
    ap two_bytes (sym (same n (omega arith))) ∙ two_bytes_of t (2 * n) bytes (omega arith) in
    let e : 2 * n + 2 ≡ 2 * suc n = omega arith in
    payload_more n ws
    ∙ ap (λ l. l ++ two_bytes (get_or ws n 0)) (payload_of n ws t bytes (omega arith) (λ r l. same r (omega arith)))
    ∙ ap (λ l. take (2 * n) t ++ l) next
    ∙ sym (take-add (2 * n) 2 t)
    ∙ ap (λ k. take k t) e

-- ---- the check
pub check_append : (k : ℕ) (xs ys : List ℕ) → check_from k (xs ++ ys) ≡ check_from k xs + check_from (k + length xs) ys
unfolding check_from
check_append k [] ys =
    let e : k ≡ k + 0 = omega arith in
    omega (arith, ap (λ i. check_from i ys) e)
check_append k (x ∷ xs) ys =
    let e : suc k + length xs ≡ k + suc (length xs) = omega arith in
    rw (check_append (suc k) xs ys, e) (omega arith)

pub weighted_walk : (s : List ℕ) (at n : ℕ) → at + n ≤ length s → weighted s at n ≡ check_from 0 (take n (drop at s))
unfolding weighted check_from
weighted_walk s at zero h = refl
weighted_walk s at (suc n) h =
    let i : weighted s at n ≡ check_from 0 (take n (drop at s)) = weighted_walk s at n (omega arith) in
    let l : n < length (drop at s) = simp length-drop (omega arith) in
    let k : length (take n (drop at s)) ≡ n = length-take-le n (drop at s) (omega arith) in
    rw (take-suc (drop at s) n 0 l, check_append 0 (take n (drop at s)) (get_or (drop at s) n 0 ∷ []), k, get_or-drop at s n 0, i) (omega arith)

-- ---- a block
-- Its number and its words are its first 254 words, its check the last two.
abbrev pub front_of_block : ℕ → List ℕ → List ℕ
front_of_block b ws = payload 254 (b ∷ ws)

abbrev pub check_words : ℕ → List ℕ
check_words c = c % 65536 ∷ c / 65536 ∷ []

word_first : (n w : ℕ) (ws : List ℕ) → two_bytes w ++ payload n ws ≡ payload (suc n) (w ∷ ws)
unfolding payload
word_first n w ws = refl

checked_parts : (bs : List ℕ) → checked bs ≡ bs ++ payload 2 (check_words (check_from 0 bs))
unfolding checked payload
checked_parts bs = let c = check_from 0 bs in append_assoc bs (two_bytes (c % 65536)) (two_bytes (c / 65536))

pub block_parts : (b : ℕ) (ws : List ℕ)
    → block_of_words b ws ≡ front_of_block b ws ++ payload 2 (check_words (check_from 0 (front_of_block b ws)))
unfolding block_of_words
block_parts b ws = ap checked (word_first 253 b ws) ∙ checked_parts (front_of_block b ws)

pub length_block : (b : ℕ) (ws : List ℕ) → length (block_of_words b ws) ≡ 512
length_block b ws =
    let c = check_words (check_from 0 (front_of_block b ws)) in
    ap length (block_parts b ws)
    ∙ length-append (front_of_block b ws) (payload 2 c)
    ∙ omega (arith, length_payload 254 (b ∷ ws), length_payload 2 c)

-- Its words, the number first.
pub block_word : (b : ℕ) (ws : List ℕ) (r : ℕ) → r < 254 → pair (block_of_words b ws) (2 * r) ≡ get_or (b ∷ ws) r 0
block_word b ws r h =
    let c = check_words (check_from 0 (front_of_block b ws)) in
    ap (λ l. pair l (2 * r)) (block_parts b ws)
    ∙ pair_front (front_of_block b ws) (payload 2 c) (2 * r) (omega (arith, length_payload 254 (b ∷ ws)))
    ∙ payload_pair 254 (b ∷ ws) r h

pub block_check_word : (b : ℕ) (ws : List ℕ) (r : ℕ) → r < 2
    → pair (block_of_words b ws) (508 + 2 * r) ≡ get_or (check_words (check_from 0 (front_of_block b ws))) r 0
block_check_word b ws r h =
    let c = check_words (check_from 0 (front_of_block b ws)) in
    ap (λ l. pair l (508 + 2 * r)) (block_parts b ws)
    ∙ pair_back (front_of_block b ws) (payload 2 c) 508 (2 * r) (length_payload 254 (b ∷ ws))
    ∙ payload_pair 2 c r h

pub take_front : (b : ℕ) (ws : List ℕ) → take 508 (block_of_words b ws) ≡ front_of_block b ws
take_front b ws = ap (take 508) (block_parts b ws) ∙ take_at (front_of_block b ws) _ 508 (length_payload 254 (b ∷ ws))

check_by_place : (t : List ℕ) (low high : ℕ) → pair t 508 ≡ low → pair t 510 ≡ high → (r : ℕ) → r < 2
    → pair t (508 + 2 * r) ≡ get_or (low ∷ high ∷ []) r 0
check_by_place t low high p q zero h = p
check_by_place t low high p q (suc zero) h = q
check_by_place t low high p q (suc (suc r)) h = absurd (omega arith)

-- 512 bytes are a block by its words and its check.
pub block_is : (b : ℕ) (ws t : List ℕ) → AllBytes t → length t ≡ 512
    → ((r : ℕ) → r < 254 → pair t (2 * r) ≡ get_or (b ∷ ws) r 0)
    → pair t 508 + 65536 * pair t 510 ≡ check_from 0 (take 508 t) → block_of_words b ws ≡ t
block_is b ws t bytes long words check =
    let front : front_of_block b ws ≡ take 508 t = payload_of 254 (b ∷ ws) t bytes (omega arith) words in
    let c = check_from 0 (front_of_block b ws) in
    let sum : c ≡ pair t 508 + 65536 * pair t 510 = ap (check_from 0) front ∙ sym check in
    let low : pair t 508 ≡ c % 65536 = omega (arith, bytes 508, bytes 509) in
    let high : pair t 510 ≡ c / 65536 = omega (arith, bytes 508, bytes 509) in
    let back : payload 2 (check_words c) ≡ take 4 (drop 508 t) =
    payload_of 2 (check_words c) (drop 508 t) (λ k. rw (get_or-drop 508 t k 0) (bytes (508 + k)))
    (omega (arith, length-drop 508 t)) (λ r h. pair_drop 508 t (2 * r) ∙ check_by_place t _ _ low high r h) in
    block_parts b ws
    ∙ ap (λ l. l ++ payload 2 (check_words c)) front
    ∙ ap (λ l. take 508 t ++ l) back
    ∙ sym (take-add 508 4 t)
    ∙ take_all 512 t (omega arith)

-- ---- the blocks
pub length_blocks : (a n : ℕ) (ws : List ℕ) → length (blocks_of_words a n ws) ≡ 512 * n
unfolding blocks_of_words
length_blocks a zero ws = refl
length_blocks a (suc n) ws =
    length-append (block_of_words a ws) (blocks_of_words (suc a) n (drop 253 ws))
    ∙ omega (arith, length_block a ws, length_blocks (suc a) n (drop 253 ws))

pub block_at : (a n b : ℕ) (ws : List ℕ) → b < n
    → take 512 (drop (512 * b) (blocks_of_words a n ws)) ≡ block_of_words (a + b) (drop (253 * b) ws)
unfolding blocks_of_words
block_at a zero b ws l = absurd (not-suc-le-zero l)
block_at a (suc n) zero ws l =
    let e : a ≡ a + 0 = omega arith in
    take_at (block_of_words a ws) _ 512 (length_block a ws) ∙ ap (λ k. block_of_words k ws) e
block_at a (suc n) (suc b) ws l =
    let first = block_of_words a ws in
    let rest = blocks_of_words (suc a) n (drop 253 ws) in
    let e : 512 * suc b ≡ 512 + 512 * b = omega arith in
    let k : suc a + b ≡ a + suc b = omega arith in
    let f : 253 + 253 * b ≡ 253 * suc b = omega arith in
    let skip : drop (512 * suc b) (first ++ rest) ≡ drop (512 * b) rest =
    ap (λ i. drop i (first ++ rest)) e ∙ sym (drop-drop (512 * b) 512 (first ++ rest))
    ∙ ap (drop (512 * b)) (drop_at first rest 512 (length_block a ws)) in
    ap (take 512) skip
    ∙ block_at (suc a) n b (drop 253 ws) (omega arith)
    ∙ ap (block_of_words (suc a + b)) (drop-drop (253 * b) 253 ws ∙ ap (λ i. drop i ws) f)
    ∙ ap (λ i. block_of_words i (drop (253 * suc b) ws)) k

-- One more block behind the others.
pub blocks_of_more : (a n : ℕ) (ws : List ℕ)
    → blocks_of_words a (suc n) ws ≡ blocks_of_words a n ws ++ block_of_words (a + n) (drop (253 * n) ws)
unfolding blocks_of_words
blocks_of_more a zero ws = let e : a ≡ a + 0 = omega arith in append-nil (block_of_words a ws) ∙ ap (λ k. block_of_words k ws) e
blocks_of_more a (suc n) ws =
    let first = block_of_words a ws in
    let k : suc a + n ≡ a + suc n = omega arith in
    let f : 253 + 253 * n ≡ 253 * suc n = omega arith in
    ap (λ l. first ++ l) (blocks_of_more (suc a) n (drop 253 ws))
    ∙ sym (append_assoc first (blocks_of_words (suc a) n (drop 253 ws)) (block_of_words (suc a + n) (drop (253 * n) (drop 253 ws))))
    ∙ ap (λ l. first ++ blocks_of_words (suc a) n (drop 253 ws) ++ l)
    (ap (block_of_words (suc a + n)) (drop-drop (253 * n) 253 ws ∙ ap (λ i. drop i ws) f)
    ∙ ap (λ i. block_of_words i (drop (253 * suc n) ws)) k)

-- Bytes are the blocks if each 512 of them are one.
pub blocks_are : (n : ℕ) (ws s : List ℕ) → length s ≡ 512 * n
    → ((b : ℕ) → b < n → block_of_words b (drop (253 * b) ws) ≡ take 512 (drop (512 * b) s)) → blocks_of_words 0 n ws ≡ s
blocks_are n ws s long each =
    ext_get_or 0 (blocks_of_words 0 n ws) s (length_blocks 0 n ws ∙ sym long)
    λ i h.
    let b : i / 512 < n = omega (arith, length_blocks 0 n ws) in
    let k : i % 512 < 512 = omega arith in
    let e : 512 * (i / 512) + i % 512 ≡ i = omega arith in
    let z : 0 + i / 512 ≡ i / 512 = omega arith in
    let there : (l : List ℕ) → get_or (take 512 (drop (512 * (i / 512)) l)) (i % 512) 0 ≡ get_or l i 0 =
    λ l. get_or-take 512 (drop (512 * (i / 512)) l) (i % 512) 0 k ∙ get_or-drop (512 * (i / 512)) l (i % 512) 0 ∙ ap (λ j. get_or l j 0) e in
    sym (there (blocks_of_words 0 n ws))
    ∙ ap (λ l. get_or l (i % 512) 0) (block_at 0 n (i / 512) ws b ∙ ap (λ k. block_of_words k (drop (253 * (i / 512)) ws)) z)
    ∙ ap (λ l. get_or l (i % 512) 0) (each (i / 512) b)
    ∙ there s

-- ---- the answer by the number of words and of the lent bytes
number_right_between : (n : ℕ) → 0 < n → n ≤ 4048 → number_of_words_right n ≡ true
number_right_between n l h = rw (lt-ltb 0 n l, le-leb n 4048 h) refl

module _ (ws : List ℕ) (lent : ℕ) where
  abbrev answer_by : Bool → Bool → Answer (List ℕ)
  answer_by number room =
      elim number [
        | false ↦ refused wrong_word_count 0
        | true ↦ elim room [ false ↦ refused too_few_words 0 | true ↦ accepted (store_of ws) ]
      ]

  by_tests : (p q : Bool) → number_of_words_right (length ws) ≡ p → leb (512 * blocks_for (length ws)) lent ≡ q
      → written ws lent ≡ answer_by p q
  unfolding written
  by_tests p q e f = ap (λ x. answer_by x (leb (512 * blocks_for (length ws)) lent)) e ∙ ap (answer_by p) f

  pub written_none : length ws ≡ 0 → written ws lent ≡ refused wrong_word_count 0
  written_none e = by_tests false _ (ap number_of_words_right e) refl

  pub written_over : 4048 < length ws → written ws lent ≡ refused wrong_word_count 0
  written_over h = by_tests false _ (ap (λ x. ltb 0 (length ws) && x) (lt-leb (length ws) 4048 h) ∙ and-false (ltb 0 (length ws))) refl

  pub written_short : 0 < length ws → length ws ≤ 4048 → lent < 512 * blocks_for (length ws) → written ws lent ≡ refused too_few_words 0
  written_short l h k = by_tests true false (number_right_between (length ws) l h) (lt-leb (512 * blocks_for (length ws)) lent k)

  pub written_whole : 0 < length ws → length ws ≤ 4048 → 512 * blocks_for (length ws) ≤ lent → written ws lent ≡ accepted (store_of ws)
  written_whole l h k = by_tests true true (number_right_between (length ws) l h) (le-leb (512 * blocks_for (length ws)) lent k)

-- What an answer with bytes says.
pub record StoreGiven (ws bs : List ℕ) : Type 0 where
  pub some : 0 < length ws
  pub few : length ws ≤ 4048
  pub is : bs ≡ store_of ws

module _ (ws : List ℕ) (lent : ℕ) (bs : List ℕ) where
  given_by : (p q : Bool) → number_of_words_right (length ws) ≡ p → answer_by ws lent p q ≡ accepted bs → StoreGiven ws bs
  given_by false q e h = absurd (clash (cc))
  given_by true false e h = absurd (clash (cc))
  given_by true true e h =
      let right = and_both (ltb 0 (length ws)) (leb (length ws) 4048) e in
      record { some = ltb-true 0 (length ws) right.0; few = leb-true (length ws) 4048 right.1; is = cc }

  pub store_given : written ws lent ≡ accepted bs → StoreGiven ws bs
  store_given h = given_by _ (leb (512 * blocks_for (length ws)) lent) refl (sym (by_tests ws lent _ _ refl refl) ∙ h)
