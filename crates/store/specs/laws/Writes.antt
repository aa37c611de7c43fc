-- Laws of bytes that are put into the lent ones, one part behind another; and each path through what is written.
use Rattle.std.specs.Prelude.{◌≡◌, refl, List, [], ◌∷◌, ◌++◌, ℕ, suc, ◌+◌, ◌*◌, ◌/◌, ◌%◌, ◌≤◌, ◌<◌, get_or, take, Ok, Err}
use Rattle.std.proofs.Common.{sym, ◌∙◌, subst, add-one, mul-le-mul, length-append, length-take, length-take-le}
use Rattle.std.proofs.Math.Path.{ap}
use native.Mathlib.Omega.{arith}
use Rattle.std.proofs.Math.ListN.{length, drop}
use Rattle.std.proofs.Math.Seq.{sets, sets-eq, length-sets}
use Rattle.format.specs.Store.{accepted, two_bytes, payload, check_from, checked, block_of_words, blocks_of_words, blocks_for}
use Rattle.format.specs.Store.{store_of, written}
use Rattle.format.specs.laws.Written.{length_payload, payload_more, check_append, length_blocks, blocks_of_more}
use Rattle.format.specs.laws.Written.{written_none, written_over, written_short, written_whole}
use Rattle.store.specs.Loaded.{words_counted, words_after}
use Rattle.store.specs.Refusals.{refused_as}
use Rattle.store.specs.Writes.{words_of, WritesStore, WordsPut, with_block, BlocksPut}
use Rattle.store.specs.declared.refusals.Refusal.{Refusal}
use Rattle.store.specs.declared.refusals.Refusal.TheVariants.{WrongWordCount, TooFewWords}

-- ---- bytes behind bytes
pub sets_then : (l : List ℕ) (i : ℕ) (xs ys : List ℕ) (k : ℕ) → i + length xs ≡ k → sets (sets l i xs) k ys ≡ sets l i (xs ++ ys)
sets_then l i [] ys k e = let z : k ≡ i = omega arith in rw z
sets_then l i (x ∷ xs) ys k e = sets_then _ (suc i) xs ys k (omega arith)

-- One more word of a block.
pub none_put : (number : ℕ) (ws : List ℕ) (at : ℕ) (out : List ℕ) (check : ℕ) → check ≡ check_from 0 (two_bytes number)
    → WordsPut 0 number ws at out out check
unfolding payload
none_put number ws at out check e = record { bytes = refl; sum = e }

words_more : (out : List ℕ) (at n : ℕ) (ws : List ℕ)
    → sets (sets out at (payload n ws)) (at + 2 * n) (two_bytes (get_or ws n 0)) ≡ sets out at (payload (n + 1) ws)
words_more out at n ws =
    let z : at + length (payload n ws) ≡ at + 2 * n = omega (arith, length_payload n ws) in
    sets_then out at (payload n ws) (two_bytes (get_or ws n 0)) (at + 2 * n) z
    ∙ ap (sets out at) (sym (payload_more n ws) ∙ ap (λ k. payload k ws) (sym (add-one n)))

check_more : (number n : ℕ) (ws : List ℕ)
    → check_from 0 (two_bytes number ++ payload n ws) + check_from (2 + 2 * n) (two_bytes (get_or ws n 0))
    ≡ check_from 0 (two_bytes number ++ payload (n + 1) ws)
check_more number n ws =
    let front = two_bytes number ++ payload n ws in
    let z : 2 + 2 * n ≡ 0 + length front = omega (arith, length_payload n ws) in
    ap (λ k. check_from 0 front + check_from k (two_bytes (get_or ws n 0))) z
    ∙ sym (check_append 0 front (two_bytes (get_or ws n 0)))
    ∙ ap (λ l. check_from 0 (two_bytes number ++ l)) (sym (payload_more n ws) ∙ ap (λ k. payload k ws) (sym (add-one n)))

pub word_put : (n number : ℕ) (ws : List ℕ) (at : ℕ) (out mid out' : List ℕ) (sum word more : ℕ) → WordsPut n number ws at out mid sum
    → word ≡ get_or ws n 0 → out' ≡ sets mid (at + 2 * n) (two_bytes word) → more ≡ check_from (2 + 2 * n) (two_bytes word)
    → WordsPut (n + 1) number ws at out out' (sum + more)
word_put n number ws at out mid out' sum word more h e p q =
    record {
      bytes =
          p ∙ ap (λ x. sets mid (at + 2 * n) (two_bytes x)) e
          ∙ ap (λ l. sets l (at + 2 * n) (two_bytes (get_or ws n 0))) h.bytes
          ∙ words_more out at n ws;
      sum =
          ap (λ x. x + more) h.sum
          ∙ ap (λ x. check_from 0 (two_bytes number ++ payload n ws) + x) (q ∙ ap (λ x. check_from (2 + 2 * n) (two_bytes x)) e)
          ∙ check_more number n ws;
    }

pub put_count : (n m : ℕ) {number : ℕ} {ws : List ℕ} {at : ℕ} {out out' : List ℕ} {check : ℕ} → n ≡ m
    → WordsPut n number ws at out out' check → WordsPut m number ws at out out' check
put_count n m {number} {ws} {at} {out} {out'} {check} e h = subst (λ k. WordsPut k number ws at out out' check) e h

pub put_length : {n number : ℕ} {ws : List ℕ} {at : ℕ} {out out' : List ℕ} {check : ℕ} → WordsPut n number ws at out out' check
    → length out' ≡ length out
put_length {n} {ws} {at} {out} h = ap length h.bytes ∙ length-sets out at (payload n ws)

-- ---- a word's bytes in the check
pub weight_is : (w place : ℕ) → (w % 256) * (place + 1) + (w / 256) * (place + 2) ≡ check_from place (two_bytes w)
unfolding check_from
weight_is w place = omega arith

pub low_weight : (w place : ℕ) → place < 507 → (w % 256) * (place + 1) ≤ 129540
low_weight w place h = mul-le-mul {n₁ = w % 256} {m₁ = place + 1} {n₂ = 255} {m₂ = 508} (omega arith) (omega arith)

pub high_weight : (w place : ℕ) → w < 65536 → place < 507 → (w / 256) * (place + 2) ≤ 129540
high_weight w place l h = mul-le-mul {n₁ = w / 256} {m₁ = place + 2} {n₂ = 255} {m₂ = 508} (omega arith) (omega arith)

-- ---- a block, and one block more
parts_put : (out : List ℕ) (at b : ℕ) (ws : List ℕ)
    → let c = check_from 0 (two_bytes b ++ payload 253 ws) in
    sets (sets (sets out at (two_bytes b ++ payload 253 ws)) (at + 508) (two_bytes (c % 65536))) (at + 510) (two_bytes (c / 65536))
    ≡ sets out at (block_of_words b ws)
unfolding block_of_words checked
parts_put out at b ws =
    let front = two_bytes b ++ payload 253 ws in
    let c = check_from 0 front in
    let p = length_payload 253 ws in
    ap (λ l. sets l (at + 510) (two_bytes (c / 65536))) (sets_then out at front (two_bytes (c % 65536)) (at + 508) (omega arith))
    ∙ sets_then out at (front ++ two_bytes (c % 65536)) (two_bytes (c / 65536)) (at + 510)
    (omega (arith, length-append front (two_bytes (c % 65536))))

-- The number, the words, the two words of the check.
pub block_put : (at b c : ℕ) (ws out numbered filled half whole : List ℕ) (number : ℕ) → number ≡ b
    → numbered ≡ sets out at (two_bytes number) → WordsPut 253 number ws (at + 2) numbered filled c
    → half ≡ sets filled (at + 508) (two_bytes (c % 65536)) → whole ≡ sets half (at + 510) (two_bytes (c / 65536))
    → whole ≡ sets out at (block_of_words b ws)
block_put at b c ws out numbered filled half whole number e p q r s =
    let f : filled ≡ sets out at (two_bytes number ++ payload 253 ws) =
    q.bytes
    ∙ ap (λ l. sets l (at + 2) (payload 253 ws)) p
    ∙ sets_then out at (two_bytes number) (payload 253 ws) (at + 2) refl in
    s
    ∙ ap (λ l. sets l (at + 510) (two_bytes (c / 65536))) (r ∙ ap (λ l. sets l (at + 508) (two_bytes (c % 65536))) f)
    ∙ ap (λ x. sets (sets (sets out at (two_bytes number ++ payload 253 ws)) (at + 508) (two_bytes (x % 65536))) (at + 510)
    (two_bytes (x / 65536))) q.sum
    ∙ parts_put out at number ws
    ∙ ap (λ x. sets out at (block_of_words x ws)) e

pub no_block_put : (ws out : List ℕ) → BlocksPut 0 ws out out
unfolding blocks_of_words
no_block_put ws out = record { bytes = refl }

pub next_block_put : (n : ℕ) (ws out mid out' : List ℕ) → BlocksPut n ws out mid
    → out' ≡ with_block n ws mid → BlocksPut (n + 1) ws out out'
next_block_put n ws out mid out' h p =
    let e : n ≡ 0 + n = omega arith in
    let block = block_of_words n (drop (253 * n) ws) in
    record {
      bytes =
          p
          ∙ ap (λ l. sets l (512 * n) block) h.bytes
          ∙ sets_then out 0 (blocks_of_words 0 n ws) block (512 * n) (omega (arith, length_blocks 0 n ws))
          ∙ ap (λ k. sets out 0 (blocks_of_words 0 n ws ++ block_of_words k (drop (253 * n) ws))) e
          ∙ ap (sets out 0) (sym (blocks_of_more 0 n ws) ∙ ap (λ k. blocks_of_words 0 k ws) (sym (add-one n)));
    }

pub blocks_length : {n : ℕ} {ws out out' : List ℕ} → BlocksPut n ws out out' → length out' ≡ length out
blocks_length {n} {ws} {out} h = ap length h.bytes ∙ length-sets out 0 (blocks_of_words 0 n ws)

-- ---- the answers
module _ (w out : List ℕ) (room : 4048 < length w) where
  as_lent : (why : Refusal) → written (words_of w) (length out) ≡ refused_as why → WritesStore w out out (Err why)
  as_lent why is = record { answer = ap words_counted (sym is); bytes = ap (words_after out) (sym is) }

  pub refused_none : get_or w 0 0 ≡ 0 → WritesStore w out out (Err WrongWordCount)
  refused_none e = as_lent WrongWordCount (written_none _ _ (omega (arith, length-take (get_or w 0 0) w)))

  pub refused_over : 4048 < get_or w 0 0 → WritesStore w out out (Err WrongWordCount)
  refused_over h = as_lent WrongWordCount (written_over _ _ (omega (arith, length-take (get_or w 0 0) w)))

  module _ (used : ℕ) (is : used ≡ get_or w 0 0) (some : 0 < used) (few : used ≤ 4048) where
    size : length (words_of w) ≡ used
    size = length-take-le (get_or w 0 0) w (omega arith) ∙ sym is

    pub refused_short : length out < 512 * blocks_for used → WritesStore w out out (Err TooFewWords)
    refused_short h = as_lent TooFewWords (written_short _ _ (omega (arith, size)) (omega (arith, size)) (rw size h))

    pub store_put : (out' : List ℕ) (n : ℕ) → 512 * blocks_for used ≤ length out → n ≡ blocks_for used → BlocksPut n (take used w) out out'
        → WritesStore w out out' (Ok (512 * blocks_for used))
    unfolding store_of
    store_put out' m h e p =
        let n = blocks_for used in
        let bs = blocks_of_words 0 n (take used w) in
        let whole : written (words_of w) (length out) ≡ accepted bs =
        written_whole (words_of w) (length out) (omega (arith, size)) (omega (arith, size)) (rw size h)
        ∙ ap (λ k. accepted (blocks_of_words 0 (blocks_for k) (words_of w))) size
        ∙ ap (λ k. accepted (blocks_of_words 0 n (take k w))) (sym is) in
        let long : length bs ≡ 512 * n = length_blocks 0 n (take used w) in
        let z : 0 + length bs ≡ length bs = omega arith in
        record {
          answer = ap accepted (sym long) ∙ ap words_counted (sym whole);
          bytes =
              p.bytes
              ∙ ap (λ k. sets out 0 (blocks_of_words 0 k (take used w))) e
              ∙ sets-eq bs out 0 (omega arith)
              ∙ ap (λ k. bs ++ drop k out) z
              ∙ ap (words_after out) (sym whole);
        }
