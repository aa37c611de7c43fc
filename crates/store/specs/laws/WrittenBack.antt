-- Loading and writing, one after the other: what was written loads as the record that stood in the words, and what was loaded is written
-- with the same bytes; what is kept of the lent bytes. These follow from the contracts of `load` and `write_store` alone.
use Rattle.std.specs.Prelude.{◌≡◌, refl, List, ℕ, ◌≤◌, ◌<◌, length, get_or, take, drop, Ok, Err}
use Rattle.std.proofs.Common.{sym, ap, ◌∙◌, arith, length-take, get_or-take, take_at, drop_at}
use Rattle.meaning.specs.Lists.{All}
use Rattle.meaning.specs.facts.Tests.{clash}
use Rattle.meaning.specs.facts.Elements.{all_take}
use Rattle.format.specs.Store.{Answer, accepted, refused, blocks_for, store_words, store_of, written}
use Rattle.format.specs.laws.Written.{length_blocks, written_whole, store_given}
use Rattle.format.specs.laws.WrittenBack.{RecordWords, reads_back, same_bytes, words_read}
use Rattle.store.specs.Loaded.{words_counted, words_after, Loads}
use Rattle.store.specs.Writes.{words_of, WritesStore}
use Rattle.store.specs.laws.Front.{front}
use Rattle.store.specs.laws.Store.{kept}
use Rattle.store.specs.declared.refusals.Refusal.{Refusal}

-- The store that was loaded is what is written, into as many bytes or more.
pub written_as_loaded : (s before after : List ℕ) (w n : ℕ) → All (λ b. b < 256) s → Loads s before after (Ok w) → length s ≤ n
    → written (words_of after) n ≡ accepted s
unfolding store_of
written_as_loaded s before after w n bytes h room =
    let f = front s before after w h in
    let read : store_words s ≡ accepted (words_of after) = f.words ∙ ap (λ k. accepted (take k after)) (sym f.first) in
    let r = words_read s (words_of after) bytes read in
    let same = same_bytes s (words_of after) bytes read in
    let long = ap length (sym same) ∙ length_blocks 0 (blocks_for (length (words_of after))) (words_of after) in
    written_whole (words_of after) n r.some r.few (omega arith) ∙ ap accepted same

-- The words that are written are a record's.
words_written : (w : List ℕ) → All (λ x. x < 65536) w → 0 < length (words_of w) → length (words_of w) ≤ 4048 → 4048 < length w
    → RecordWords (words_of w)
words_written w small some few room =
    let size = length-take (get_or w 0 0) w in
    record {
      some = some;
      few = few;
      first = get_or-take (get_or w 0 0) w 0 0 (omega arith) ∙ omega arith;
      small = all_take (λ x. x < 65536) (get_or w 0 0) w small;
    }

-- What was written loads as the record's words.
pub loaded_as_written : (w out out' : List ℕ) (n : ℕ) → All (λ x. x < 65536) w → 4048 < length w → WritesStore w out out' (Ok n)
    → store_words (take n out') ≡ accepted (words_of w)
loaded_as_written w out out' n small room h = by_answer (written (words_of w) (length out)) refl h.answer h.bytes
  where
    by_answer : (a : Answer (List ℕ)) → written (words_of w) (length out) ≡ a → accepted n ≡ words_counted a → out' ≡ words_after out a
        → store_words (take n out') ≡ accepted (words_of w)
    by_answer (refused m x) q e b = absurd (clash (cc))
    by_answer (accepted bs) q e b =
        let g = store_given (words_of w) (length out) bs q in
        let k : length bs ≡ n = cc in
        ap (λ l. store_words (take n l)) b
        ∙ ap store_words (take_at bs (drop (length bs) out) n k ∙ g.is)
        ∙ reads_back (words_of w) (words_written w small g.some g.few room)

-- A refusal writes no byte, and a store none behind it.
pub refusal_keeps : (w out out' : List ℕ) (why : Refusal) → WritesStore w out out' (Err why) → out' ≡ out
refusal_keeps w out out' why h = h.bytes ∙ sym (kept out (written (words_of w) (length out)) _ _ h.answer)

pub beyond_kept : (w out out' : List ℕ) (n : ℕ) → WritesStore w out out' (Ok n) → drop n out' ≡ drop n out
beyond_kept w out out' n h = by_answer (written (words_of w) (length out)) h.answer h.bytes
  where
    by_answer : (a : Answer (List ℕ)) → accepted n ≡ words_counted a → out' ≡ words_after out a → drop n out' ≡ drop n out
    by_answer (refused m x) e b = absurd (clash (cc))
    by_answer (accepted bs) e b =
        let k : length bs ≡ n = cc in
        ap (drop n) b ∙ drop_at bs (drop (length bs) out) n k ∙ ap (λ i. drop i out) k
