-- Every accepted record's listing fits into 65,536 bytes: a record has at most 4,048 words, and 16 bytes a word are enough.
use Rattle.std.specs.Prelude.{◌≡◌, refl, List, ℕ, ◌≤◌, length, get_or}
use Rattle.std.proofs.Common.{sym, ◌∙◌, arith}
use Rattle.meaning.specs.Graph.{Graph}
use Rattle.format.specs.Store.{Answer, accepted, refused, word_at, store_words}
use Rattle.format.specs.Read.{read_record}
use Rattle.format.specs.References.{references}
use Rattle.format.specs.Accept.{accept}
use Rattle.store.specs.Layout.{record_end}
use Rattle.format.specs.laws.Stores.{AllBytes, words_small, holds}
use Rattle.record.specs.laws.Parts.{then, accepted_value}
use Rattle.text.specs.laws.Lengths.{refusal_length}
use Rattle.text_parts.specs.Listing.{listing_of, shown_text}
use Rattle.text_record.specs.laws.ItemBytes.{IsWord}
use Rattle.text_record.specs.laws.RegionBytes.{listing_enough}
use Rattle.format.proofs.laws.Refusals.{InRange, refusal_range}
use Rattle.meaning.specs.Lists.{tabulate}
use Rattle.meaning.specs.facts.Elements.{all_get_d}

abbrev AllSmall : List ℕ → Type 0
AllSmall ws = (k : ℕ) → IsWord (get_or ws k 0)

-- The words of a store of bytes.
record FewWords (ws : List ℕ) : Type 0 where
  pub few : length ws ≤ record_end
  pub small : AllSmall ws

few_words : (s ws : List ℕ) → AllBytes s → store_words s ≡ accepted ws → FewWords ws
few_words s ws bytes h =
    let a = holds s ws h in
    let is : ws ≡ tabulate (length ws) (word_at s) = accepted_value (sym h ∙ a.words) in
    record {
      few = omega (arith, a.within, a.short);
      small = rw is (all_get_d IsWord 0 (omega arith) (tabulate (length ws) (word_at s)) (words_small s bytes (length ws)));
    }

pub listing_fits : (s : List ℕ) → AllBytes s → (g : Graph) → accept s ≡ accepted g → length (listing_of g) ≤ 65536
unfolding accept
listing_fits s bytes g h =
    let a = then (store_words s) _ g h in
    let b = then (read_record a.value) _ g a.second in
    let c = then (references b.value) _ g b.second in
    let words = few_words s a.value bytes a.first in
    let read : read_record a.value ≡ accepted g = b.first ∙ c.second in
    omega (arith, words.few, listing_enough a.value words.small (omega (arith, words.few)) g read)

-- Whatever is shown of a store.
pub shown_fits : (s : List ℕ) → AllBytes s → length (shown_text (accept s)) ≤ 65536
shown_fits s bytes = by_answer (accept s) refl (refusal_range s)
  where
    by_answer : (x : Answer Graph) → accept s ≡ x → InRange x → length (shown_text x) ≤ 65536
    by_answer (accepted g) q h = listing_fits s bytes g q
    by_answer (refused n w) q h = omega (arith, h.0.1, h.1, refusal_length n w (omega arith) (omega arith))
