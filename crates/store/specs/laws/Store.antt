-- The store's words, counted and in front of the lent words: each path through the definition.
use Rattle.std.specs.Prelude.{◌≡◌, refl, true, false, List, ◌++◌, ℕ, length, drop}
use Rattle.std.proofs.Common.{sym, ap, ◌∙◌}
use Rattle.meaning.specs.Lists.{tabulate}
use Rattle.meaning.specs.facts.Tests.{clash}
use Rattle.meaning.specs.facts.Elements.{length_tabulate}
use Rattle.format.specs.Store.{Answer, accepted, refused, blocks_checked, word_at, length_right, count_right, store_words}
use Rattle.format.specs.laws.Stores.{blocks_in, stored, StoreHolds, holds}
use Rattle.format.specs.Refusals.{wrong_length, wrong_word_count}
use Rattle.store.specs.Loaded.{words_counted, words_after}

module _ (s : List ℕ) where
  pub length_wrong : length_right (length s) ≡ false → refused wrong_length 0 ≡ words_counted (store_words s)
  length_wrong p = ap words_counted (sym (stored s _ _ _ p refl refl))

  pub blocks_wrong : (a b : ℕ) → length_right (length s) ≡ true → refused a b ≡ blocks_checked s (blocks_in s)
      → refused a b ≡ words_counted (store_words s)
  blocks_wrong a b p q = ap words_counted (sym (stored s _ _ _ p (sym q) refl))

  pub count_wrong : length_right (length s) ≡ true → accepted tt ≡ blocks_checked s (blocks_in s)
      → false ≡ count_right s (blocks_in s) (word_at s 0) → refused wrong_word_count 0 ≡ words_counted (store_words s)
  count_wrong p q r = ap words_counted (sym (stored s _ _ _ p (sym q) (sym r)))

  pub words_right : length_right (length s) ≡ true → accepted tt ≡ blocks_checked s (blocks_in s)
      → true ≡ count_right s (blocks_in s) (word_at s 0) → accepted (word_at s 0) ≡ words_counted (store_words s)
  words_right p q r =
      ap accepted (sym (length_tabulate (word_at s 0) (word_at s))) ∙ ap words_counted (sym (stored s _ _ _ p (sym q) (sym r)))

-- What a store is whose W is answered.
pub holds_counted : (s : List ℕ) (w : ℕ) → accepted w ≡ words_counted (store_words s) → StoreHolds s w
holds_counted s w e = by_answer (store_words s) refl e
  where
    by_answer : (a : Answer (List ℕ)) → store_words s ≡ a → accepted w ≡ words_counted a → StoreHolds s w
    by_answer (accepted ws) q e = let is : w ≡ length ws = cc in rw is (holds s ws q)
    by_answer (refused m n) q e = absurd (clash (cc))

-- What the lent words hold after a refusal, and after W.
pub kept : (before : List ℕ) (a : Answer (List ℕ)) (m n : ℕ) → refused m n ≡ words_counted a → before ≡ words_after before a
kept before (accepted ws) m n e = absurd (clash (cc))
kept before (refused k w) m n e = refl

pub filled : (s before : List ℕ) (w : ℕ) → StoreHolds s w → tabulate w (word_at s) ++ drop w before ≡ words_after before (store_words s)
filled s before w h =
    ap (λ n. tabulate w (word_at s) ++ drop n before) (sym (length_tabulate w (word_at s))) ∙ ap (words_after before) (sym h.words)
