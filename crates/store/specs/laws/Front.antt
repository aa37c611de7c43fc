-- What stands in front of the lent words after W was answered: for the routines that read the record there.
use Rattle.std.specs.Prelude.{◌≡◌, List, ◌++◌, ℕ, ◌≤◌, length, get_or, take, drop, Ok}
use Rattle.std.proofs.Common.{sym, ap, ◌∙◌, arith, take_at, drop_at}
use Rattle.std.proofs.Math.ListN.{get_or-append}
use Rattle.format.specs.Store.{accepted, store_words, word_at}
use Rattle.store.specs.Layout.{record_end}
use Rattle.store.specs.Loaded.{words_after, Loads}
use Rattle.store.specs.laws.Store.{holds_counted}
use Rattle.meaning.specs.Lists.{tabulate}
use Rattle.meaning.specs.facts.Elements.{length_tabulate, tabulate_at}

-- The store's words are the first w, w is among them as word 0, and the others are as lent.
pub record Front (s before after : List ℕ) (w : ℕ) : Type 0 where
  pub words : store_words s ≡ accepted (take w after)
  pub few : w ≤ record_end
  pub first : get_or after 0 0 ≡ w
  pub rest : drop w after ≡ drop w before

pub front : (s before after : List ℕ) (w : ℕ) → Loads s before after (Ok w) → Front s before after w
front s before after w l =
    let h = holds_counted s w l.answer in
    let ws = tabulate w (word_at s) in
    let size : length ws ≡ w = length_tabulate w (word_at s) in
    let loaded_is : after ≡ ws ++ drop w before = l.words ∙ ap (words_after before) h.words ∙ ap (λ n. ws ++ drop n before) size in
    record {
      words = h.words ∙ ap accepted (sym (ap (take w) loaded_is ∙ take_at ws (drop w before) w size));
      few = omega (arith, h.within, h.short);
      first =
          ap (λ x. get_or x 0 0) loaded_is ∙ get_or-append ws (drop w before) 0 0 (omega (arith, h.some))
          ∙ tabulate_at w (word_at s) 0 h.some
          ∙ h.first;
      rest = ap (drop w) loaded_is ∙ drop_at ws (drop w before) w size;
    }
