-- An item and a condition, as the code writes them.
use Rattle.std.specs.Prelude.{◌≡◌, refl, true, false, List, [], ◌∷◌, length, get_or, drop, eqb}
use Rattle.std.proofs.Common.{sym, ◌∙◌, append_assoc, arith, drop_of_length-le}
use Prim.Native.Nat.{ℕ, zero, suc, ◌+◌, ◌≤◌}
use Rattle.std.proofs.Math.ListN.{get_or-eq_default}
use borrow.Author.Tests.{eqb-true, eqb-false}
use Rattle.meaning.specs.Text.{ascii, joined}
use Rattle.nesting.specs.decoding.Lines.{condition_field}
use Rattle.nesting.specs.decoding.Decode.{next_word, decode_condition}
use Rattle.text_cursor.specs.declared.cursor.SheetCursor.{SheetCursor}
use Rattle.text_fields.specs.declared.fields.Field.TheVariants.{Value, Condition}
use Rattle.text_cursor.specs.Lines.{shown}
use Rattle.text_cursor.specs.Texts.{say, ◌then◌, plain_text}
use Rattle.text_fields.specs.Fields.{item_text, condition_text, list_within, item_head, merge_head}
use Rattle.text_cursor.specs.WordsToText.{PutsText, PutsWithin}
use Rattle.text_cursor.specs.laws.WordsToTextSteps.{puts_then, puts_there}
use Rattle.meaning.specs.facts.Elements.{first_dropped}
use Rattle.text_cursor.specs.laws.Readers.{next_next, next_decoded}

pub item_shown : (depth : ℕ) (ws : List ℕ) → (item_head then list_within depth Value) ws ≡ item_text ws
unfolding shown ◌then◌ joined
item_shown depth ws = simp (next_next, next_decoded, append_assoc)

pub plain_shown : (depth : ℕ) (ws : List ℕ) → (get_or ws 0 0 ≡ 4 → ⊥) → plain_text ws ≡ condition_text (suc depth) ws
unfolding shown next_word decode_condition condition_field
plain_shown depth [] n = refl
plain_shown depth (zero ∷ ws) n = refl
plain_shown depth (suc zero ∷ ws) n = refl
plain_shown depth (suc (suc zero) ∷ ws) n = refl
plain_shown depth (suc (suc (suc zero)) ∷ ws) n = refl
plain_shown depth (suc (suc (suc (suc zero))) ∷ ws) n = absurd (n refl)
plain_shown depth (suc (suc (suc (suc (suc w)))) ∷ ws) n = refl

merge_text : (depth : ℕ) (ws : List ℕ)
    → (merge_head then list_within depth Condition then say (ascii "]")) (4 ∷ ws) ≡ condition_text (suc depth) (4 ∷ ws)
unfolding shown ◌then◌ decode_condition condition_field
merge_text depth ws = simp (next_next, next_decoded, append_assoc)

pub merge_shown : (depth : ℕ) (ws : List ℕ) → get_or ws 0 0 ≡ 4
    → (merge_head then list_within depth Condition then say (ascii "]")) ws ≡ condition_text (suc depth) ws
merge_shown depth [] h = absurd (omega arith)
merge_shown depth (w ∷ ws) h = rw h (merge_text depth ws)

-- A condition from a cursor on, with parts and without.
module _ {ws : List ℕ} {c : SheetCursor} where
  pub merge_there : eqb (get_or ws c.at 0) 4 ≡ true → (depth : ℕ) → length ws ≤ c.at + 0 + depth
      → {before named parts after : List ℕ} {d e f : SheetCursor}
      → PutsText merge_head ws c before named d → PutsWithin 1 (λ k. list_within k Condition) ws d named parts e
      → PutsText (say (ascii "]")) ws e parts after f → PutsText (condition_text depth) ws c before after f
  merge_there is zero h a b q =
      let beyond : get_or ws c.at 0 ≡ 0 = get_or-eq_default ws 0 {n = c.at} (omega arith) in
      absurd (omega (arith, eqb-true (get_or ws c.at 0) 4 is))
  merge_there is (suc depth) h a b q =
      puts_there (λ l. merge_shown depth (drop c.at ws) (first_dropped ws c.at 0 ∙ eqb-true _ _ is))
      (puts_then a (puts_then (b depth (omega (arith, a.ahead))) q))

  pub plain_there : eqb (get_or ws c.at 0) 4 ≡ false → (depth : ℕ) → length ws ≤ c.at + 0 + depth
      → {before after : List ℕ} {d : SheetCursor}
      → PutsText plain_text ws c before after d → PutsText (condition_text depth) ws c before after d
  unfolding shown next_word decode_condition
  plain_there is zero h a = puts_there (λ l. rw (drop_of_length-le ws {i = c.at} (omega arith)) refl) a
  plain_there is (suc depth) h a =
      puts_there (λ l. plain_shown depth (drop c.at ws) λ e. eqb-false _ _ is (sym (first_dropped ws c.at 0) ∙ e)) a
