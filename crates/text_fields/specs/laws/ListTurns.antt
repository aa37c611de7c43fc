-- The loop over the fields of a list.
use Rattle.std.specs.Prelude.{◌≡◌, List, length}
use Rattle.std.proofs.Math.Path.{refl}
use Rattle.std.proofs.Common.{◌∙◌}
use Prim.Native.Nat.{ℕ, suc, ◌+◌, ◌-◌, ◌≤◌, ◌<◌}
use native.Mathlib.Omega.{arith}
use Rattle.meaning.specs.Text.{ascii}
use Rattle.text.specs.laws.BufferLaws.{wrote_none}
use Rattle.text_cursor.specs.declared.cursor.SheetCursor.{SheetCursor}
use Rattle.text_fields.specs.declared.fields.Field.{Field}
use Rattle.text_cursor.specs.Texts.{say}
use Rattle.text_fields.specs.Fields.{field_within, list_within, none_text}
use Rattle.text_cursor.specs.WordsToText.{PutsText, PutsWithin, NextWord, Stopped}
use Rattle.text_cursor.specs.laws.WordsToTextSteps.{puts_then, puts_said, puts_word, puts_ended, puts_beyond}
use Rattle.text_fields.specs.laws.ListTexts.{others, list_uncounted, list_none, list_some}

-- k of n fields stand behind the count at a cursor: the first, and behind it (`text₀`, `d₀`) the others so far.
pub record Turned (kind : Field) (ws : List ℕ) (c : SheetCursor) (n : ℕ) (text₀ : List ℕ) (d₀ : SheetCursor) (text : List ℕ)
    (d : SheetCursor) (k : ℕ) : Type 0 where
  pub size : length text ≡ length text₀
  pub count : k ≤ n
  pub ahead : c.at < d.at
  pub rest : (depth : ℕ) → length ws ≤ c.at + 1 + depth → {after : List ℕ} {e : SheetCursor}
      → PutsText (others (field_within depth kind) (n - k)) ws d text after e
      → PutsText (others (field_within depth kind) (n - 1)) ws d₀ text₀ after e

module _ {kind : Field} {ws : List ℕ} {c : SheetCursor} {n : ℕ} {text₀ : List ℕ} {d₀ : SheetCursor} where
  pub turned_first : {next : SheetCursor} → NextWord ws c n next → next.at ≤ d₀.at → (n ≡ 0 → ⊥) → Turned kind ws c n text₀ d₀ text₀ d₀ 1
  turned_first counted l some = record { size = refl; count = omega arith; ahead = omega arith; rest = λ depth h p. p }

  module _ {text : List ℕ} {d : SheetCursor} {k : ℕ} (t : Turned kind ws c n text₀ d₀ text d k) where
    pub turned_next : {said done : List ℕ} {e f : SheetCursor} → k < n → length done ≡ length text
        → PutsText (say (ascii ",")) ws d text said e → PutsWithin 0 (λ depth. field_within depth kind) ws e said done f
        → Turned kind ws c n text₀ d₀ done f (k + 1)
    unfolding others
    turned_next {f = f} l same comma field =
        let one : n - k ≡ suc (n - (k + 1)) = omega arith in
        let first = t.ahead in
        record {
          size = same ∙ t.size;
          count = omega arith;
          ahead = omega (arith, comma.ahead, (field (length ws) (omega arith)).ahead);
          rest = λ depth h p. t.rest depth h
              (rw one (puts_then comma (puts_then (field depth (omega (arith, comma.ahead))) p)));
        }

    module _ {next : SheetCursor} {before : List ℕ} (counted : NextWord ws c n next) (some : n ≡ 0 → ⊥)
        (first : PutsWithin 0 (λ depth. field_within depth kind) ws next before text₀ d₀) where
      ended : ((depth : ℕ) → PutsText (others (field_within depth kind) (n - k)) ws d text text d)
          → PutsWithin 1 (λ depth. list_within depth kind) ws c before text d
      ended last depth h =
          puts_word counted (list_some depth kind n some)
          (puts_then (first depth (omega arith)) (t.rest depth h (last depth)))

      pub turned_all : n ≤ k → PutsWithin 1 (λ depth. list_within depth kind) ws c before text d
      unfolding others
      turned_all l = let none : n - k ≡ 0 = omega arith in ended λ depth. rw none (puts_said refl wrote_none)

      pub turned_beyond : length ws < d.at
          → PutsWithin 1 (λ depth. list_within depth kind) ws c before text d
      turned_beyond l = ended λ depth. puts_beyond l

-- A list without a count, and an empty one.
module _ (kind : Field) {ws before : List ℕ} where
  pub list_missing : {c d : SheetCursor} → length ws ≤ c.at → Stopped ws c d
      → PutsWithin 1 (λ depth. list_within depth kind) ws c before before d
  list_missing l s depth h = puts_ended (list_uncounted depth kind) l s

  pub list_empty : {c next d : SheetCursor} {n : ℕ} {after : List ℕ} → NextWord ws c n next → n ≡ 0
      → PutsText (say (none_text kind)) ws next before after d → PutsWithin 1 (λ depth. list_within depth kind) ws c before after d
  list_empty counted is p depth h = puts_word counted (λ rest. rw is (list_none depth kind rest)) p
