-- The text of a sheet, line by line, as the code writes it.
use Rattle.std.specs.Prelude.{◌≡◌, refl, List, [], ◌∷◌, ℕ, zero, suc, ◌+◌, ◌≤◌, ◌<◌, length, drop}
use Rattle.std.proofs.Common.{◌∙◌, arith, length-drop, drop_of_length-le, drop-cons}
use Rattle.std.proofs.lemmas.Simd.{map-map}
use Rattle.nesting.specs.Sheet.{sheet_text}
use Rattle.nesting.specs.decoding.Decode.{nothing, decode_lines, decode_line, decode_sheet, next_word}
use Rattle.text.specs.laws.BufferLaws.{wrote_none}
use Rattle.text_cursor.specs.declared.cursor.SheetCursor.{SheetCursor}
use Rattle.text_cursor.specs.Lines.{TextReader, shown, line_text, decode_first, first_text, lines_text, decoded_sheet_text}
use Rattle.text_cursor.specs.Texts.{say, ◌then◌}
use Rattle.text_cursor.specs.WordsToText.{PutsText, PutsOn}
use Rattle.text_cursor.specs.laws.WordsToTextSteps.{puts_then, puts_as, puts_there, puts_said}
use Rattle.text_cursor.specs.laws.Readers.{next_next, next_decoded}

-- Lines to the last word, `most` at most.
abbrev pub lines_within : ℕ → TextReader
lines_within most = shown lines_text (decode_lines most)

pub no_more_lines : (most : ℕ) → say [] [] ≡ lines_within most []
unfolding shown next_word decode_lines
no_more_lines zero = refl
no_more_lines (suc most) = refl

pub no_line_left : (w : ℕ) (ws : List ℕ) → lines_within zero (w ∷ ws) ≡ nothing
unfolding shown next_word decode_lines
no_line_left w ws = refl

pub lines_more : (most : ℕ) (w : ℕ) (ws : List ℕ)
    → (shown line_text decode_line then lines_within most) (w ∷ ws) ≡ lines_within (suc most) (w ∷ ws)
unfolding shown ◌then◌ decode_lines
lines_more most w ws = simp (next_next, next_decoded)

pub sheet_shown : (ws : List ℕ) → (shown first_text decode_first then λ left. lines_within (length left) left) ws ≡ decoded_sheet_text ws
unfolding shown ◌then◌ decode_sheet sheet_text
sheet_shown ws = simp (next_next, next_decoded, map-map)

-- The loop over the lines, behind line 1 (`text₀`, `c₀`): it stands at c, and `most` lines at most are left.
pub record LinesTurned (ws text₀ : List ℕ) (c₀ : SheetCursor) (text : List ℕ) (c : SheetCursor) : Type 0 where
  pub size : length text ≡ length text₀
  pub most : ℕ
  pub bound : length ws ≤ c.at + most
  pub rest : {after : List ℕ} {e : SheetCursor} → PutsText (lines_within most) ws c text after e
      → PutsText (λ left. lines_within (length left) left) ws c₀ text₀ after e

module _ {ws text₀ : List ℕ} {c₀ : SheetCursor} where
  pub lines_start : LinesTurned ws text₀ c₀ text₀ c₀
  lines_start =
      let left = length (drop c₀.at ws) in
      record {
        size = refl;
        most = left;
        bound = rw length-drop (omega arith);
        rest = puts_there {r = lines_within left} λ l. refl;
      }

  pub lines_next : {text done : List ℕ} {c d : SheetCursor} → LinesTurned ws text₀ c₀ text c → c.at < length ws → length done ≡ length text
      → PutsOn (shown line_text decode_line) ws c text done d → LinesTurned ws text₀ c₀ done d
  lines_next {text} {done} {c} {d} t l same p = by_most t.most t.bound λ after e q. t.rest q
    where
      by_most : (most : ℕ) → length ws ≤ c.at + most
          → ((after : List ℕ) (e : SheetCursor) → PutsText (lines_within most) ws c text after e
          → PutsText (λ left. lines_within (length left) left) ws c₀ text₀ after e)
          → LinesTurned ws text₀ c₀ done d
      by_most zero bound rest = absurd (omega arith)
      by_most (suc most) bound rest = record {
        size = same ∙ t.size;
        most = most;
        bound = omega (arith, p.on l);
        rest = λ q. rest _ _
            (puts_there (λ k. rw (drop-cons ws c.at 0 l) (lines_more most _ _)) (puts_then p.puts q));
      }

  pub lines_all : {before text : List ℕ} {b c : SheetCursor} → LinesTurned ws text₀ c₀ text c → length ws ≤ c.at
      → PutsText (shown first_text decode_first) ws b before text₀ c₀ → PutsText decoded_sheet_text ws b before text c
  lines_all {c = c} t l p =
      puts_as sheet_shown
      (puts_then p (t.rest (puts_there (λ k. rw (drop_of_length-le ws {i = c.at} l) (no_more_lines t.most))
      (puts_said refl wrote_none))))
