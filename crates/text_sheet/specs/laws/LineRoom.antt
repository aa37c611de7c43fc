-- Sixteen bytes for each word are enough for a line, and for a sheet.
use Rattle.std.specs.Prelude.{◌≡◌, refl, Bool, true, false, List, [], ◌∷◌, ℕ, zero, suc, ◌+◌, ◌*◌, ◌≤◌, ◌<◌, length, eqb}
use Rattle.std.proofs.Common.{sym, ◌∙◌, arith}
use Prim.Native.String.{String}
use Rattle.meaning.specs.Lists.{pick}
use Rattle.meaning.specs.Text.{Text, ascii, decimal, digits}
use Rattle.text.specs.laws.Lengths.{ten_digits}
use Rattle.nesting.specs.Sheet.{number_as, a_number, sheet_text}
use Rattle.nesting.specs.decoding.Lines.{TypedSheet, as_sheet, target_field}
use Rattle.nesting.specs.decoding.Decode.{Decoded, decoded, nothing, next_word, line_by, decode_line, decode_sheet, words_text, text_of_got}
use Rattle.text_fields.specs.declared.fields.Field.{Field}
use Rattle.text_fields.specs.declared.fields.Field.TheVariants.{Number, Value, Item, Condition}
use Rattle.text_cursor.specs.Lines.{TextReader, shown, fields_text, line_text, decode_first, first_text, decoded_sheet_text}
use Rattle.text_cursor.specs.Texts.{target_text, kind_text, outcome_text, twice_text}
use Rattle.text_cursor.specs.laws.WordsToTextSteps.{missing}
use Rattle.text_lines.specs.laws.LineTexts.{labeled, listed, region_shown, block_shown, select_shown, loop_shown, exit_shown}
use Rattle.text_lines.specs.laws.LineTexts.{defer_shown, no_words, line_shown, no_line, untouched_shown, whole_shown, closed_shown}
use Rattle.text_lines.specs.laws.LineTexts.{leftover_shown, no_outcome, first_shown}
use Rattle.text_lines.specs.laws.SheetTexts.{lines_within, no_more_lines, no_line_left, lines_more, sheet_shown}
use Rattle.text_fields.specs.laws.Room.{WordsOf32Bits, Fit, Fits, fits_as, fits_less, fits_say, fits_then, fits_word, fits_number}
use Rattle.text_fields.specs.laws.Room.{fits_skip}
use Rattle.text_fields.specs.laws.Room.{fits_list, fits_field}

fits_any : {gain need : ℕ} (r : ℕ → TextReader) → ((depth : ℕ) → Fits gain need (r depth)) → Fits gain need (λ ws. r (length ws) ws)
fits_any r f = record { few = λ ws s t rest e. (f (length ws)).few ws s t rest e }

fits_labeled : (label : String) (kind : Field) → Fits (0 + 1) (length (ascii label) + 0) (labeled label kind)
fits_labeled label kind = fits_then (fits_say (ascii label)) (fits_any _ λ depth. fits_field depth kind)

fits_listed : (label : String) (kind : Field) → Fits (0 + 15) (length (ascii label) + 0) (listed label kind)
fits_listed label kind = fits_then (fits_say (ascii label)) (fits_any _ λ depth. fits_list depth kind (fits_field depth kind))

fits_target : Fits 16 10 target_text
unfolding shown next_word
fits_target = fits_word 10 target_text refl λ w ws l t rest e.
    let text : t ≡ (target_field w).text = cc in
    let same : rest ≡ ws = cc in
    (rw text (by_return w l (eqb w 65535)), same)
  where
    by_return : (w : ℕ) → w < 4294967296 → (b : Bool) → length (pick b (number_as w "return") (a_number w)).text ≤ 10
    by_return w l true = omega arith
    by_return w l false = ten_digits w l

fits_kind : Fits 16 5 kind_text
unfolding shown next_word
fits_kind = fits_word 5 kind_text refl λ w ws l. by_word w ws
  where
    by_word : (w : ℕ) (ws : List ℕ) (t : Text) (rest : List ℕ) → kind_text (w ∷ ws) ≡ decoded t rest → (length t ≤ 5) × (rest ≡ ws)
    by_word zero ws t rest e = let text : t ≡ ascii " bool" = cc in (rw text (omega arith), cc)
    by_word (suc zero) ws t rest e = let text : t ≡ ascii " num" = cc in (rw text (omega arith), cc)
    by_word (suc (suc w)) ws t rest e = absurd (missing e)

-- The lead word of a line is to come, and its newline.
module _ {gain need : ℕ} {r q : TextReader} where
  fits_led : Fits gain need r → ((ws : List ℕ) → r ws ≡ q ws) → need ≤ gain + 15 → Fits 0 15 q
  fits_led f same l = fits_less (fits_as f same) 0 15 (omega arith)

fits_fields : (lead : ℕ) → Fits 0 15 (shown fields_text (line_by lead))
fits_fields zero =
    let out = fits_then (fits_listed " kids " Number) (fits_listed " out " Value) in
    fits_led (fits_then (fits_labeled "region " Number) (fits_then (fits_listed " in " Number) out)) region_shown (omega arith)
fits_fields (suc zero) = fits_led (fits_then (fits_labeled "block " Number) (fits_listed " " Item)) block_shown (omega arith)
fits_fields (suc (suc zero)) =
    let out = fits_then (fits_labeled " " Value) (fits_then (fits_listed " cases " Number) (fits_listed " out " Number)) in
    fits_led (fits_then (fits_labeled "select " Number) (fits_then fits_kind out)) select_shown (omega arith)
fits_fields (suc (suc (suc zero))) =
    let body = fits_then (fits_labeled " body " Number) (fits_labeled " repeat " Value) in
    fits_led (fits_then (fits_labeled "loop " Number) (fits_then (fits_listed " in " Value) body)) loop_shown (omega arith)
fits_fields (suc (suc (suc (suc zero)))) =
    let values = fits_then (fits_labeled " " Number) (fits_listed " in " Value) in
    fits_led (fits_then (fits_labeled "exit " Number) values) exit_shown (omega arith)
fits_fields (suc (suc (suc (suc (suc zero))))) =
    let inputs = fits_then (fits_listed " in " Value) (fits_labeled " if " Condition) in
    let target = fits_then fits_target (fits_then (fits_labeled " count " Number) inputs) in
    fits_led (fits_then (fits_labeled "defer " Number) (fits_then (fits_say (ascii " to ")) target)) defer_shown (omega arith)
fits_fields (suc (suc (suc (suc (suc (suc lead)))))) =
    record { few = λ ws s t rest e. absurd (missing (sym (no_line (suc (suc (suc (suc (suc (suc lead)))))) (omega arith) ws) ∙ e)) }

pub fits_line : Fits 0 0 (shown line_text decode_line)
fits_line = record { few = by_words }
  where
    by_words : (ws : List ℕ) → WordsOf32Bits ws → (t : Text) (rest : List ℕ) → shown line_text decode_line ws ≡ decoded t rest
        → Fit 0 0 ws t rest
    by_words [] s t rest e = absurd (missing (sym no_words ∙ e))
    by_words (lead ∷ ws) s t rest e =
        let x = (fits_then (fits_fields lead) (fits_say (ascii "\n"))).few ws (λ k. s (suc k)) t rest (line_shown lead ws ∙ e) in
        record { bytes = omega (arith, x.bytes); small = x.small }

fits_twice : Fits 16 9 twice_text
unfolding shown next_word decimal digits
fits_twice = fits_word 9 twice_text refl λ w ws l. by_word w ws
  where
    by_word : (w : ℕ) (ws : List ℕ) (t : Text) (rest : List ℕ) → twice_text (w ∷ ws) ≡ decoded t rest → (length t ≤ 9) × (rest ≡ ws)
    by_word zero ws t rest e = let text : t ≡ ascii " twice 0\n" = cc in (rw text (omega arith), cc)
    by_word (suc zero) ws t rest e = let text : t ≡ ascii " twice 1\n" = cc in (rw text (omega arith), cc)
    by_word (suc (suc w)) ws t rest e = absurd (missing e)

-- Two words have 32 bytes; `closed figure` and ten digits are 24.
fits_outcome : Fits 8 0 outcome_text
unfolding next_word
fits_outcome = record { few = by_words }
  where
    after : {n : ℕ} {q : TextReader} → Fits 16 n q → n ≤ 24 → (w : ℕ) (ws : List ℕ) → WordsOf32Bits (w ∷ ws) → (t : Text) (rest : List ℕ)
        → outcome_text (w ∷ ws) ≡ q ws → outcome_text (w ∷ ws) ≡ decoded t rest → Fit 8 0 (w ∷ ws) t rest
    after f l w ws s t rest is e =
        let x = f.few ws (λ k. s (suc k)) t rest (sym is ∙ e) in
        record { bytes = omega (arith, x.bytes); small = x.small }

    by_words : (ws : List ℕ) → WordsOf32Bits ws → (t : Text) (rest : List ℕ) → outcome_text ws ≡ decoded t rest → Fit 8 0 ws t rest
    by_words [] s t rest e = absurd (missing e)
    by_words (zero ∷ ws) s t rest e =
        after (fits_then fits_skip (fits_say (ascii "untouched figure -"))) (omega arith) 0 ws s t rest (untouched_shown ws) e
    by_words (suc zero ∷ ws) s t rest e =
        after (fits_then (fits_say (ascii "whole figure ")) fits_number) (omega arith) 1 ws s t rest (whole_shown ws) e
    by_words (suc (suc zero) ∷ ws) s t rest e =
        after (fits_then (fits_say (ascii "closed figure ")) fits_number) (omega arith) 2 ws s t rest (closed_shown ws) e
    by_words (suc (suc (suc zero)) ∷ ws) s t rest e =
        after (fits_then fits_skip (fits_say (ascii "leftover figure -"))) (omega arith) 3 ws s t rest (leftover_shown ws) e
    by_words (suc (suc (suc (suc w))) ∷ ws) s t rest e =
        absurd (missing (sym (no_outcome (suc (suc (suc (suc w)))) (omega arith) ws) ∙ e))

pub fits_first : Fits 0 0 (shown first_text decode_first)
fits_first =
    fits_less (fits_as (fits_then fits_outcome (fits_then (fits_labeled " attempts " Number) fits_twice)) first_shown) 0 0 (omega arith)

-- The lines behind the first words, or none.
from_words : (most : ℕ)
    → ((w : ℕ) (ws : List ℕ) → WordsOf32Bits (w ∷ ws) → (t : Text) (rest : List ℕ) → lines_within most (w ∷ ws) ≡ decoded t rest
    → Fit 0 0 (w ∷ ws) t rest) → Fits 0 0 (lines_within most)
from_words most some = record { few = by_words }
  where
    by_words : (ws : List ℕ) → WordsOf32Bits ws → (t : Text) (rest : List ℕ) → lines_within most ws ≡ decoded t rest → Fit 0 0 ws t rest
    by_words [] s t rest e = (fits_say []).few [] s t rest (no_more_lines most ∙ e)
    by_words (w ∷ ws) s t rest e = some w ws s t rest e

fits_lines : (most : ℕ) → Fits 0 0 (lines_within most)
fits_lines zero = from_words 0 λ w ws s t rest e. absurd (missing (sym (no_line_left w ws) ∙ e))
fits_lines (suc most) = from_words (suc most) λ w ws s t rest e.
    (fits_then fits_line (fits_lines most)).few (w ∷ ws) s t rest (lines_more most w ws ∙ e)

pub fits_sheet : Fits 0 0 decoded_sheet_text
fits_sheet = fits_as (fits_then fits_first (fits_any lines_within fits_lines)) sheet_shown

-- What is printed for the words of a sheet.
pub words_text_fits : (ws : List ℕ) → WordsOf32Bits ws → length (words_text ws) ≤ 16 * length ws
unfolding words_text shown next_word
words_text_fits ws s = by_sheet (decode_sheet ws) refl
  where
    by_sheet : (x : Decoded TypedSheet) → decode_sheet ws ≡ x → length (text_of_got x) ≤ 16 * length ws
    by_sheet (decoded sheet rest) e = omega (arith, (fits_sheet.few ws s (sheet_text (as_sheet sheet)) rest (rw e refl)).bytes)
    by_sheet nothing e = omega arith
