-- From words read and text written to what is answered.
use Rattle.std.specs.Prelude.{◌≡◌, Bool, List, [], ℕ, ◌+◌, ◌-◌, ◌≤◌, ◌<◌, drop, leb, Ok, Err}
use Rattle.std.proofs.Math.Path.{refl, sym, ap}
use Rattle.std.proofs.Common.{◌∙◌, arith, drop_of_length-le, le-leb, leb-true, leb-false}
use Rattle.std.proofs.Math.Bool.{true, false}
use Rattle.std.proofs.Math.ListN.{length, length-drop}
use Rattle.std.proofs.Math.Seq.{get_or-drop, take-nil}
use Rattle.meaning.specs.facts.Tests.{clash}
use Rattle.meaning.specs.Lists.{pick}
use Rattle.meaning.specs.Text.{Text}
use Rattle.text.specs.Buffer.{buffer, Wrote}
use Rattle.text.specs.Whole.{Written, full, Whole, written_to}
use Rattle.text.specs.laws.WholeTexts.{whole, room_enough}
use Rattle.nesting.specs.Sheet.{sheet_text}
use Rattle.nesting.specs.decoding.Lines.{TypedSheet, as_sheet}
use Rattle.nesting.specs.decoding.Decode.{Decoded, decoded, nothing, next_word, decode_as, decode_sheet, text_of_got, words_text}
use Rattle.text_cursor.specs.declared.cursor.SheetCursor.{SheetCursor}
use Rattle.text_sheet.specs.declared.NotPrinted.TheVariants.{Full, NoLine}
use Rattle.text_cursor.specs.Lines.{TextReader, shown, decoded_sheet_text}
use Rattle.text_cursor.specs.WordsToText.{PutsText, words_from, reading, read_text}
use Rattle.text_cursor.specs.laws.WordsToTextSteps.{from_inside, from_beyond, missing}
use Rattle.text_sheet.specs.Answers.{text_of, Printed, printed, LinePrinted, SheetPrinted}
use Rattle.text_fields.specs.laws.Room.{WordsOf32Bits, Fits}
use Rattle.text_sheet.specs.laws.LineRoom.{words_text_fits}

same_rest : {a b : List ℕ} → ◌≡◌ {A = Decoded Unit} (decoded tt a) (decoded tt b) → a ≡ b
same_rest e = cc

-- A reading that came to an end within the words.
pub record Found (read : TextReader) (ws : List ℕ) (at : ℕ) : Type 0 where
  pub text : Text
  pub rest : List ℕ
  pub is : read (drop at ws) ≡ decoded text rest
  pub inside : at ≤ length ws

module _ {read : TextReader} {ws before after : List ℕ} {c d : SheetCursor} (p : PutsText read ws c before after d) where
  pub found : d.at ≤ length ws → Found read ws c.at
  unfolding next_word
  found l = by_read (read (drop c.at ws)) refl
    where
      inside : c.at ≤ length ws
      inside = omega (arith, p.ahead)

      by_read : (x : Decoded Text) → read (drop c.at ws) ≡ x → Found read ws c.at
      by_read (decoded t rest) e = record { text = t; rest = rest; is = e; inside = inside }
      by_read nothing e =
          absurd (missing (sym (p.words ∙ ap (λ x. read_text (reading read x)) (from_inside ws c.at inside) ∙ ap read_text e)
          ∙ from_inside ws d.at l))

  pub none_found : read [] ≡ nothing → length ws < d.at → read (drop c.at ws) ≡ nothing
  unfolding next_word
  none_found none l = by_place (leb c.at (length ws)) refl
    where
      by_read : c.at ≤ length ws → (x : Decoded Text) → read (drop c.at ws) ≡ x → read (drop c.at ws) ≡ nothing
      by_read inside nothing e = e
      by_read inside (decoded t rest) e =
          absurd (missing (sym (from_beyond ws d.at l)
          ∙ (p.words ∙ ap (λ x. read_text (reading read x)) (from_inside ws c.at inside) ∙ ap read_text e)))

      by_place : (b : Bool) → leb c.at (length ws) ≡ b → read (drop c.at ws) ≡ nothing
      by_place true e = by_read (leb-true _ _ e) (read (drop c.at ws)) refl
      by_place false e = rw (drop_of_length-le ws {i = c.at} (omega (arith, leb-false c.at (length ws) e))) none

  -- What was found is written, and the next word stands behind it.
  module _ (f : Found read ws c.at) where
    here : reading read (words_from ws c.at) ≡ decoded f.text f.rest
    unfolding next_word
    here = ap (reading read) (from_inside ws c.at f.inside) ∙ f.is

    pub found_written : Wrote (buffer before c.place) f.text (buffer after d.place)
    found_written = p.bytes here

    pub found_next : d.at ≡ length ws - length f.rest
    found_next = by_place (leb d.at (length ws)) refl
      where
        there : words_from ws d.at ≡ decoded tt f.rest
        there = p.words ∙ ap read_text here

        by_place : (b : Bool) → leb d.at (length ws) ≡ b → d.at ≡ length ws - length f.rest
        by_place true e =
            let l : d.at ≤ length ws = leb-true _ _ e in
            let same : drop d.at ws ≡ f.rest = same_rest (sym (from_inside ws d.at l) ∙ there) in
            omega (arith, simp length-drop at (ap length same))
        by_place false e = absurd (missing (sym (from_beyond ws d.at (leb-false _ _ e)) ∙ there))

-- ---- a line
line_written : ℕ → Written → Printed
line_written next (Ok n) = printed next n
line_written next (Err e) = Err Full

module _ {read : TextReader} {ws : List ℕ} {at : ℕ} where
  pub line_missing : {bytes : List ℕ} → read (drop at ws) ≡ nothing → LinePrinted read ws at bytes bytes (Err NoLine)
  line_missing {bytes} e = record {
    answer = rw e refl;
    bytes = rw (e, take-nil (length bytes)) refl;
    fits = λ l too_small. clash (cc);
  }

  pub line_printed : {before after : List ℕ} {d : SheetCursor} {r : Printed} → Fits 0 0 read → WordsOf32Bits ws → Found read ws at
      → PutsText read ws (record { at = at; place = 0 }) before after d → length after ≡ length before
      → r ≡ pick (leb d.place (length after)) (printed d.at d.place) (Err Full) → LinePrinted read ws at before after r
  unfolding line_written
  line_printed {before} {after} {d} {r} fit small f p size is =
      let t = f.text in
      let w = whole t before after d.place (found_written p f) in
      let by : r ≡ pick (leb (length t) (length before)) (printed (length ws - length f.rest) (length t)) (Err Full) =
      is ∙ ap (λ room. pick (leb d.place room) (printed d.at d.place) (Err Full)) size
      ∙ ap (λ next. pick (leb d.place (length before)) (printed next d.place) (Err Full)) (found_next p f)
      ∙ sym (over_tests _ (leb d.place (length before)) _ full) ∙ ap (line_written (length ws - length f.rest)) w.answer
      ∙ over_tests _ (leb (length t) (length before)) _ full in
      record {
        answer = by ∙ rw f.is refl;
        bytes = w.bytes ∙ rw f.is refl;
        fits = λ l too_small.
            let enough = fit.few (drop at ws) (λ k. rw get_or-drop (small (at + k))) t f.rest f.is in
            let room : length t ≤ length before = omega (arith, simp length-drop at enough.bytes) in
            let line : r ≡ printed (length ws - length f.rest) (length t) = by ∙ rw (le-leb (length t) (length before) room) refl in
            clash (cc);
      }
    where
      over_tests : (next : ℕ) (b : Bool) (x y : Written) → line_written next (pick b x y) ≡ pick b (line_written next x)
          (line_written next y)
      over_tests next true x y = refl
      over_tests next false x y = refl

-- ---- a sheet
pub words_text_read : (ws : List ℕ) → words_text ws ≡ text_of (decoded_sheet_text ws)
unfolding words_text shown next_word
words_text_read ws = by_sheet (decode_sheet ws)
  where
    by_sheet : (x : Decoded TypedSheet) → text_of_got x ≡ text_of (next_word x λ s. decode_as (sheet_text (as_sheet s)))
    by_sheet (decoded s rest) = refl
    by_sheet nothing = refl

pub no_sheet : decoded_sheet_text [] ≡ nothing
unfolding shown next_word decode_sheet
no_sheet = refl

module _ {ws : List ℕ} where
  pub sheet_missing : {bytes : List ℕ} → decoded_sheet_text ws ≡ nothing → SheetPrinted ws bytes bytes (Ok 0)
  sheet_missing {bytes} e =
      let none : words_text ws ≡ [] = words_text_read ws ∙ ap text_of e in
      record {
        text = rw none (record {
          answer = rw (le-leb 0 (length bytes) (omega arith)) refl;
          bytes = rw (take-nil
              (length bytes)) refl;
        });
        fits = λ l. rw none refl;
      }

  pub sheet_printed : {before after : List ℕ} {d : SheetCursor} {r : Written} → WordsOf32Bits ws → Found decoded_sheet_text ws 0
      → PutsText decoded_sheet_text ws (record { at = 0; place = 0 }) before after d → length after ≡ length before
      → r ≡ written_to (length after) d.place → SheetPrinted ws before after r
  sheet_printed {before} {after} {d} {r} small f p size is =
      let text : words_text ws ≡ f.text = words_text_read ws ∙ ap text_of f.is in
      let by : r ≡ written_to (length before) d.place = is ∙ ap (λ room. written_to room d.place) size in
      let w : Whole (words_text ws) before after r = rw (text, by) (whole f.text before after d.place (found_written p f)) in
      record { text = w; fits = λ l. room_enough w (omega (arith, words_text_fits ws small)) }
