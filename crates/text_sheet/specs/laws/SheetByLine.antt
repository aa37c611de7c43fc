-- A sheet printed line after line is the sheet's text, whatever words stand behind it.
use Rattle.std.specs.Prelude.{◌≡◌, Bool, List, [], ◌∷◌, ◌++◌, ℕ, ◌+◌, ◌-◌, ◌<◌, length, drop}
use Rattle.std.proofs.Math.Path.{refl}
use Rattle.std.proofs.Common.{ap, ◌∙◌, append_assoc, arith, length-append, drop_at}
use Rattle.std.proofs.Math.Bool.{true, false}
use Rattle.std.proofs.lemmas.Simd.{map-map}
use Rattle.meaning.specs.Lists.{bit}
use Rattle.meaning.specs.Graph.{Graph}
use Rattle.nesting.specs.Nesting.{Outcome, untouched, whole, closed, leftover, Nested}
use Rattle.nesting.specs.Sheet.{sheet_of, sheet_words, sheet_text}
use Rattle.nesting.specs.decoding.Lines.{Line, fields, words_of, lines_words, TypedSheet, as_sheet, typed_sheet}
use Rattle.nesting.specs.decoding.LinesWritten.{sheet_written}
use Rattle.nesting.specs.decoding.Decode.{decoded, next_word, decode_line}
use Rattle.nesting.specs.decoding.RoundTrip.{line_read, some_words}
use Rattle.text_cursor.specs.Lines.{shown, line_text, lines_text, decode_first, first_text}
use Rattle.text_sheet.specs.ByLine.{LinesTo, no_more, one_more, ByLine}

line_found : (l : Line) (rest : List ℕ) → shown line_text decode_line (words_of (fields l) ++ rest) ≡ decoded (line_text l) rest
unfolding shown next_word
line_found l rest = rw (line_read l rest) refl

-- The lines behind some words, and behind them some more.
lines_by_line : (ls : List Line) (front more ws : List ℕ) (n at : ℕ) → ws ≡ front ++ (lines_words ls ++ more) → length front ≡ at
    → at + length (lines_words ls) ≡ n → LinesTo ws n at (lines_text ls)
lines_by_line [] front more ws n at is here end = let all : at ≡ n = omega arith in no_more all refl
lines_by_line (l ∷ ls) front more ws n at is here end =
    let own = words_of (fields l) in
    let rest = lines_words ls ++ more in
    let next = at + length own in
    let split : ws ≡ front ++ (own ++ rest) = is ∙ simp append_assoc in
    let size : length ws ≡ at + (length own + length rest) = ap length split ∙ simp (length-append, here) in
    let place : length ws - length rest ≡ next = omega arith in
    let on : at < next = omega (arith, some_words l) in
    let read : shown line_text decode_line (drop at ws) ≡ decoded (line_text l) rest =
    rw (split, drop_at front (own ++ rest) at here) (line_found l rest) in
    one_more (line_text l) rest read place on refl
    (lines_by_line ls (front ++ own) more ws n next (split ∙ simp append_assoc) (simp (length-append, here))
    (omega (arith, simp length-append at end)))

outcome_word : Outcome → ℕ
outcome_word untouched = 0
outcome_word whole = 1
outcome_word closed = 2
outcome_word leftover = 3

module _ (f n : ℕ) (ls : List Line) where
  abbrev typed : Outcome → Bool → TypedSheet
  typed o b = record { outcome = o; figure = f; attempts = n; twice = b; lines = ls }

  head_words : (o : Outcome) (b : Bool) → sheet_words (as_sheet (typed o b)) ≡ outcome_word o ∷ f ∷ n ∷ bit b ∷ lines_words ls
  unfolding sheet_words outcome_word
  head_words untouched b = refl
  head_words whole b = refl
  head_words closed b = refl
  head_words leftover b = refl

  first_found : (o : Outcome) (b : Bool) (rest : List ℕ)
      → shown first_text decode_first (outcome_word o ∷ f ∷ n ∷ bit b ∷ rest) ≡ decoded (first_text (typed o b)) rest
  unfolding shown next_word outcome_word
  first_found untouched true rest = refl
  first_found untouched false rest = refl
  first_found whole true rest = refl
  first_found whole false rest = refl
  first_found closed true rest = refl
  first_found closed false rest = refl
  first_found leftover true rest = refl
  first_found leftover false rest = refl

typed_by_line : (s : TypedSheet) (more : List ℕ)
    → ByLine (sheet_words (as_sheet s) ++ more) (length (sheet_words (as_sheet s))) (sheet_text (as_sheet s))
unfolding sheet_text
typed_by_line s more =
    let front = outcome_word s.outcome ∷ s.figure ∷ s.attempts ∷ bit s.twice ∷ [] in
    let rest = lines_words s.lines ++ more in
    let end : 4 + length (lines_words s.lines) ≡ length (front ++ lines_words s.lines) = omega arith in
    rw (head_words s.figure s.attempts s.lines s.outcome s.twice)
    record {
      first = first_text s;
      rest = rest;
      read = first_found s.figure s.attempts s.lines s.outcome s.twice rest;
      four = omega arith;
      others = lines_text s.lines;
      lines = lines_by_line s.lines front more (front ++ rest) (length (front ++ lines_words s.lines)) 4 refl refl end;
      all = simp map-map;
    }

pub sheet_by_line : (g : Graph) (x : Nested) (more : List ℕ)
    → let s = sheet_of g x in ByLine (sheet_words s ++ more) (length (sheet_words s)) (sheet_text s)
sheet_by_line g x more = rw (← sheet_written g x) (typed_by_line (typed_sheet g x) more)
