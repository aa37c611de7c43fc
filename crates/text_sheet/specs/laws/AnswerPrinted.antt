-- What is printed for a store's answer is the definition's text: of a sheet's words, and of a refusal.
use Rattle.std.specs.Prelude.{◌≡◌, refl, Bool, true, false, List, ℕ, ◌*◌, ◌≤◌, ◌<◌, leb}
use Rattle.std.proofs.Math.Path.{sym, ap}
use Rattle.std.proofs.Common.{◌∙◌, append_assoc, arith, leb-true}
use Rattle.std.proofs.Math.ListN.{length}
use Rattle.meaning.specs.Graph.{Graph}
use Rattle.meaning.specs.Text.{joined}
use Rattle.meaning.specs.facts.Tests.{clash}
use Rattle.format.specs.Store.{Answer, accepted, refused, if_accepted}
use Rattle.format.specs.Accept.{accept}
use Rattle.format.specs.laws.WellRead.{step}
use Rattle.nesting.specs.Nesting.{Nested, structurize_func}
use Rattle.nesting.specs.Sheet.{Sheet, sheet_of, sheet_words, sheet_text, figure_fits, sheet_for, words_fit, answer, answer_words}
use Rattle.nesting.specs.Sheet.{answer_text}
use Rattle.nesting.specs.decoding.Decode.{words_text}
use Rattle.nesting.specs.decoding.RoundTrip.{words_text_is}
use Rattle.text.specs.Text.{labeled, refusal_text}
use Rattle.text.specs.Whole.{Written, full, Whole}
use Rattle.text.specs.laws.WholeTexts.{room_enough}
use Rattle.text.specs.laws.Lengths.{refusal_length}
use Rattle.text_sheet.specs.Answers.{SheetPrinted}

-- A refusal's line is the definition's.
refusal_is : (n w : ℕ) → refusal_text n w ≡ answer_text (refused n w)
unfolding refusal_text labeled answer_text joined
refusal_is n w = simp append_assoc

-- A sheet that a test lets pass is handed on as it is.
passed : (b : Bool) (k : ℕ) (s t : Sheet) → elim b as (λ b. Answer Sheet) [ true ↦ accepted s | false ↦ refused k 0 ] ≡ accepted t
    → (b ≡ true) × (t ≡ s)
passed true k s t h = (refl, cc)
passed false k s t h = absurd (clash (cc))

figured : (s t : Sheet) → figure_fits s ≡ accepted t → t ≡ s
figured s t h = (passed (leb s.figure 4294967295) 11 s t h).1

fitted : (lent : ℕ) (s t : Sheet) → words_fit lent s ≡ accepted t → (length (sheet_words s) ≤ lent) × (t ≡ s)
fitted lent s t h =
    let p = passed (leb (length (sheet_words s)) lent) 10 s t h in
    (leb-true _ _ p.0, p.1)

same_words : (s : Sheet) (ws : List ℕ) → ◌≡◌ {A = Answer (List ℕ)} (accepted (sheet_words s)) (accepted ws) → sheet_words s ≡ ws
same_words s ws h = cc

-- A sheet that was answered is that of a nested answer, and has no more words than were lent.
record OfNested (s : Sheet) : Type 0 where
  pub graph : Graph
  pub nested : Nested
  pub same : s ≡ sheet_of graph nested

of_nested : (store : List ℕ) (s : Sheet) → sheet_for store ≡ accepted s → OfNested s
unfolding sheet_for
of_nested store s h =
    let a = step (accept store) _ s h in
    let b = step (structurize_func a.value) _ s a.second in
    record { graph = a.value; nested = b.value; same = figured _ s b.second }

nested_text : (s : Sheet) → OfNested s → words_text (sheet_words s) ≡ sheet_text s
nested_text s x = rw x.same (words_text_is x.graph x.nested)

module _ (store : List ℕ) (lent : ℕ) where
  answer_of_nested : (s : Sheet) → answer store lent ≡ accepted s → (length (sheet_words s) ≤ lent) × OfNested s
  unfolding answer
  answer_of_nested s h =
      let a = step (sheet_for store) (words_fit lent) s h in
      let f = fitted lent a.value s a.second in
      rw f.1 (f.0, of_nested store a.value a.first)

  record Answered (ws : List ℕ) : Type 0 where
    pub text : words_text ws ≡ answer_text (answer store lent)
    pub few : length ws ≤ lent

  words_answered : (ws : List ℕ) → answer_words store lent ≡ accepted ws → Answered ws
  unfolding answer_words answer_text
  words_answered ws h =
      let a = step (answer store lent) _ ws h in
      let words = same_words a.value ws a.second in
      let f = answer_of_nested a.value a.first in
      record {
        text = ap words_text (sym words) ∙ nested_text a.value f.1 ∙ sym (ap answer_text a.first);
        few = omega (arith, f.0, ap length words);
      }

  -- The sheet's words, printed: with 16 bytes for each lent word never too few.
  module _ {ws before after : List ℕ} {r : Written} (h : answer_words store lent ≡ accepted ws) (p : SheetPrinted ws before after r) where
    pub sheet_answered : Whole (answer_text (answer store lent)) before after r
    sheet_answered = rw (words_answered ws h).text at p.text

    pub sheet_room : 16 * lent ≤ length before → r ≡ full → ⊥
    sheet_room l too_small = let whole = p.fits (omega (arith, (words_answered ws h).few)) in clash (cc)

  -- The refusal's line, printed: 20 bytes are enough.
  module _ {n w : ℕ} {before after : List ℕ} {r : Written} (p : Whole (refusal_text n w) before after r) where
    pub refusal_answered : answer_words store lent ≡ refused n w → Whole (answer_text (answer store lent)) before after r
    unfolding answer_words
    refusal_answered h = by_answer (answer store lent) h
      where
        by_answer : (x : Answer Sheet) → if_accepted x (λ s. accepted (sheet_words s)) ≡ refused n w → Whole (answer_text x) before after r
        by_answer (accepted s) e = absurd (clash (cc))
        by_answer (refused m v) e =
            let number : m ≡ n = cc in
            let word : v ≡ w = cc in
            rw (number, word, ← refusal_is n w) p

    pub refusal_room : n < 65536 → w < 65536 → 20 ≤ length before → r ≡ full → ⊥
    refusal_room a b l too_small = let whole = room_enough p (omega (arith, refusal_length n w a b)) in clash (cc)
