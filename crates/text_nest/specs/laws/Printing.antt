-- From the nester's answer to what is printed of it.
use Rattle.std.specs.Prelude.{◌≡◌, refl, List, ℕ, ◌<◌, length, take, drop, Ok, Err}
use Rattle.std.proofs.Common.{take_at}
use Rattle.meaning.specs.facts.Tests.{clash}
use Rattle.format.specs.Store.{Answer, accepted, refused}
use Rattle.store.specs.Loaded.{words_counted, words_after}
use Rattle.nesting.specs.Sheet.{answer_words}
use Rattle.text.specs.Text.{refusal_text}
use Rattle.text.specs.Whole.{Written, Whole}
use Rattle.sheet.specs.Written.{lent}
use Rattle.text_sheet.specs.Answers.{SheetPrinted}
use Rattle.text_sheet.specs.laws.AnswerPrinted.{sheet_answered, sheet_room, refusal_answered, refusal_room}
use Rattle.store.specs.Refusals.{refusal_number, refusal_word}
use Rattle.store.specs.declared.refusals.Refusal.{Refusal}
use Rattle.nester.specs.Nests.{Nests}
use Rattle.text_nest.specs.Prints.{Prints}

module _ {store old new out out' text text' : List ℕ} {r : Written} where
  pub sheet_printed : {n m : ℕ} → Nests store old new out out' (Ok n) → m ≡ n → SheetPrinted (take m out') text text' r
      → Prints store old new out out' text text' r
  sheet_printed {n} h same p = go (answer_words store (lent out)) refl h.ends.answer h.ends.words
    where
      go : (b : Answer (List ℕ)) → answer_words store (lent out) ≡ b → accepted n ≡ words_counted b → out' ≡ words_after out b
          → Prints store old new out out' text text' r
      go (accepted ws) e is d =
          let size : length ws ≡ n = cc in
          let front : take n out' ≡ ws = rw d (take_at ws (drop (length ws) out) n size) in
          let q : SheetPrinted ws text text' r = rw (same, front) at p in
          record {
            whole = sheet_answered store (lent out) e q;
            fits = λ a b. sheet_room store (lent out) e q a;
            told = Ok n;
            nests = h;
          }
      go (refused k x) e is d = absurd (clash (cc))

  pub refusal_printed : {why : Refusal} → Nests store old new out out' (Err why) → refusal_number why < 65536 → refusal_word why < 65536
      → Whole (refusal_text (refusal_number why) (refusal_word why)) text text' r → Prints store old new out out' text text' r
  refusal_printed {why} h a b p =
      record {
        whole = refusal_answered store (lent out) p (by (answer_words store (lent out)) h.ends.answer);
        fits = λ i j. refusal_room store (lent out) p a b j;
        told = Err why;
        nests = h;
      }
    where
      by : (b : Answer (List ℕ)) → refused (refusal_number why) (refusal_word why) ≡ words_counted b
          → b ≡ refused (refusal_number why) (refusal_word why)
      by (accepted ws) is = absurd (clash (cc))
      by (refused m y) is = cc
