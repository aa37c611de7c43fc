-- Line 1 and the lines behind it are the whole sheet; measured where no word is lent, then written if that many are, they leave the words
-- behind the sheet as they were.
use Rattle.std.specs.Prelude.{◌≡◌, refl, Bool, ◌||◌, true, false, ℕ, ◌-◌, ◌≤◌, ◌<◌, suc, drop, get_or, take, Ok, Err}
use Rattle.std.proofs.Common.{sym, ◌∙◌, arith, length-take, take-append-drop, take-suc}
use Rattle.std.proofs.Math.Path.{ap}
use mathlib.Core.List.{List, [], ◌∷◌, ◌++◌, append_assoc}
use Rattle.std.proofs.Math.ListN.{length}
use Rattle.meaning.specs.Lists.{pick, bit}
use Rattle.meaning.specs.Graph.{Graph}
use Rattle.nesting.specs.Nesting.{NestState, Nested, Outcome, untouched, whole, closed, leftover}
use Rattle.nesting.specs.Sheet as sheet
use Rattle.state_words.specs.Sections.{word, head}
use Rattle.sheet_words.specs.declared.place.Place.{Place}
use Rattle.sheet_words.specs.PutInFront.{written}
use Rattle.sheet_words.specs.Parts.{most}
use Rattle.sheet_nodes.specs.Whole.{nested_words, head_words}
use Rattle.std.proofs.lemmas.List.{set_at}
use Rattle.sheet_words.specs.laws.PutInFrontLaws.{puts_then}
use Rattle.sheet.specs.laws.Counts.{as_long, same_if_short}
use Rattle.sheet.specs.Written.{ShowsAnswer, shows_untouched, shows_whole, shows_closed, shows_leftover, behind_head, PutsLines}
use Rattle.sheet.specs.Written.{twice_word, PutsHead, PutsSheet, far, Measures, lent, sheet_written, too_few, WritesSheet}
use Rattle.state_words.specs.Rows.{attempts_at}

-- ---- Line 1 in front of the lines.
outcome_number : Outcome → ℕ
outcome_number untouched = 0
outcome_number whole = 1
outcome_number closed = 2
outcome_number leftover = 3

pub lent_few : (out : List ℕ) → (lent out ≤ length out) × (lent out ≤ 4294967295)
lent_few out = (omega arith, omega arith)

-- ---- Words that end within the lent words.
pub written_within : (out : List ℕ) (end : ℕ) (ws : List ℕ) → length ws ≤ end → end ≤ length out
    → written out end ws ≡ take (end - length ws) out ++ (ws ++ drop end out)
unfolding written
written_within out end [] a b = let e : end - 0 ≡ end = omega arith in rw e (sym (take-append-drop end out))
written_within out end (x ∷ ws) a b =
    let i = end - suc (length ws) in
    let more : end - length ws ≡ suc i = omega arith in
    let size : length (take i out) ≡ i = rw (length-take i out) (omega arith) in
    rw (
      written_within out end ws (omega arith) b,
      more,
      take-suc out i 0 (omega arith),
      append_assoc (take i out) (get_or out i 0 ∷ [])
          (ws ++ drop end out),
    ) (set_at (take i out) (get_or out i 0) (ws ++ drop end out) x i size)

head_is : (o : Outcome) (f a : ℕ) (b : Bool) (ls : List (List sheet.Field))
    → head_words (record { outcome = o; figure = f; attempts = a; twice = b; lines = ls }) ≡ outcome_number o ∷ f ∷ a ∷ bit b ∷ []
unfolding outcome_number
head_is untouched f a b ls = refl
head_is whole f a b ls = refl
head_is closed f a b ls = refl
head_is leftover f a b ls = refl

twice_is_bit : (a b : Bool) → pick b 1 (bit a) ≡ bit (a || b)
twice_is_bit true true = refl
twice_is_bit true false = refl
twice_is_bit false true = refl
twice_is_bit false false = refl

-- What every answer has.
record Answers (s : NestState) (x : Nested) (outcome : ℕ) : Type 0 where
  pub number : outcome_number x.outcome ≡ outcome
  pub attempts : x.attempts ≡ s.attempts

answers : {g : Graph} {w : List ℕ} {s : NestState} {x : Nested} {outcome : ℕ} → ShowsAnswer g w s x outcome → Answers s x outcome
unfolding outcome_number
answers (shows_untouched e) = rw e (record { number = refl; attempts = refl })
answers (shows_whole b e) = rw e (record { number = refl; attempts = refl })
answers (shows_closed b e) = rw e (record { number = refl; attempts = refl })
answers (shows_leftover k b e) = rw e (record { number = refl; attempts = refl })

module _ (w : List ℕ) (outcome figure : ℕ) {out out₁ out₂ : List ℕ} {end : ℕ} {at₁ at₂ : Place}
    (lines : PutsLines w outcome out (record { end = end; twice = false }) out₁ at₁)
    (first : PutsHead w outcome figure out₁ at₁ out₂ at₂) where
  pub sheet_put : PutsSheet w outcome figure out end out₂ at₂.end
  unfolding nested_words sheet.sheet_of
  sheet_put g s c x shown e =
      let l = lines g s c x shown in
      let t = c.state.tables in
      let y = answers shown in
      let note : twice_word w at₁ ≡ bit x.twice = rw (l.puts.twice, t.twice, twice_is_bit s.twice l.twice, l.noted) in
      let words : outcome ∷ figure ∷ word w head attempts_at ∷ twice_word w at₁ ∷ [] ≡ head_words (sheet.sheet_of g x) =
      rw (← y.number, e, t.attempts, note, ← y.attempts)
      (sym (head_is x.outcome (sheet.sheet_of g x).figure x.attempts x.twice (sheet.sheet_of g x).lines)) in
      let p = puts_then l.puts first in
      let whole_words : (outcome ∷ figure ∷ word w head attempts_at ∷ twice_word w at₁ ∷ []) ++ behind_head x ≡ nested_words most g x =
      ap (λ z. z ++ behind_head x) words in
      record {
        begins = p.end ∙ ap (λ z. end - length z) whole_words;
        words = p.words ∙ ap (written out end) whole_words;
      }

-- ---- Measured, then written.
pub measured : (w : List ℕ) (outcome figure : ℕ) {out out' : List ℕ} {a n : ℕ} → PutsSheet w outcome figure out far out' a → n ≡ far - a
    → Measures w outcome figure n
measured w outcome figure p e g s c x shown f = let b = (p g s c x shown f).begins in e ∙ rw b

module _ (w : List ℕ) (outcome figure : ℕ) {out : List ℕ} {n : ℕ} (size : Measures w outcome figure n) where
  pub not_written : lent out < n → WritesSheet w outcome figure out out (Err (record {}))
  not_written h g s c x shown f =
      let m = size g s c x shown f in
      let long = as_long g x in
      too_few (omega arith) refl

  pub all_written : {out' : List ℕ} {a : ℕ} → n ≤ lent out → PutsSheet w outcome figure out n out' a
      → WritesSheet w outcome figure out out' (Ok n)
  all_written h p g s c x shown f =
      let m = size g s c x shown f in
      let long = as_long g x in
      let few = lent_few out in
      let ws = sheet.sheet_words (sheet.sheet_of g x) in
      let n_is : n ≡ length ws = omega arith in
      let same : nested_words most g x ≡ ws = same_if_short g x (omega arith) in
      let q = p g s c x shown f in
      let none : length ws - length ws ≡ 0 = omega arith in
      sheet_written n_is (omega arith)
      (q.words ∙ rw (same, n_is, written_within out (length ws) ws (omega arith) (omega arith), none))
