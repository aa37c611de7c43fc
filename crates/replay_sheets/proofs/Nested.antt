-- What printing a sheet leaves, compared with what is listed.
use mathlib.Core.Path.{◌≡◌, refl, ap, ◌∙◌}
use mathlib.Core.Bool.{Bool, true, false}
use mathlib.Core.List.{List}
use Prim.Native.Nat.{ℕ, ◌-◌, ◌≤◌}
use native.Mathlib.Omega.{arith}
use lib.ListN.{length, take, drop, length-drop, length-replicate}
use lib.Seq.{take_all}
use Rattle.format.specs.Store.{Answer, accepted, refused}
use Rattle.store.specs.Loaded.{words_after}
use Rattle.nesting.specs.Sheet.{answer_words, printed}
use Rattle.std.specs.Prelude.{Ok}
use Rattle.text.specs.Whole.{Written, full, InFront}
use Rattle.text.specs.laws.WholeTexts.{in_front}
use Rattle.sheet.specs.Written.{lent}
use Rattle.text_nest.specs.Prints.{Prints}
use Rattle.vectors.specs.Parts.{behind, hex_bytes, line_and_answer, answer_of}
use Rattle.vectors.specs.Same.{same_list}
use Rattle.replay_sheets.specs.Sheets.{lent_words, put_over, words_left, words_from_bytes, listed_words, listed_text, is_nested}

pub lent_length : length lent_words ≡ 16384
unfolding lent_words
lent_length = length-replicate {A = ℕ} 16384 2779096485

lent_all : lent lent_words ≡ 16384
lent_all = rw lent_length

as_left : (out : List ℕ) (b : Answer (List ℕ)) → words_after out b ≡ words_left out b
as_left out (accepted ws) = refl
as_left out (refused n w) = refl

module _ {store w w' out out' text text' : List ℕ} {r : Written} (p : Prints store w w' out out' text text' r)
    (as_lent : out ≡ lent_words) where
  lent_here : lent out ≡ 16384
  lent_here = ap lent as_lent ∙ lent_all

  pub printed_never_full : 262144 ≤ length text → r ≡ full → ⊥
  printed_never_full h = let l = lent_here in p.fits (omega arith) (omega arith)

  pub printed_front : {n : ℕ} → r ≡ Ok n → InFront (printed store) text' n
  unfolding printed
  printed_front is = rw lent_here at (in_front p.whole is)

  pub words_kept : out' ≡ words_left lent_words (answer_words store 16384)
  words_kept = p.nests.ends.words ∙ as_left out (answer_words store (lent out)) ∙ rw (lent_here, as_lent)

-- &listed[end..] behind the line of digits.
pub behind_line : (listed : List ℕ) {end : ℕ} → end ≡ behind 10 listed → take (length listed - end) (drop end listed) ≡ listed_text listed
behind_line listed {end} e =
    take_all (length listed - end) (drop end listed) (omega (arith, length-drop end listed)) ∙ ap (λ k. drop k listed) e

pub answer_within : (v : List ℕ) → length (answer_of v) ≤ length v
unfolding answer_of line_and_answer
answer_within v = simp length-drop (omega arith)

-- These bytes are those of the line of digits.
module _ (store listed : List ℕ) {out' : List ℕ} (left : out' ≡ words_left lent_words (answer_words store 16384)) (bytes : List ℕ)
    (line : bytes ≡ hex_bytes (take (behind 10 listed) listed)) {lent : List ℕ} (as_lent : lent ≡ lent_words) {b : Bool}
    (compared : b ≡ same_list out' (put_over (words_from_bytes bytes) lent)) where
  same_words : b ≡ same_list (words_left lent_words (answer_words store 16384)) (put_over (listed_words listed) lent_words)
  same_words =
      compared
      ∙ ap (λ o. same_list o (put_over (words_from_bytes bytes) lent)) left
      ∙ ap (λ l. same_list (words_left lent_words (answer_words store 16384)) (put_over (words_from_bytes l) lent)) line
      ∙ ap (λ l. same_list (words_left lent_words (answer_words store 16384)) (put_over (listed_words listed) l)) as_lent

  pub words_differ : b ≡ false → false ≡ is_nested store listed
  unfolding is_nested
  words_differ e = rw (← same_words, e)

  pub text_decides : b ≡ true → {r : Bool} → r ≡ same_list (printed store) (listed_text listed) → r ≡ is_nested store listed
  unfolding is_nested
  text_decides e is = is ∙ rw (← same_words, e)
