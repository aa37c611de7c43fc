-- What is answered: of a store, and of a record that stands in the words (the sheet, or refusal 9, 11 or 10, in this order).
use Rattle.std.specs.Prelude.{◌≡◌, List, ℕ, ◌≤◌, Result}
use Rattle.meaning.specs.Graph.{Graph}
use Rattle.format.specs.Store.{Answer, accepted, if_accepted}
use Rattle.store.specs.Loaded.{answered, words_counted, words_after}
use Rattle.store.specs.declared.refusals.Refusal.{Refusal}
use Rattle.nesting.specs.Nesting.{structurize_func}
use Rattle.nesting.specs.Sheet as sheet
use Rattle.nesting.specs.Sheet.{sheet_of, sheet_words, figure_fits, words_fit}
use Rattle.state_shown.specs.Front.{SameFront}
use Rattle.sheet.specs.Written.{OfShownAnswer, OfSheet, lent}

-- `b` has the sheet's words, or the refusal. The lent words then begin with the sheet and go on as lent; on a refusal all are as lent.
pub record Ends (b : Answer (List ℕ)) (out out' : List ℕ) (a : Result ℕ Refusal) : Type 0 where
  pub answer : answered a ≡ words_counted b
  pub words : out' ≡ words_after out b

-- ---- The sheet's words for a record, or the refusal, where so many words are lent.
abbrev pub words_if_fit : ℕ → sheet.Sheet → Answer (List ℕ)
words_if_fit lent s = if_accepted (words_fit lent s) λ t. accepted (sheet_words t)

abbrev pub words_if_figured : ℕ → sheet.Sheet → Answer (List ℕ)
words_if_figured lent s = if_accepted (figure_fits s) (words_if_fit lent)

unfoldable pub record_words : Graph → ℕ → Answer (List ℕ)
record_words g lent = if_accepted (structurize_func g) λ x. words_if_figured lent (sheet_of g x)

abbrev pub WritesAnswer : List ℕ → ℕ → ℕ → List ℕ → List ℕ → Result ℕ Refusal → Type 0
WritesAnswer w outcome figure out out' a = OfSheet w outcome figure (λ g x. Ends (words_if_fit (lent out) (sheet_of g x)) out out' a)

-- Of a whole or closed form.
abbrev pub FormsAnswer : List ℕ → ℕ → List ℕ → List ℕ → Result ℕ Refusal → Type 0
FormsAnswer w outcome out out' a =
    OfShownAnswer w outcome (λ g s x. 1 ≤ outcome → outcome ≤ 2 → Ends (words_if_figured (lent out) (sheet_of g x)) out out' a)

pub record NestsRecord (g : Graph) (w w' out out' : List ℕ) (a : Result ℕ Refusal) : Type 0 where
  pub ends : Ends (record_words g (lent out)) out out' a
  pub front : SameFront w w'
