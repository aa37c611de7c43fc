-- What the program prints, by way of the quick walk along the store.
use Rattle.std.specs.Prelude.{◌≡◌, refl, true, List, ℕ}
use Rattle.std.proofs.Common.{ap, ◌∙◌}
use Rattle.meaning.specs.Graph.{Graph}
use Rattle.meaning.specs.Text.{Text}
use Rattle.meaning.specs.facts.Elements.{same_numbers, numbers_same}
use Rattle.format.specs.Store.{Answer, if_accepted}
use Rattle.format.specs.Accept.{accept}
use Rattle.format.specs.stores.Quick.{quick_accept, same_accept}
use Rattle.nesting.specs.Nesting.{structurize_func}
use Rattle.nesting.specs.Sheet.{sheet_of, sheet_words, figure_fits, words_fit, answer_text, sheet_for, answer, printed}
use Rattle.nesting.specs.cases.Computes.{nesting_computes}

-- what is printed once the store is accepted or refused
unfoldable printed_after : Answer Graph → Text
unfolding nesting_computes sheet_of sheet_words answer_text
printed_after x =
    answer_text (if_accepted (if_accepted x λ g. if_accepted (structurize_func g) λ y. figure_fits (sheet_of g y)) (words_fit 16384))

unfoldable pub quick_printed : List ℕ → Text
unfolding printed_after quick_accept
quick_printed s = printed_after (quick_accept s)

printed_by_accept : (s : List ℕ) → printed s ≡ printed_after (accept s)
unfolding printed answer sheet_for printed_after
printed_by_accept s = refl

pub prints : (s : List ℕ) (t : Text) → quick_printed s ≡ t → printed s ≡ t
unfolding quick_printed
prints s t e = printed_by_accept s ∙ ap printed_after (same_accept s) ∙ e

-- by a test that computes to one bit
pub prints_by_test : (s : List ℕ) (t : Text) → same_numbers (quick_printed s) t ≡ true → printed s ≡ t
prints_by_test s t e = prints s t (numbers_same (quick_printed s) t e)
