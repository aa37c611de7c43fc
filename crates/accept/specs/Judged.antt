-- Reading and references as one answer.
use Rattle.std.specs.Prelude.{◌≡◌, refl, List, ℕ}
use Rattle.meaning.specs.Graph.{Graph}
use Rattle.format.specs.Store.{Answer, accepted, refused}
use Rattle.format.specs.Accept.{with_references}
use Rattle.meaning.specs.facts.Tests.{clash}
use Rattle.record.specs.Outcome.{forget}
use Rattle.record.specs.Stands.{Stands}

-- The verdict on a record by what reading answers; `new` are the lent words then.
pub record Judged (r : Answer Graph) (new : List ℕ) (a : Answer Unit) : Type 0 where
  pub answer : a ≡ forget (with_references r)
  pub stands : (g : Graph) → with_references r ≡ accepted g → Stands new g

-- An answer that is no refusal, and what was taken.
pub record WordsGiven {A : Type 0} (a : Answer A) : Type 0 where
  pub value : A
  pub is : a ≡ accepted value

pub words_given : {A : Type 0} (a : Answer A) → accepted tt ≡ forget a → WordsGiven a
words_given (accepted x) h = record { value = x; is = refl }
words_given (refused n w) h = absurd (clash (cc))

pub not_given : {A : Type 0} (a : Answer A) {n w : ℕ} → refused n w ≡ forget a → a ≡ refused n w
not_given (accepted x) h = absurd (clash (cc))
not_given (refused m v) h = cc
