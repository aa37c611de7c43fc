-- A loop of steps that may each be refused: n turns from place j on.
use Rattle.std.specs.Prelude.{◌≡◌, List, ℕ, suc, ◌-◌}
use Rattle.meaning.specs.Graph.{Graph}
use Rattle.record.specs.Stands.{Stands}
use Rattle.state_shown.specs.Front.{SameKinds}
use Rattle.state_words.specs.Totals.{Made, Done, Full}

-- What the step at a place makes of the words.
abbrev pub Steps : Type 1
Steps = ℕ → List ℕ → List ℕ → Made → Type 0

pub data Turns (Step : Steps) : ℕ → ℕ → List ℕ → List ℕ → Made → Type 0 where
  turns_over : {n j : ℕ} {l l' : List ℕ} → n ≡ 0 → l' ≡ l → Turns Step n j l l' Done
  turn_on : {n m j : ℕ} {l l₁ l' : List ℕ} {a : Made} → n ≡ suc m → Step j l l₁ Done → Turns Step m (suc j) l₁ l' a → Turns Step n j l l' a
  turn_refused : {n m j : ℕ} {l l' : List ℕ} → n ≡ suc m → Step j l l' Full → Turns Step n j l l' Full

-- Whatever the turns that are left make is made of all: the loop's invariant.
abbrev pub TurnsOn : Steps → ℕ → ℕ → List ℕ → List ℕ → Type 0
TurnsOn Step n j l₀ l = (l' : List ℕ) (a : Made) → Turns Step (n - j) j l l' a → Turns Step n 0 l₀ l' a

-- ---- Steps that leave the record leave it in all turns.
abbrev pub LeavesRecord : Steps → Type 0
LeavesRecord Step = (j : ℕ) (l l' : List ℕ) (a : Made) → Step j l l' a → SameKinds l l'

-- ---- Where the steps are by the record that stands.
abbrev pub GoesOnBy : (Graph → Steps) → ℕ → ℕ → List ℕ → List ℕ → Type 0
GoesOnBy Step n j l₀ l = (g : Graph) → Stands l₀ g → Stands l g × TurnsOn (Step g) n j l₀ l
