-- Words put from the back: what the lent words then hold, and where what is put before them ends.
use Rattle.std.specs.Prelude.{◌≡◌, Bool, ◌||◌, List, [], ◌∷◌, ℕ, suc, ◌-◌, length, set}
use Rattle.nesting.specs.Nesting.{LookUp}
use Rattle.sheet_words.specs.declared.place.Place.{Place}

-- Words that end before place `end`, each stored where a word is lent.
unfoldable pub written : List ℕ → ℕ → List ℕ → List ℕ
written out end [] = out
written out end (x ∷ xs) = set (written out end xs) (end - suc (length xs)) x

-- Words, with the note `twice` of the values that they show.
abbrev pub Part : Type 0
Part = LookUp (List ℕ)

-- What a routine that puts a part makes of the lent words, and of the place.
pub record Puts (out : List ℕ) (at : Place) (x : Part) (out' : List ℕ) (at' : Place) : Type 0 where
  pub end : at'.end ≡ at.end - length x.value
  pub twice : at'.twice ≡ (at.twice || x.twice)
  pub words : out' ≡ written out at.end x.value

abbrev pub noted : Place → Bool → Place
noted at b = record { end = at.end; twice = at.twice || b }
