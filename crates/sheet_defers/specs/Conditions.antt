-- A condition in words: t, f and u are 1, 2 and 3; a merge is 4, its node, and its parts with their count.
use Rattle.std.specs.Prelude.{List, [], ℕ, get_or}
use Rattle.nesting.specs.Nesting.{plain, LazyCond, undef_cond, false_cond, true_cond, merge}
use Rattle.nesting.specs.Sheet as sheet
use Rattle.state_shown.specs.Tables.{ShowsCond}
use Rattle.sheet_words.specs.declared.place.Place.{Place}
use Rattle.sheet_words.specs.PutInFront.{Part, Puts}

-- What a routine that puts condition c makes of the lent words, and of the place.
abbrev pub PutsCondition : List ℕ → ℕ → List ℕ → Place → List ℕ → Place → Type 0
PutsCondition w c out at out' at' =
    (t : LazyCond) → ShowsCond w c t → Puts out at (plain (sheet.condition t).words) out' at'

abbrev fields_of : LazyCond → List sheet.Field
fields_of true_cond = []
fields_of false_cond = []
fields_of undef_cond = []
fields_of (merge n k v ts) = sheet.conditions ts

-- Part j of a merge.
abbrev pub condition_part : LazyCond → ℕ → Part
condition_part t j = plain (get_or (fields_of t) j (sheet.label "")).words
