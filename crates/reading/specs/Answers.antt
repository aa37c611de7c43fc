-- What the readers answer, by the definitions (format's Read).
use Rattle.std.specs.Prelude.{◌≡◌, List, ℕ, take, Result, Ok, Err}
use Rattle.format.specs.Read.{got, bad, Reader, many, counted}
use Rattle.format.specs.Places.{forget_value}
use Rattle.format.specs.Refusals.{wrong_word_count, out_of_range}
use Rattle.reading.specs.declared.words.Cursor.{Cursor}
use Rattle.reading.specs.declared.words.Fault.{Fault}
use Rattle.reading.specs.declared.words.Fault.TheVariants.{WrongWordCount, OutOfRange}

-- The refusal's number.
abbrev pub fault_number : Fault → ℕ
fault_number WrongWordCount = wrong_word_count
fault_number OutOfRange = out_of_range

-- A word that was read, and the cursor behind it, which has the same end.
pub record WordRead (p : Reader ℕ) (w : List ℕ) (c : Cursor) (n : ℕ) (e : Cursor) : Type 0 where
  pub is : p (take c.end w) c.at ≡ got n e.at
  pub same : e.end ≡ c.end

-- A reading of the lent words from a cursor on: a word, or the refusal.
abbrev pub ReadsWord : Reader ℕ → List ℕ → Cursor → Result (ℕ × Cursor) Fault → Type 0
ReadsWord p w c (Ok (n, e)) = WordRead p w c n e
ReadsWord p w c (Err why) = p (take c.end w) c.at ≡ bad (fault_number why)

-- The same with the value forgotten.
pub record StepRead {A : Type 0} (p : Reader A) (w : List ℕ) (c e : Cursor) : Type 0 where
  pub is : forget_value (p (take c.end w) c.at) ≡ got tt e.at
  pub same : e.end ≡ c.end

abbrev pub Reads : {A : Type 0} → Reader A → List ℕ → Cursor → Result Cursor Fault → Type 0
Reads p w c (Ok e) = StepRead p w c e
Reads p w c (Err why) = forget_value (p (take c.end w) c.at) ≡ bad (fault_number why)

-- What a call answers, where it reads by the definition p.
abbrev pub ReadsBy : {A : Type 0} → (Cursor → Result Cursor Fault → Type 0) → Reader A → List ℕ → Type 0
ReadsBy post p w = (c : Cursor) (r : Result Cursor Fault) → post c r → Reads p w c r

-- n of them, one after the other, by whatever definition each is read.
abbrev pub ReadsMany : (Cursor → Result Cursor Fault → Type 0) → ℕ → Cursor → Result Cursor Fault → Type 0
ReadsMany post n c r = (p : Reader Unit) (w : List ℕ) → ReadsBy post p w → Reads (many n p) w c r

-- a count within bounds, and so many
abbrev pub ReadsCounted : (Cursor → Result Cursor Fault → Type 0) → ℕ → ℕ → List ℕ → Cursor → Result Cursor Fault → Type 0
ReadsCounted post low high w c r = (p : Reader Unit) → ReadsBy post p w → Reads (counted low high p) w c r
