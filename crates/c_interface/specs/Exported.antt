-- The answers as numbers, for callers in C and Rust.
use Rattle.std.specs.Prelude.{◌≡◌, List, ℕ, ◌+◌, ◌*◌, ◌/◌, ◌%◌, length, Result, Ok, Err}
use Rattle.format.specs.Store.{accepted, refused, written}
use Rattle.format.specs.Accept.{accept}
use Rattle.accept.specs.Judged.{WordsGiven}
use Rattle.accept.specs.Accepts.{Accepts}
use Rattle.nesting.specs.Sheet.{answer_words}
use Rattle.sheet.specs.Written.{lent}
use Rattle.nester.specs.Nests.{Nests}
use Rattle.store.specs.Refusals.{refusal_number, refusal_word}
use Rattle.store.specs.Writes.{words_of, WritesStore}
use Rattle.store.specs.declared.refusals.Refusal.{Refusal}

-- A record is 0; a refusal its number times 65,536, and its word.
abbrev pub as_number : Result (Unit {0}) Refusal → ℕ
as_number (Ok x) = 0
as_number (Err why) = refusal_number why * 65536 + refusal_word why

-- The answer is 0 exactly if the store is accepted: no refusal has number 0.
pub record AcceptExported (s old new : List ℕ) (a : ℕ) : Type 0 where
  pub answer : Result (Unit {0}) Refusal
  pub accepts : Accepts s old new answer
  pub is : a ≡ as_number answer
  pub if_accepted : WordsGiven (accept s) → a ≡ 0
  pub only_if_accepted : a ≡ 0 → WordsGiven (accept s)
  pub if_refused : (n w : ℕ) → accept s ≡ refused n w → (a / 65536 ≡ n) × (a % 65536 ≡ w)

-- ---- A sheet is its number of words; a refusal its number times 4,294,967,296, and its word.
abbrev pub nested_number : Result ℕ Refusal → ℕ
nested_number (Ok n) = n
nested_number (Err why) = refusal_number why * 4294967296 + refusal_word why

-- Below 4,294,967,296 exactly if the store nests and its sheet fits: no refusal has number 0.
pub record NestExported (s old new out out' : List ℕ) (a : ℕ) : Type 0 where
  pub answer : Result ℕ Refusal
  pub nests : Nests s old new out out' answer
  pub is : a ≡ nested_number answer
  pub if_sheet : (ws : List ℕ) → answer_words s (lent out) ≡ accepted ws → a ≡ length ws
  pub if_refused : (n w : ℕ) → answer_words s (lent out) ≡ refused n w → (a / 4294967296 ≡ n) × (a % 4294967296 ≡ w)

-- ---- A store that was written is its number of bytes; a refusal its number times 65,536, and its word.
abbrev pub written_number : Result ℕ Refusal → ℕ
written_number (Ok n) = n
written_number (Err why) = refusal_number why * 65536 + refusal_word why

-- The state's words stay. The answer is below 65,536 exactly if the store was written: no refusal has number 0.
pub record WriteExported (w w' out out' : List ℕ) (a : ℕ) : Type 0 where
  pub answer : Result ℕ Refusal
  pub writes : WritesStore w out out' answer
  pub kept : w' ≡ w
  pub is : a ≡ written_number answer
  pub if_written : (bs : List ℕ) → written (words_of w) (length out) ≡ accepted bs → a ≡ length bs
  pub if_refused : (n x : ℕ) → written (words_of w) (length out) ≡ refused n x → (a / 65536 ≡ n) × (a % 65536 ≡ x)
