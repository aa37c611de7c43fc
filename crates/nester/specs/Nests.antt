-- What the public routine answers for every store of bytes and every number of lent words, and what both then hold.
use Rattle.std.specs.Prelude.{◌≡◌, List, ℕ, Result}
use Rattle.format.specs.Store.{accepted, refused}
use Rattle.format.specs.Accept.{accept}
use Rattle.nesting.specs.Sheet.{Sheet, answer, answer_words}
use Rattle.follows.specs.Statements.{SoundSheet}
use Rattle.accept.specs.Accepts.{Accepts}
use Rattle.state_shown.specs.Front.{SameFront}
use Rattle.sheet.specs.Written.{lent}
use Rattle.store.specs.declared.refusals.Refusal.{Refusal}
use Rattle.nester.specs.Answers.{Ends}

-- The answer and the lent words `out` are the definition's, and what was accepted is sound. Of the state's words `w` accepting the store
-- makes `loaded`. Where it is refused (1 to 8) they stay so; else those in front of word 4,400 do, the record and its index.
pub record Nests (store w w' out out' : List ℕ) (a : Result ℕ Refusal) : Type 0 where
  pub ends : Ends (answer_words store (lent out)) out out' a
  pub loaded : List ℕ
  pub verdict : Result (Unit {0}) Refusal
  pub accepts : Accepts store w loaded verdict
  pub as_loaded : (n x : ℕ) → accept store ≡ refused n x → w' ≡ loaded
  pub kept : SameFront loaded w'
  pub sound : (s : Sheet) → answer store (lent out) ≡ accepted s → SoundSheet store s
