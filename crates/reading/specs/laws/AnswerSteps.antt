-- From what a call answered to what its caller answers.
use Rattle.std.specs.Prelude.{◌≡◌, List, ℕ, take, Result, Ok, Err}
use Rattle.std.proofs.Common.{sym, ap, ◌∙◌}
use Rattle.std.specs.Result.{IsErrAnd}
use Rattle.format.specs.Read.{Reader}
use Rattle.format.specs.Places.{forget_value}
use Rattle.reading.specs.Answers.{WordRead, StepRead, Reads}
use Rattle.reading.specs.declared.words.Cursor.{Cursor}
use Rattle.reading.specs.declared.words.Fault.{Fault}

-- The exit of a `?` answers the refusal.
pub exit_is : {T E : Type 0} (r : Result T E) {why : E} → IsErrAnd r (λ e. e ≡ why) → r ≡ Err why
exit_is (Ok x) h = absurd h
exit_is (Err e) h = ap Err h

-- What was read at a cursor behind c, told from c's end.
abbrev pub at_end : ℕ → Cursor → Cursor
at_end end e = record { at = e.at; end = end }

pub word_on : {p : Reader ℕ} {w : List ℕ} {end n : ℕ} {e d : Cursor} → e.end ≡ end → WordRead p w e n d → WordRead p w (at_end end e) n d
word_on same a = let is = rw same at a.is in record { is = is; same = a.same ∙ same }

pub step_on : {A : Type 0} {p : Reader A} {w : List ℕ} {end : ℕ} {e d : Cursor} → e.end ≡ end → StepRead p w e d → StepRead p w (at_end end e) d
step_on same a = let is = rw same at a.is in record { is = is; same = a.same ∙ same }

-- What was left of a reading at a cursor is all of it.
module _ {A B : Type 0} (p : Reader A) (q : Reader B) (w : List ℕ) (c e : Cursor) (same : e.end ≡ c.end)
    (rest : forget_value (q (take c.end w) e.at) ≡ forget_value (p (take c.end w) c.at)) where
  pub reads_rest : (r : Result Cursor Fault) → Reads q w e r → Reads p w c r
  reads_rest (Ok d) a = let is = rw same at a.is in record { is = sym rest ∙ is; same = a.same ∙ same }
  reads_rest (Err why) h = let is = rw same at h in sym rest ∙ is
