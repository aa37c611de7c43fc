-- The loop that reads n of a kind one after the other, by whatever definition each is read.
use Rattle.std.specs.Prelude.{◌≡◌, refl, List, ◌∷◌, ℕ, zero, suc, ◌+◌, ◌≤◌, ◌<◌, take, Result, Ok, Err}
use Rattle.std.proofs.Common.{sym, ◌∙◌}
use Rattle.format.specs.Read.{Read, got, bad, Reader, read_then, within, many, counted}
use Rattle.format.specs.Places.{forget_value}
use Rattle.reading.specs.Answers.{StepRead, Reads, ReadsBy, ReadsMany, ReadsCounted}
use Rattle.reading.specs.laws.Forgotten.{forget_value_follow, forget_value_given, Going, going_start, going_next, going_stop, going_end}
use Rattle.reading.specs.laws.AnswerSteps.{reads_rest}
use Rattle.reading.specs.declared.words.Cursor.{Cursor}
use Rattle.reading.specs.declared.words.Fault.{Fault}

-- The k-th turn of a loop that reads n of them from a cursor on: it stands at c.
pub record Turn {A : Type 0} (p : Reader A) (w : List ℕ) (from : Cursor) (n k : ℕ) (c : Cursor) : Type 0 where
  pub going : Going p (take from.end w) n from.at k c.at
  pub same : c.end ≡ from.end

module _ {A : Type 0} {p : Reader A} {w : List ℕ} {from : Cursor} {n : ℕ} where
  pub turn_start : Turn p w from n 0 from
  turn_start = record { going = going_start; same = refl }

  pub turn_end : {k : ℕ} {c : Cursor} → Turn p w from n k c → n ≤ k → StepRead (many n p) w from c
  turn_end t l = record { is = going_end t.going l; same = t.same }

  module _ {k : ℕ} {c : Cursor} (t : Turn p w from n k c) (l : k < n) where
    pub turn_next : {e : Cursor} → StepRead p w c e → Turn p w from n (k + 1) e
    turn_next a = let is = rw t.same at a.is in record { going = going_next t.going l is; same = a.same ∙ t.same }

    pub turn_stop : (why : Fault) → Reads p w c (Err why) → Reads (many n p) w from (Err why)
    turn_stop why h = let is = rw t.same at h in going_stop t.going l is

-- What reads by a definition reads by it with the values forgotten.
forgotten : {A : Type 0} → Reader A → Reader Unit
forgotten p ws at = forget_value (p ws at)

forget_twice : {A : Type 0} (r : Read A) → forget_value (forget_value r) ≡ forget_value r
forget_twice (got a i) = refl
forget_twice (bad m) = refl

many_forgotten : {A : Type 0} (p : Reader A) (ws : List ℕ) (n at : ℕ) → forget_value (many n (forgotten p) ws at) ≡ forget_value (many n p ws at)
unfolding many forgotten
many_forgotten p ws zero at = refl
many_forgotten {A} p ws (suc n) at = by_first (p ws at) (many_forgotten p ws n)
  where
    by_first : (r : Read A) → ((i : ℕ) → forget_value (many n (forgotten p) ws i) ≡ forget_value (many n p ws i))
        → forget_value (read_then (forget_value r) λ x i. read_then (many n (forgotten p) ws i) λ xs j. got (x ∷ xs) j)
        ≡ forget_value (read_then r λ x i. read_then (many n p ws i) λ xs j. got (x ∷ xs) j)
    by_first (got a i) h = forget_value_follow (many n (forgotten p) ws i) _ ∙ forget_value_given _ ∙ h i
        ∙ sym (forget_value_follow (many n p ws i) _ ∙ forget_value_given _)
    by_first (bad m) h = refl

counted_forgotten : {A : Type 0} (low high : ℕ) (p : Reader A) (ws : List ℕ) (at : ℕ)
    → forget_value (counted low high (forgotten p) ws at) ≡ forget_value (counted low high p ws at)
unfolding counted
counted_forgotten low high p ws at = by_count (within low high ws at)
  where
    by_count : (r : Read ℕ) → forget_value (read_then r λ n i. many n (forgotten p) ws i) ≡ forget_value (read_then r λ n i. many n p ws i)
    by_count (got n i) = many_forgotten p ws n i
    by_count (bad m) = refl

module _ {A : Type 0} (p : Reader A) (w : List ℕ) (post : Cursor → Result Cursor Fault → Type 0) (by : ReadsBy post p w) where
  by_forgotten : ReadsBy post (forgotten p) w
  unfolding forgotten
  by_forgotten c r h = by_result r (by c r h)
    where
      by_result : (r : Result Cursor Fault) → Reads p w c r → Reads (forgotten p) w c r
      by_result (Ok e) a = record { is = forget_twice (p (take c.end w) c.at) ∙ a.is; same = a.same }
      by_result (Err why) h = forget_twice (p (take c.end w) c.at) ∙ h

  pub reads_many : (n : ℕ) (c : Cursor) (r : Result Cursor Fault) → ReadsMany post n c r → Reads (many n p) w c r
  reads_many n c r all = reads_rest _ _ w c c refl (many_forgotten p _ n c.at) r (all (forgotten p) w by_forgotten)

  pub reads_counted : (low high : ℕ) (c : Cursor) (r : Result Cursor Fault) → ReadsCounted post low high w c r → Reads (counted low high p) w c r
  reads_counted low high c r all = reads_rest _ _ w c c refl (counted_forgotten low high p _ c.at) r (all (forgotten p) by_forgotten)
