-- Values and instructions with their values forgotten, in the order in which the code reads them.
use Rattle.std.specs.Prelude.{◌≡◌, refl, true, false, List, ℕ}
use Rattle.format.specs.Read.{Read, got, bad, read_then, expect, word, within, counted, is_kind, index_right, value_from_words, read_value}
use Rattle.format.specs.Read.{instruction}
use Rattle.format.specs.Places.{forget_value}
use Rattle.format.specs.Refusals.{out_of_range}
use Rattle.reading.specs.Readings.{named_by}
use Rattle.reading.specs.laws.Forgotten.{forget_value_follow, forget_value_given}

module _ (k : ℕ) (ws : List ℕ) (at : ℕ) where
  pub named_stop : {m : ℕ} → word ws at ≡ bad m → forget_value (named_by k ws at) ≡ bad m
  unfolding named_by
  named_stop h = rw h

  pub named_short : {r p m : ℕ} → word ws at ≡ got r p → word ws p ≡ bad m → forget_value (named_by k ws at) ≡ bad m
  unfolding named_by
  named_short h j = rw (h, j)

  pub named_bad : {r p i e : ℕ} → word ws at ≡ got r p → word ws p ≡ got i e → index_right k i ≡ false
      → forget_value (named_by k ws at) ≡ bad out_of_range
  unfolding named_by
  named_bad h j t = rw (h, j, t)

  pub named_in : {r p i e : ℕ} → word ws at ≡ got r p → word ws p ≡ got i e → index_right k i ≡ true
      → forget_value (named_by k ws at) ≡ got tt e
  unfolding named_by
  named_in h j t = rw (h, j, t)

-- a test has no value to forget
forget_value_unit : (r : Read Unit) → forget_value r ≡ r
forget_value_unit (got tt i) = refl
forget_value_unit (bad n) = refl

-- what stands after the kind, with the value made of it
named_made : {B : Type 0} (k : ℕ) (f : ℕ → ℕ → B) (ws : List ℕ) (at : ℕ)
    → forget_value (named_by k ws at) ≡ forget_value (read_then (word ws at) λ r p. read_then (word ws p) λ i e. read_then
    (expect (index_right k i) ws e) λ u j. got (f r i) j)
unfolding named_by
named_made k f ws at = simp (forget_value_follow, forget_value_given, forget_value_unit)

module _ (ws : List ℕ) (at : ℕ) where
  pub value_stop : {m : ℕ} → word ws at ≡ bad m → forget_value (read_value ws at) ≡ bad m
  unfolding read_value
  value_stop h = rw h

  pub value_kind : {k p : ℕ} → word ws at ≡ got k p → is_kind k ≡ false → forget_value (read_value ws at) ≡ bad out_of_range
  unfolding read_value
  value_kind h t = rw (h, t)

  pub value_rest : {k p : ℕ} → word ws at ≡ got k p → is_kind k ≡ true → forget_value (named_by k ws p) ≡ forget_value (read_value ws at)
  unfolding read_value
  value_rest {k} {p} h t = rw (h, t) (named_made k (value_from_words k) ws p)

  pub instruction_stop : {m : ℕ} → word ws at ≡ bad m → forget_value (instruction ws at) ≡ bad m
  unfolding instruction
  instruction_stop h = rw h

  pub instruction_type : {a p m : ℕ} → word ws at ≡ got a p → within 0 255 ws p ≡ bad m → forget_value (instruction ws at) ≡ bad m
  unfolding instruction
  instruction_type h j = rw (h, j)

  pub instruction_cost : {a p b q m : ℕ} → word ws at ≡ got a p → within 0 255 ws p ≡ got b q → word ws q ≡ bad m
      → forget_value (instruction ws at) ≡ bad m
  unfolding instruction
  instruction_cost h j i = rw (h, j, i)

  pub instruction_rest : {a p b q d e : ℕ} → word ws at ≡ got a p → within 0 255 ws p ≡ got b q → word ws q ≡ got d e
      → forget_value (counted 0 3 read_value ws e) ≡ forget_value (instruction ws at)
  unfolding instruction
  instruction_rest {e = e} h j i = rw (h, j, i) (simp (forget_value_follow, forget_value_given))
