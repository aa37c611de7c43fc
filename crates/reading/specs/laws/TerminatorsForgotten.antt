-- Terminators with their values forgotten, in the order in which the code reads them.
use Rattle.std.specs.Prelude.{◌≡◌, true, false, take, eqb}
use Rattle.std.proofs.Math.Path.{sym, ap}
use Rattle.std.proofs.Common.{◌∙◌}
use mathlib.Core.List.{List, []}
use Prim.Native.Nat.{ℕ, ◌+◌, ◌<◌}
use Rattle.std.proofs.Math.ListN.{length}
use Rattle.meaning.specs.Graph.{ControlInst}
use Rattle.format.specs.Read.{Read, got, bad, read_then, word, within, many, counted, read_value, opcode_for, fewest_values, most_values}
use Rattle.format.specs.Read.{fewest_targets, most_targets, edges_passed, control_inst, terminator, terminator_unreachable}
use Rattle.format.specs.Read.{terminator_exit, terminator_number}
use Rattle.format.specs.Places.{forget_value}
use Rattle.meaning.specs.facts.Tests.{clash}
use Rattle.format.specs.laws.Readers.{got_place}
use Rattle.reading.specs.laws.Forgotten.{forget_value_follow, forget_value_given, follow_forget_value, follow_follow}
use Rattle.meaning.specs.facts.Parts.{taken_inside}
use Rattle.reading.specs.Readings.{firsts, edges_lists, operands_read}
use Rattle.reading.specs.laws.Targets.{firsts_distinct, firsts_taken, many_words, words_inside}
use Rattle.meaning.specs.Lists.{distinct_from}

-- a reading of which the place is known
pub record FoundTarget {A : Type 0} (r : Read A) (e : ℕ) : Type 0 where
  pub value : A
  pub is : r ≡ got value e

pub found : {A : Type 0} (r : Read A) {e : ℕ} → forget_value r ≡ got tt e → FoundTarget r e
found (got a i) h = record { value = a; is = ap (got a) (got_place h) }
found (bad n) h = absurd (clash (cc))

module _ (k : ℕ) (ws : List ℕ) (at : ℕ) where
  pub opcode_none : eqb k terminator_exit ≡ false → forget_value (opcode_for k ws at) ≡ got tt at
  unfolding opcode_for
  opcode_none h = rw (opcode_for, h)

  pub opcode_word : eqb k terminator_exit ≡ true → forget_value (word ws at) ≡ forget_value (opcode_for k ws at)
  unfolding opcode_for
  opcode_word h = rw (opcode_for, h)

-- targets read from the lent words
module _ (n : ℕ) (w : List ℕ) (end at : ℕ) where
  pub edges_stop : {m : ℕ} → forget_value (many n word (take end w) at) ≡ bad m → forget_value (edges_lists n (take end w) at) ≡ bad m
  unfolding edges_lists
  edges_stop {m} h = by_first (many n word (take end w) at) h
    where
      by_first : (r : Read (List ℕ)) → forget_value r ≡ bad m
          → forget_value (read_then r λ ts e. many (length (distinct_from [] ts)) (counted 0 4 read_value) (take end w) e) ≡ bad m
      by_first (got ts i) q = absurd (clash (cc))
      by_first (bad j) q = q

  pub targets_inside : {e : ℕ} → forget_value (many n word (take end w) at) ≡ got tt e → (j : ℕ) → j < n
      → (at + j < end) × (at + j < length w)
  targets_inside h j l =
      let f = found (many n word (take end w) at) h in
      taken_inside w end (words_inside n (take end w) at f.is j l)

  pub edges_rest : {k e : ℕ} → k ≡ firsts w at n → forget_value (many n word (take end w) at) ≡ got tt e
      → forget_value (many k (counted 0 4 read_value) (take end w) e) ≡ forget_value (edges_lists n (take end w) at)
  unfolding edges_lists
  edges_rest {k} {e} q h =
      let f = found (many n word (take end w) at) h in
      let same : k ≡ length (distinct_from [] f.value) = q ∙ sym (firsts_taken w end at n (λ j l. (targets_inside h j l).0))
      ∙ firsts_distinct (take end w) at n ∙ ap (λ ts. length (distinct_from [] ts)) (sym (many_words n (take end w) at f.is)) in
      rw (f.is, same)

-- low and high bound the values, fewest and most the targets
module _ (k : ℕ) (ws : List ℕ) (at : ℕ) {low high : ℕ} (is_low : low ≡ fewest_values k) (is_high : high ≡ most_values k) where
  bounds : forget_value (counted (fewest_values k) (most_values k) read_value ws at) ≡ forget_value (counted low high read_value ws at)
  bounds = rw (is_low, is_high)

  pub operands_stop : {m : ℕ} → forget_value (counted low high read_value ws at) ≡ bad m → forget_value (operands_read k ws at) ≡ bad m
  unfolding operands_read
  operands_stop h = rw (bounds ∙ h)

  module _ {p : ℕ} (values : forget_value (counted low high read_value ws at) ≡ got tt p) {fewest most : ℕ}
      (is_fewest : fewest ≡ fewest_targets k) (is_most : most ≡ most_targets k) where
    places : within (fewest_targets k) (most_targets k) ws p ≡ within fewest most ws p
    places = rw (is_fewest, is_most)

    pub operands_count : {m : ℕ} → within fewest most ws p ≡ bad m → forget_value (operands_read k ws at) ≡ bad m
    unfolding operands_read
    operands_count h = rw (bounds ∙ values, places ∙ h)

    pub operands_rest : {n e : ℕ} → within fewest most ws p ≡ got n e
        → forget_value (edges_lists n ws e) ≡ forget_value (operands_read k ws at)
    unfolding operands_read
    operands_rest h = rw (bounds ∙ values, places ∙ h)

-- what stands after the opcode, with the terminator made of it
operands_made : (k op : ℕ) (ws : List ℕ) (at : ℕ) → forget_value (operands_read k ws at) ≡ forget_value
    (read_then (counted (fewest_values k) (most_values k) read_value ws at) λ vs p. read_then
    (counted (fewest_targets k) (most_targets k) word ws p) λ ts e. read_then
    (many (length (distinct_from [] ts)) (counted 0 4 read_value) ws e) λ passes j. got (control_inst k op vs (edges_passed ts passes)) j)
unfolding operands_read edges_lists counted
operands_made k op ws at = simp (forget_value_follow, follow_forget_value, follow_follow, forget_value_given)

module _ (ws : List ℕ) (at : ℕ) where
  pub terminator_stop : {m : ℕ} → within terminator_unreachable terminator_number ws at ≡ bad m → forget_value (terminator ws at) ≡ bad m
  unfolding terminator
  terminator_stop h = rw h

  pub terminator_opcode : {k p m : ℕ} → within terminator_unreachable terminator_number ws at ≡ got k p
      → forget_value (opcode_for k ws p) ≡ bad m
      → forget_value (terminator ws at) ≡ bad m
  unfolding terminator
  terminator_opcode {k} {p} {m} h j = rw h (by_opcode (opcode_for k ws p) j _)
    where
      by_opcode : (r : Read ℕ) → forget_value r ≡ bad m → (f : ℕ → ℕ → Read ControlInst) → forget_value (read_then r f) ≡ bad m
      by_opcode (got a i) q f = absurd (clash (cc))
      by_opcode (bad n) q f = q

  pub terminator_rest : {k p e : ℕ} → within terminator_unreachable terminator_number ws at ≡ got k p
      → forget_value (opcode_for k ws p) ≡ got tt e
      → forget_value (operands_read k ws e) ≡ forget_value (terminator ws at)
  unfolding terminator
  terminator_rest {k} {p} {e} h j =
      let f = found (opcode_for k ws p) j in
      rw (h, f.is) (operands_made k f.value ws e)
