-- A reading that stops before its end stops with 4 or 5.
use Rattle.std.specs.Prelude.{Bool, ◌&&◌, length, get_or, eqb, ltb}
use Rattle.std.proofs.Math.Bool.{true, false}
use mathlib.Core.List.{List, []}
use Prim.Native.Nat.{ℕ, zero, suc, ◌+◌, ◌≤◌}
use native.Mathlib.Omega.{arith}
use Rattle.std.proofs.Math.Dec.{leb}
use Rattle.format.specs.Read.{Read, got, bad, Reader, read_then, expect, word, within, many, counted, type, is_kind, index_right}
use Rattle.format.specs.Read.{read_value, instruction, block, opcode_for, fewest_values, most_values, fewest_targets, most_targets}
use Rattle.format.specs.Read.{terminator, read_region, head, terminator_unreachable, terminator_exit, terminator_number}
use Rattle.format.specs.Refusals.{wrong_word_count, out_of_range}
use Rattle.meaning.specs.Lists.{distinct_from}

abbrev pub StopsReading : {A : Type 0} → Read A → Type 0
StopsReading (got a at) = Unit
StopsReading (bad n) = (wrong_word_count ≤ n) × (n ≤ out_of_range)

follow_stops : {A B : Type 0} (r : Read A) (k : A → ℕ → Read B) → StopsReading r → ((a : A) (at : ℕ) → StopsReading (k a at))
    → StopsReading (read_then r k)
follow_stops (got a at) k h more = more a at
follow_stops (bad n) k h more = h

module _ (ws : List ℕ) where
  expect_stops : (b : Bool) (at : ℕ) → StopsReading (expect b ws at)
  expect_stops true at = tt
  expect_stops false at = (omega arith, omega arith)

  word_stops : (at : ℕ) → StopsReading (word ws at)
  unfolding word
  word_stops at = by_test (ltb at (length ws))
    where
      by_test : (b : Bool) → StopsReading {A = ℕ} (elim b [ true ↦ got (get_or ws at 0) (at + 1) | false ↦ bad wrong_word_count ])
      by_test true = tt
      by_test false = (omega arith, omega arith)

  within_stops : (low high at : ℕ) → StopsReading (within low high ws at)
  unfolding within
  within_stops low high at =
      follow_stops (word ws at) _ (word_stops at) λ n i. follow_stops (expect (leb low n && leb n high) ws i) _
      (expect_stops (leb low n && leb n high) i) λ u j. tt

  many_stops : {A : Type 0} (p : Reader A) → ((at : ℕ) → StopsReading (p ws at)) → (n at : ℕ) → StopsReading (many n p ws at)
  unfolding many
  many_stops p h zero at = tt
  many_stops p h (suc n) at = follow_stops (p ws at) _ (h at) λ x i. follow_stops (many n p ws i) _ (many_stops p h n i) λ xs j. tt

  counted_stops : {A : Type 0} (low high : ℕ) (p : Reader A) → ((at : ℕ) → StopsReading (p ws at)) → (at : ℕ)
      → StopsReading (counted low high p ws at)
  unfolding counted
  counted_stops low high p h at = follow_stops (within low high ws at) _ (within_stops low high at) λ n i. many_stops p h n i

  value_stops : (at : ℕ) → StopsReading (read_value ws at)
  unfolding read_value
  value_stops at =
      follow_stops (word ws at) _ (word_stops at) λ k i.
      follow_stops (expect (is_kind k) ws i) _ (expect_stops (is_kind k) i) λ u j.
      follow_stops (word ws j) _ (word_stops j) λ r l.
      follow_stops (word ws l) _ (word_stops l) λ n m.
      follow_stops (expect (index_right k n) ws m) _ (expect_stops (index_right k n) m) λ v o. tt

  instruction_stops : (at : ℕ) → StopsReading (instruction ws at)
  unfolding instruction
  instruction_stops at =
      follow_stops (word ws at) _ (word_stops at) λ opcode i.
      follow_stops (within 0 255 ws i) _ (within_stops 0 255 i) λ t j.
      follow_stops (word ws j) _ (word_stops j) λ cost l.
      follow_stops (counted 0 3 read_value ws l) _ (counted_stops 0 3 read_value value_stops l) λ reads m. tt

  block_stops : (at : ℕ) → StopsReading (block ws at)
  unfolding block
  block_stops at = counted_stops 1 8 instruction instruction_stops at

  opcode_stops : (k at : ℕ) → StopsReading (opcode_for k ws at)
  unfolding opcode_for
  opcode_stops k at = by_test (eqb k terminator_exit)
    where
      by_test : (b : Bool) → StopsReading {A = ℕ} (elim b [ true ↦ word ws at | false ↦ got 0 at ])
      by_test true = word_stops at
      by_test false = tt

  terminator_stops : (at : ℕ) → StopsReading (terminator ws at)
  unfolding terminator
  terminator_stops at =
      follow_stops (within terminator_unreachable terminator_number ws at) _
      (within_stops terminator_unreachable terminator_number at) λ k i.
      follow_stops (opcode_for k ws i) _ (opcode_stops k i) λ op j.
      follow_stops (counted (fewest_values k) (most_values k) read_value ws j) _ (counted_stops _ _ read_value value_stops j) λ vs l.
      follow_stops (counted (fewest_targets k) (most_targets k) word ws l) _ (counted_stops _ _ word word_stops l) λ ts m.
      follow_stops (many (length (distinct_from [] ts)) (counted 0 4 read_value) ws m) _
      (many_stops (counted 0 4 read_value) (counted_stops 0 4 read_value value_stops) (length (distinct_from [] ts)) m) λ passes o. tt

  type_stops : (at : ℕ) → StopsReading (type ws at)
  unfolding type
  type_stops at = within_stops 1 255 at

  pub region_stops : (at : ℕ) → StopsReading (read_region ws at)
  unfolding read_region
  region_stops at =
      follow_stops (counted 0 4 type ws at) _ (counted_stops 0 4 type type_stops at) λ inputs i.
      follow_stops (counted 0 8 block ws i) _ (counted_stops 0 8 block block_stops i) λ blocks j.
      follow_stops (within 1 65535 ws j) _ (within_stops 1 65535 j) λ limit l.
      follow_stops (terminator ws l) _ (terminator_stops l) λ end m.
      follow_stops (counted 0 32 word ws m) _ (counted_stops 0 32 word word_stops m) λ exits o. tt

  pub head_stops : (at : ℕ) → StopsReading (head ws at)
  unfolding head
  head_stops at =
      follow_stops (within 1 32 ws at) _ (within_stops 1 32 at) λ n i.
      follow_stops (word ws i) _ (word_stops i) λ entry j.
      follow_stops (word ws j) _ (word_stops j) λ test l.
      follow_stops (counted 0 64 type ws l) _ (counted_stops 0 64 type type_stops l) λ constants m. tt
