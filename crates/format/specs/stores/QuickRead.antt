-- A record read region by region, each from the few words in front of its place: the same answer as the definition, where each word
-- costs a walk along all of them, but quick to compute.
use Rattle.std.specs.Prelude.{◌≡◌, Bool, ◌&&◌, length, get_or, take, drop, eqb}
use Rattle.std.proofs.Math.Path.{refl, ap}
use Rattle.std.proofs.Common.{sym, subst, ◌∙◌, arith, length-take, length-drop, get_or-drop, get_or-take}
use Rattle.std.proofs.Math.Bool.{true, false}
use mathlib.Core.List.{List, [], ◌∷◌}
use Prim.Native.Nat.{ℕ, zero, suc, ◌+◌, ◌-◌, ◌≤◌, ◌<◌}
use Rattle.std.proofs.Math.Nat.{add_assoc}
use Rattle.std.proofs.Math.Dec.{leb, ltb}
use borrow.Author.Tests.{ltb-true, lt-ltb}
use Rattle.meaning.specs.Graph.{Region, Graph}
use Rattle.meaning.specs.Lists.{distinct_from}
use Rattle.format.specs.Store.{Answer, accepted, refused, if_accepted}
use Rattle.format.specs.Read.{Read, got, bad, Reader, read_then, expect, word, within, many, counted, type, is_kind, index_right}
use Rattle.format.specs.Read.{read_value, instruction, block, opcode_for, fewest_values, most_values, fewest_targets, most_targets}
use Rattle.format.specs.Read.{terminator, read_region, settle, regions_from, Head, head, read_record, terminator_unreachable}
use Rattle.format.specs.Read.{terminator_exit, terminator_number}
use Rattle.format.specs.Refusals.{wrong_word_count}

-- What is read of a part of the words, the part at place o, is read of all of them; where the part is too short nothing is said.
abbrev MovesBy : {A : Type 0} → ℕ → Read A → Read A → Type 0
MovesBy o (got a at) s = s ≡ got a (o + at)
MovesBy o (bad n) s = Unit

follow_moves : {A B : Type 0} (o : ℕ) (r s : Read A) (k l : A → ℕ → Read B) → MovesBy o r s
    → ((a : A) (at : ℕ) → MovesBy o (k a at) (l a (o + at)))
    → MovesBy o (read_then r k) (read_then s l)
follow_moves o (got a at) s k l h more = rw h (more a at)
follow_moves o (bad n) s k l h more = tt

record PartOf (o : ℕ) (us ws : List ℕ) : Type 0 where
  pub same : (i : ℕ) → i < length us → get_or ws (o + i) 0 ≡ get_or us i 0
  pub room : length us ≤ length ws - o

module _ (o : ℕ) (us ws : List ℕ) (part : PartOf o us ws) where
  expect_moves : (b : Bool) (i : ℕ) → MovesBy o (expect b us i) (expect b ws (o + i))
  expect_moves true i = refl
  expect_moves false i = tt

  word_moves : (i : ℕ) → MovesBy o (word us i) (word ws (o + i))
  unfolding word
  word_moves i = by_test (ltb i (length us)) refl
    where
      by_test : (b : Bool) → ltb i (length us) ≡ b
          → MovesBy {A = ℕ} o (elim b [ true ↦ got (get_or us i 0) (i + 1) | false ↦ bad wrong_word_count ])
          (elim (ltb (o + i) (length ws)) [ true ↦ got (get_or ws (o + i) 0) (o + i + 1) | false ↦ bad wrong_word_count ])
      by_test true e =
          let l = ltb-true i (length us) e in
          rw (lt-ltb (o + i) (length ws) (omega (arith, part.room)), part.same i l, add_assoc o i 1)
      by_test false e = tt

  within_moves : (low high i : ℕ) → MovesBy o (within low high us i) (within low high ws (o + i))
  unfolding within
  within_moves low high i =
      follow_moves o (word us i) _ _ _ (word_moves i) λ n j.
      follow_moves o (expect (leb low n && leb n high) us j) _ _ _ (expect_moves (leb low n && leb n high) j) λ u k. refl

  many_moves : {A : Type 0} (p : Reader A) → ((i : ℕ) → MovesBy o (p us i) (p ws (o + i))) → (n i : ℕ)
      → MovesBy o (many n p us i) (many n p ws (o + i))
  unfolding many
  many_moves p h zero i = refl
  many_moves p h (suc n) i =
      follow_moves o (p us i) _ _ _ (h i) λ x j. follow_moves o (many n p us j) _ _ _ (many_moves p h n j) λ xs k. refl

  counted_moves : {A : Type 0} (low high : ℕ) (p : Reader A) → ((i : ℕ) → MovesBy o (p us i) (p ws (o + i))) → (i : ℕ)
      → MovesBy o (counted low high p us i) (counted low high p ws (o + i))
  unfolding counted
  counted_moves low high p h i = follow_moves o (within low high us i) _ _ _
      (within_moves low high i) λ n j. many_moves p h n j

  value_moves : (i : ℕ) → MovesBy o (read_value us i) (read_value ws (o + i))
  unfolding read_value
  value_moves i =
      follow_moves o (word us i) _ _ _ (word_moves i) λ k j.
      follow_moves o (expect (is_kind k) us j) _ _ _ (expect_moves (is_kind k) j) λ u l.
      follow_moves o (word us l) _ _ _ (word_moves l) λ r m.
      follow_moves o (word us m) _ _ _ (word_moves m) λ n q.
      follow_moves o (expect (index_right k n) us q) _ _ _ (expect_moves (index_right k n) q) λ v x. refl

  instruction_moves : (i : ℕ) → MovesBy o (instruction us i) (instruction ws (o + i))
  unfolding instruction
  instruction_moves i =
      follow_moves o (word us i) _ _ _ (word_moves i) λ opcode j.
      follow_moves o (within 0 255 us j) _ _ _ (within_moves 0 255 j) λ t k.
      follow_moves o (word us k) _ _ _ (word_moves k) λ cost l.
      follow_moves o (counted 0 3 read_value us l) _ _ _ (counted_moves 0 3 read_value value_moves l) λ reads m. refl

  block_moves : (i : ℕ) → MovesBy o (block us i) (block ws (o + i))
  unfolding block
  block_moves i = counted_moves 1 8 instruction instruction_moves i

  opcode_moves : (k i : ℕ) → MovesBy o (opcode_for k us i) (opcode_for k ws (o + i))
  unfolding opcode_for
  opcode_moves k i = by_test (eqb k terminator_exit)
    where
      by_test : (b : Bool) → MovesBy {A = ℕ} o (elim b [ true ↦ word us i | false ↦ got 0 i ])
          (elim b [ true ↦ word ws (o + i) | false ↦ got 0 (o + i) ])
      by_test true = word_moves i
      by_test false = refl

  terminator_moves : (i : ℕ) → MovesBy o (terminator us i) (terminator ws (o + i))
  unfolding terminator
  terminator_moves i =
      follow_moves o (within terminator_unreachable terminator_number us i) _ _ _
      (within_moves terminator_unreachable terminator_number i) λ k j.
      follow_moves o (opcode_for k us j) _ _ _ (opcode_moves k j) λ op l.
      follow_moves o (counted (fewest_values k) (most_values k) read_value us l) _ _ _ (counted_moves _ _ read_value value_moves l) λ vs m.
      follow_moves o (counted (fewest_targets k) (most_targets k) word us m) _ _ _ (counted_moves _ _ word word_moves m) λ ts n.
      follow_moves o (many (length (distinct_from [] ts)) (counted 0 4 read_value) us n) _ _ _
      (many_moves (counted 0 4 read_value) (counted_moves 0 4 read_value value_moves) (length (distinct_from [] ts)) n) λ passes q. refl

  type_moves : (i : ℕ) → MovesBy o (type us i) (type ws (o + i))
  unfolding type
  type_moves i = within_moves 1 255 i

  region_moves : (i : ℕ) → MovesBy o (read_region us i) (read_region ws (o + i))
  unfolding read_region
  region_moves i =
      follow_moves o (counted 0 4 type us i) _ _ _ (counted_moves 0 4 type type_moves i) λ inputs j.
      follow_moves o (counted 0 8 block us j) _ _ _ (counted_moves 0 8 block block_moves j) λ blocks k.
      follow_moves o (within 1 65535 us k) _ _ _ (within_moves 1 65535 k) λ limit l.
      follow_moves o (terminator us l) _ _ _ (terminator_moves l) λ end m.
      follow_moves o (counted 0 32 word us m) _ _ _ (counted_moves 0 32 word word_moves m) λ exits n. refl

-- ---- a region by the words in front of its place
front_part : (n : ℕ) (ws : List ℕ) (at : ℕ) → PartOf at (take n (drop at ws)) ws
front_part n ws at =
    let long = length-take n (drop at ws) in
    let rest = length-drop at ws in
    record {
      same = λ i l. sym (get_or-take n (drop at ws) i 0 (omega (arith, long)) ∙ get_or-drop at ws i 0);
      room = omega (arith, long, rest);
    }

-- What the first n words give, if they are enough.
abbrev or_read : {A : Type 0} → ℕ → Read A → Read A → Read A
or_read o (got a at) s = got a (o + at)
or_read o (bad n) s = s

or_same : {A : Type 0} (o : ℕ) (r s : Read A) → MovesBy o r s → s ≡ or_read o r s
or_same o (got a at) s h = h
or_same o (bad n) s h = refl

abbrev region_by : ℕ → Reader Region
region_by n ws at = or_read at (read_region (take n (drop at ws)) 0) (read_region ws at)

same_region : (n : ℕ) (ws : List ℕ) (at : ℕ) → read_region ws at ≡ region_by n ws at
same_region n ws at =
    let here : at + 0 ≡ at = omega arith in
    let us = take n (drop at ws) in
    or_same at (read_region us 0) (read_region ws at)
    (subst (λ k. MovesBy at (read_region us 0) (read_region ws k)) here (region_moves at us ws (front_part n ws at) 0))

-- `size` words in front of each region
module _ (size : ℕ) where
  unfoldable regions_by : ℕ → ℕ → List ℕ → ℕ → Answer (List Region)
  unfolding read_region
  regions_by zero r ws at = elim (eqb at (length ws)) [ true ↦ accepted [] | false ↦ refused wrong_word_count 0 ]
  regions_by (suc n) r ws at =
      settle r (region_by size ws at) λ x at'. if_accepted (regions_by n (suc r) ws at') λ xs. accepted (x ∷ xs)

  same_regions : (n r : ℕ) (ws : List ℕ) (at : ℕ) → regions_from n r ws at ≡ regions_by n r ws at
  unfolding regions_from regions_by
  same_regions zero r ws at = refl
  same_regions (suc n) r ws at =
      ap (λ y. settle r y λ x at'. if_accepted (regions_from n (suc r) ws at') λ xs. accepted (x ∷ xs)) (same_region size ws at)
      ∙ by_first (region_by size ws at) (λ at'. same_regions n (suc r) ws at')
    where
      by_first : (y : Read Region) → ((at' : ℕ) → regions_from n (suc r) ws at' ≡ regions_by n (suc r) ws at')
          → settle r y (λ x at'. if_accepted (regions_from n (suc r) ws at') λ xs. accepted (x ∷ xs))
          ≡ settle r y (λ x at'. if_accepted (regions_by n (suc r) ws at') λ xs. accepted (x ∷ xs))
      by_first (got x at') h = ap (λ a. if_accepted a λ xs. accepted (x ∷ xs)) (h at')
      by_first (bad k) h = refl

  unfoldable record_by : List ℕ → Answer Graph
  unfolding head regions_by
  record_by ws =
      settle 0 (head ws 1) λ h at.
      if_accepted (regions_by h.count 0 ws at) λ rs.
      accepted (record { entry = h.entry; test_cost = h.test_cost; constants = h.constants; regions = rs })

  same_record : (ws : List ℕ) → read_record ws ≡ record_by ws
  unfolding read_record record_by
  same_record ws = by_head (head ws 1)
    where
      whole : Head → List Region → Answer Graph
      whole h rs = accepted (record { entry = h.entry; test_cost = h.test_cost; constants = h.constants; regions = rs })

      by_head : (y : Read Head) → settle 0 y (λ h at. if_accepted (regions_from h.count 0 ws at) (whole h))
          ≡ settle 0 y (λ h at. if_accepted (regions_by h.count 0 ws at) (whole h))
      by_head (got h at) = ap (λ a. if_accepted a (whole h)) (same_regions h.count 0 ws at)
      by_head (bad k) = refl

-- Few regions have more than 64 words.
unfoldable pub quick_read_record : List ℕ → Answer Graph
unfolding record_by
quick_read_record ws = record_by 64 ws

pub same_read_record : (ws : List ℕ) → read_record ws ≡ quick_read_record ws
unfolding quick_read_record
same_read_record ws = same_record 64 ws
