-- Sixteen bytes for each word of a record are enough for its listing: numbers, values, instructions and blocks.
use Rattle.std.specs.Prelude.{◌≡◌, Bool, true, false, get_or, eqb, leb}
use Rattle.std.proofs.Common.{ap, ◌∙◌}
use mathlib.Core.List.{List, [], ◌∷◌}
use Prim.Native.Nat.{ℕ, zero, suc, ◌+◌, ◌*◌, ◌≤◌, ◌<◌}
use native.Mathlib.Omega.{arith}
use Rattle.std.proofs.Math.ListN.{length, length-append}
use Rattle.meaning.specs.Graph.{Value, no_value, bool, Instr}
use Rattle.meaning.specs.Lists.{total, pick}
use Rattle.meaning.specs.Text.{Text, decimal, listed}
use Rattle.format.specs.Read.{got, Reader, read_then, word, many, counted, type, value_from_words, read_value, instruction, block}
use Rattle.format.specs.laws.Readers.{part, got_place}
use Rattle.record.specs.laws.Parts.{word_parts, within_parts, counted_parts}
use Rattle.record.specs.laws.PartsWithin.{value_parts, instr_parts}
use Rattle.text.specs.laws.Lengths.{five_digits, labeled_length, item_length, listed_length}
use Rattle.text_parts.specs.Listing.{dotted_text, value_listing, numbers_text, values_text, item_listing, items_text, block_text}
use Rattle.text_parts.specs.Listing.{blocks_text}

-- A word is a number of two bytes.
abbrev pub IsWord : ℕ → Type 0
IsWord n = n < 65536

dotted_length : (r k : ℕ) → IsWord r → IsWord k → length (dotted_text r k) ≤ 11
unfolding dotted_text
dotted_length r k p q = rw length-append (omega (arith, five_digits r p, labeled_length "." k q))

abbrev Short : Value → Type 0
Short v = length (value_listing v) ≤ 12

short_pick : (b : Bool) (v w : Value) → Short v → Short w → Short (pick b v w)
short_pick true v w p q = p
short_pick false v w p q = q

short_bool : (b : Bool) → Short (bool b)
unfolding value_listing
short_bool true = omega arith
short_bool false = omega arith

value_short : (k r i : ℕ) → IsWord r → IsWord i → Short (value_from_words k r i)
unfolding value_listing
value_short k r i p q =
    short_pick (eqb k 1) _ _ (omega (arith, dotted_length r i p q))
    (short_pick (eqb k 2) _ _ (omega (arith, dotted_length r i p q))
    (short_pick (eqb r 0) _ _
    (short_pick (eqb k 0) _ _ (omega (arith, labeled_length "c" i q))
    (short_pick (eqb k 4) _ _ (short_pick (leb i 1) _ _ (short_bool (eqb i 1)) none) (omega (arith, labeled_length "undef" i q))))
    none))
  where
    none : Short no_value
    none = omega (arith, labeled_length "n" 0 (omega arith))

-- The bytes of what is read are at most 16 for each word that was read.
pub record Enough (ws : List ℕ) {A : Type 0} (p : Reader A) (bytes : A → ℕ) : Type 0 where
  pub enough : (at : ℕ) {x : A} {e : ℕ} → p ws at ≡ got x e → bytes x + 16 * at ≤ 16 * e

-- The same of a list whose items are numbered: the next number is at most the place behind it, since each item takes some words.
record NumberedEnough (bytes at next e : ℕ) : Type 0 where
  pub enough : bytes + 16 * at ≤ 16 * e
  pub number : next ≤ e

-- Several that were read: the first, and the others behind it.
pub record ManyParts {A : Type 0} (p : Reader A) (ws : List ℕ) (n at : ℕ) (xs : List A) (e : ℕ) : Type 0 where
  pub value : A
  pub others : List A
  pub place : ℕ
  pub is : xs ≡ value ∷ others
  pub first : p ws at ≡ got value place
  pub rest : many n p ws place ≡ got others e

pub many_parts : {A : Type 0} (p : Reader A) (ws : List ℕ) (n at : ℕ) {xs : List A} {e : ℕ} → many (suc n) p ws at ≡ got xs e
    → ManyParts p ws n at xs e
unfolding many
many_parts p ws n at {xs} {e} h =
    let a = part (p ws at) (λ x i. read_then (many n p ws i) λ ys j. got (x ∷ ys) j) xs e h in
    let b = part (many n p ws a.place) (λ ys j. got (a.value ∷ ys) j) xs e a.second in
    record {
      value = a.value;
      others = b.value;
      place = a.place;
      is = cc;
      first = a.first;
      rest = b.first
          ∙ ap (got b.value) (got_place b.second);
    }

module _ (ws : List ℕ) where
  pub many_enough : {A : Type 0} (p : Reader A) (bytes : A → ℕ) → Enough ws p bytes → (n at : ℕ) {xs : List A} {e : ℕ}
      → many n p ws at ≡ got xs e → total bytes xs + 16 * at ≤ 16 * e
  unfolding many
  many_enough p bytes h zero at {xs} {e} q =
      let none : xs ≡ [] = cc in
      let end : e ≡ at = cc in
      rw none (omega arith)
  many_enough p bytes h (suc n) at q =
      let a = many_parts p ws n at q in
      rw a.is (omega (arith, h.enough at a.first, many_enough p bytes h n a.place a.rest))

  counted_enough : {A : Type 0} (p : Reader A) (bytes : A → ℕ) → Enough ws p bytes → (low high : ℕ)
      → Enough ws (counted low high p) (λ xs. 16 + total bytes xs)
  counted_enough p bytes h low high =
      record {
        enough = λ at {x = xs} q. omega (
          arith,
          many_enough p bytes h (length xs) (at + 1)
              (counted_parts low high p ws at q).items,
        );
      }

  -- A list joined by commas, or `-`.
  listed_enough : {A : Type 0} (p : Reader A) (show : A → Text) → Enough ws p (item_length show) → (low high : ℕ)
      → Enough ws (counted low high p) (λ xs. 15 + length (listed show xs))
  listed_enough p show h low high =
      record { enough = λ at {x = xs} q. omega (arith, (counted_enough p (item_length show) h low high).enough at q, listed_length show xs) }

module _ (ws : List ℕ) (small : (k : ℕ) → IsWord (get_or ws k 0)) where
  pub word_small : (at : ℕ) {n e : ℕ} → word ws at ≡ got n e → IsWord n
  word_small at q = rw (word_parts ws at q).is (small at)

  word_enough : Enough ws word (item_length decimal)
  word_enough =
      record { enough = λ at {x = n} q. omega (arith, (word_parts ws at q).end, five_digits n (word_small at q)) }

  type_enough : Enough ws type (item_length decimal)
  unfolding type
  type_enough =
      record {
        enough = λ at {x = n} q. let a = within_parts 1 255 ws at q in
            omega (arith, a.end, five_digits n (omega (arith, a.high_bound)));
      }

  pub words_enough : (low high : ℕ) → Enough ws (counted low high word) (λ xs. 15 + length (numbers_text xs))
  unfolding numbers_text
  words_enough = listed_enough ws word decimal word_enough

  pub types_enough : (low high : ℕ) → Enough ws (counted low high type) (λ xs. 15 + length (numbers_text xs))
  unfolding numbers_text
  types_enough = listed_enough ws type decimal type_enough

  value_enough : Enough ws read_value (item_length value_listing)
  value_enough = record {
    enough = λ at {x = v} q.
        let a = value_parts ws at q in
        let short : length (value_listing v) ≤ 12 = rw a.is (value_short (get_or ws at 0) _ _ (small (at + 1)) (small (at + 2))) in
        omega (arith, a.end);
  }

  pub values_enough : (low high : ℕ) → Enough ws (counted low high read_value) (λ vs. 15 + length (values_text vs))
  unfolding values_text
  values_enough = listed_enough ws read_value value_listing value_enough

  -- An instruction with its comma.
  item_enough : (r k : ℕ) → IsWord r → IsWord k → Enough ws instruction (λ i. suc (length (item_listing r k i)))
  unfolding item_listing
  item_enough r k p q = record {
    enough = λ at {x = i} h.
        let a = instr_parts ws at h in
        let opcode : IsWord i.opcode = rw a.opcode (small at) in
        let type : IsWord i.type = omega (arith, a.type_bound) in
        let cost : IsWord i.cost = rw a.cost (small (at + 2)) in
        simp length-append
        (omega (
          arith,
          five_digits r p,
          five_digits k q,
          five_digits i.opcode opcode,
          five_digits i.type type,
          five_digits i.cost cost,
          (values_enough 0 3).enough (at + 3) a.reads,
        ));
  }

  -- The instructions of region r.
  module _ (few : length ws ≤ 65536) (r : ℕ) (known : IsWord r) where
    items_enough : (n k at : ℕ) {b : List Instr} {e : ℕ} → k ≤ at → many n instruction ws at ≡ got b e
        → NumberedEnough (total (item_length (λ t. t)) (items_text r k b)) at (k + length b) e
    unfolding many items_text
    items_enough zero k at {b} {e} l q =
        let none : b ≡ [] = cc in
        let end : e ≡ at = cc in
        rw none (record { enough = omega arith; number = omega arith })
    items_enough (suc n) k at l q =
        let a = many_parts instruction ws n at q in
        let first = (item_enough r k known (omega (arith, (instr_parts ws at a.first).inside))).enough at a.first in
        let rest = items_enough n (suc k) a.place (omega arith) a.rest in
        rw a.is (record { enough = omega (arith, rest.enough); number = omega (arith, rest.number) })

    block_enough : (k at : ℕ) {b : List Instr} {e : ℕ} → k ≤ at → block ws at ≡ got b e
        → NumberedEnough (length (block_text r k b)) at (k + length b) e
    unfolding block block_text
    block_enough k at {b} l q =
        let a = items_enough (length b) k (at + 1) (omega arith) (counted_parts 1 8 instruction ws at q).items in
        record { enough = simp length-append (omega (arith, a.enough, listed_length (λ t. t) (items_text r k b))); number = a.number }

    blocks_many : (n k at : ℕ) {bs : List (List Instr)} {e : ℕ} → k ≤ at → many n block ws at ≡ got bs e
        → length (blocks_text r k bs) + 16 * at ≤ 16 * e
    unfolding many blocks_text
    blocks_many zero k at {bs} {e} l q =
        let none : bs ≡ [] = cc in
        let end : e ≡ at = cc in
        rw none (omega arith)
    blocks_many (suc n) k at l q =
        let a = many_parts block ws n at q in
        let first = block_enough k at l a.first in
        let rest = blocks_many n (k + length a.value) a.place first.number a.rest in
        rw (a.is, length-append) (omega (arith, first.enough))

    pub blocks_enough : Enough ws (counted 0 8 block) (λ bs. 16 + length (blocks_text r 0 bs))
    blocks_enough =
        record {
          enough = λ at {x = bs} q. omega (
            arith,
            blocks_many (length bs) 0 (at + 1) (omega arith)
                (counted_parts 0 8 block ws at q).items,
          );
        }
