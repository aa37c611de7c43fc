-- What reading leaves of undefined values: their types are types that a record has. Valid, which the theorems assume, does not need it.
use Rattle.std.specs.Prelude.{◌≡◌, Bool, true, false, ◌||◌, List, [], ◌∷◌, ℕ, zero, suc, ◌≤◌, length, eqb, leb}
use Rattle.std.proofs.Common.{sym, inl, inr, arith, leb-true, eqb-true}
use Rattle.meaning.specs.Graph.{Value, const, input, instr, output, bool, undef, held, no_value, Edge, ControlInst, Region, Graph}
use Rattle.meaning.specs.Graph.{Instr, instr_kind, bool_kind, undef_kind}
use Rattle.meaning.specs.Lists.{All, pick, distinct_from}
use Rattle.meaning.specs.facts.Elements.{all_get_d}
use Rattle.meaning.specs.facts.Tests.{clash, and_both, or_either}
use Rattle.format.specs.Store.{accepted, refused}
use Rattle.format.specs.Read.{got, expect, is_kind, value_from_words, index_right, word, type, counted, many, within, read_value}
use Rattle.format.specs.Read.{block, instruction, terminator, terminator_unreachable, terminator_number}
use Rattle.format.specs.Read.{opcode_for, fewest_values, most_values, fewest_targets, most_targets, edges_passed, control_inst}
use Rattle.format.specs.Read.{read_region, regions_from, head, read_record}
use Rattle.format.specs.References.{values_of}
use Rattle.format.specs.laws.Readers.{part, expected, got_value}
use Rattle.format.specs.laws.WellRead.{counted_all, within_bounds, step, settled}
use Rattle.format.specs.Refusals.{wrong_word_count}

abbrev pub TypeRead : Value → Type 0
TypeRead (const i) = Unit
TypeRead (input r k) = Unit
TypeRead (instr r k) = Unit
TypeRead (output o) = Unit
TypeRead (bool b) = Unit
TypeRead (undef ty) = ty ≤ 255
TypeRead (held r k) = Unit
TypeRead no_value = Unit

-- ---- A value.
either : (b : Bool) (x y : Value) → TypeRead x → TypeRead y → TypeRead (pick b x y)
either true x y p q = p
either false x y p q = q

kind_few : (k : ℕ) → is_kind k ≡ true → k ≤ undef_kind
kind_few k h =
    elim (or_either (leb k instr_kind) (eqb k bool_kind || eqb k undef_kind) h) [
      | inl a ↦ (let z = leb-true k instr_kind a in omega arith)
      | inr b ↦ elim (or_either (eqb k bool_kind) (eqb k undef_kind) b) [
        | inl c ↦ (let z = eqb-true k bool_kind c in omega arith)
        | inr d ↦ (let z = eqb-true k undef_kind d in omega arith)
      ]
    ]

from_words : (k r i : ℕ) → is_kind k ≡ true → index_right k i ≡ true → TypeRead (value_from_words k r i)
from_words zero r i h t = either (eqb r 0) (const i) no_value tt tt
from_words (suc zero) r i h t = tt
from_words (suc (suc zero)) r i h t = tt
from_words (suc (suc (suc zero))) r i h t = absurd (clash (cc))
from_words (suc (suc (suc (suc zero)))) r i h t =
    either (eqb r 0) _ no_value (either (leb i 1) (bool (eqb i 1)) no_value tt tt) tt
from_words (suc (suc (suc (suc (suc zero))))) r i h t =
    either (eqb r 0) (undef i) no_value (leb-true i 255 (and_both (leb 1 i) (leb i 255) t).1) tt
from_words (suc (suc (suc (suc (suc (suc k)))))) r i h t = let z = kind_few (suc (suc (suc (suc (suc (suc k)))))) h in absurd (omega arith)

value_read : (ws : List ℕ) (at : ℕ) (v : Value) (e : ℕ) → read_value ws at ≡ got v e → TypeRead v
unfolding read_value
value_read ws at v e h =
    let a = part (word ws at) _ v e h in
    let b = part (expect (is_kind a.value) ws a.place) _ v e a.second in
    let c = part (word ws b.place) _ v e b.second in
    let d = part (word ws c.place) _ v e c.second in
    let f = part (expect (index_right a.value d.value) ws d.place) _ v e d.second in
    let is : v ≡ value_from_words a.value c.value d.value = sym (got_value f.second) in
    rw is
    (from_words a.value c.value d.value (expected (is_kind a.value) ws a.place b.first)
    (expected (index_right a.value d.value) ws d.place f.first))

-- ---- The values of a terminator, of an instruction, of a region, of all.
end_types : (k op : ℕ) (vs : List Value) (es : List Edge) → k ≤ terminator_number → All TypeRead vs
    → All TypeRead (values_of (control_inst k op vs es))
end_types zero op vs es b h = tt
end_types (suc zero) op vs es b h = h
end_types (suc (suc zero)) op vs es b h = h
end_types (suc (suc (suc zero))) op vs es b h = tt
end_types (suc (suc (suc (suc zero)))) op vs es b h = (all_get_d TypeRead (undef 0) (omega arith) vs h 0, tt)
end_types (suc (suc (suc (suc (suc zero))))) op vs es b h = (all_get_d TypeRead (undef 0) (omega arith) vs h 0, tt)
end_types (suc (suc (suc (suc (suc (suc k)))))) op vs es b h = absurd (omega arith)

terminator_types : (ws : List ℕ) (at : ℕ) (x : ControlInst) (e : ℕ) → terminator ws at ≡ got x e → All TypeRead (values_of x)
unfolding terminator
terminator_types ws at x e h =
    let a = part (within terminator_unreachable terminator_number ws at) _ x e h in
    let b = part (opcode_for a.value ws a.place) _ x e a.second in
    let c = part (counted (fewest_values a.value) (most_values a.value) read_value ws b.place) _ x e b.second in
    let d = part (counted (fewest_targets a.value) (most_targets a.value) word ws c.place) _ x e c.second in
    let f = part (many (length (distinct_from [] d.value)) (counted 0 4 read_value) ws d.place) _ x e d.second in
    let is : x ≡ control_inst a.value b.value c.value (edges_passed d.value f.value) = sym (got_value f.second) in
    let types = counted_all read_value TypeRead ws (value_read ws) (fewest_values a.value) (most_values a.value) b.place
    c.first in
    rw is
    (end_types a.value b.value c.value (edges_passed d.value f.value)
    (within_bounds terminator_unreachable terminator_number ws at a.first).1 types.all)

abbrev pub ReadsTypes : Instr → Type 0
ReadsTypes i = All TypeRead i.reads

instruction_types : (ws : List ℕ) (at : ℕ) (i : Instr) (e : ℕ) → instruction ws at ≡ got i e → ReadsTypes i
unfolding instruction
instruction_types ws at i e h =
    let a = part (word ws at) _ i e h in
    let b = part (within 0 255 ws a.place) _ i e a.second in
    let c = part (word ws b.place) _ i e b.second in
    let d = part (counted 0 3 read_value ws c.place) _ i e c.second in
    let is = sym (got_value d.second) in
    rw is (counted_all read_value TypeRead ws (value_read ws) 0 3 c.place d.first).all

block_types : (ws : List ℕ) (at : ℕ) (b : List Instr) (e : ℕ) → block ws at ≡ got b e → All ReadsTypes b
unfolding block
block_types ws at b e h = (counted_all instruction ReadsTypes ws (instruction_types ws) 1 8 at h).all

pub record TypesRead (x : Region) : Type 0 where
  pub blocks : All (All ReadsTypes) x.blocks
  pub end : All TypeRead (values_of x.terminator)

region_types : (ws : List ℕ) (at : ℕ) (x : Region) (e : ℕ) → read_region ws at ≡ got x e → TypesRead x
unfolding read_region
region_types ws at x e h =
    let a = part (counted 0 4 type ws at) _ x e h in
    let b = part (counted 0 8 block ws a.place) _ x e a.second in
    let c = part (within 1 65535 ws b.place) _ x e b.second in
    let d = part (terminator ws c.place) _ x e c.second in
    let f = part (counted 0 32 word ws d.place) _ x e d.second in
    let is = sym (got_value f.second) in
    rw is
    record {
      blocks = (counted_all block (All ReadsTypes) ws (block_types ws) 0 8 a.place b.first).all;
      end = terminator_types ws c.place d.value d.place d.first;
    }

regions_types : (n r : ℕ) (ws : List ℕ) (at : ℕ) (xs : List Region) → regions_from n r ws at ≡ accepted xs → All TypesRead xs
unfolding regions_from
regions_types zero r ws at xs h = over (eqb at (length ws)) h
  where
    over : (b : Bool) → elim b [ true ↦ accepted [] | false ↦ refused wrong_word_count 0 ] ≡ accepted xs → All TypesRead xs
    over true q = let same : xs ≡ [] = cc in rw same tt
    over false q = absurd (clash (cc))
regions_types (suc n) r ws at xs h =
    let a = settled r (read_region ws at) _ xs h in
    let b = step (regions_from n (suc r) ws a.place) _ xs a.second in
    let same : xs ≡ a.value ∷ b.value = cc in
    rw same (region_types ws at a.value a.place a.first, regions_types n (suc r) ws a.place b.value b.first)

pub record_types : (ws : List ℕ) (g : Graph) → read_record ws ≡ accepted g → All TypesRead g.regions
unfolding read_record
record_types ws g h =
    let a = settled 0 (head ws 1) _ g h in
    let b = step (regions_from a.value.count 0 ws a.place) _ g a.second in
    let is : g.regions ≡ b.value = cc in
    rw is (regions_types a.value.count 0 ws a.place b.value b.first)
