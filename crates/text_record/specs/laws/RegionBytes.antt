-- Sixteen bytes for each word of a record are enough for its listing: terminators, regions, and the whole.
use Rattle.std.specs.Prelude.{◌≡◌, Bool, get_or, eqb}
use Rattle.std.proofs.Math.Path.{ap}
use Rattle.std.proofs.Math.Bool.{true, false}
use mathlib.Core.List.{List, [], ◌∷◌, map}
use Prim.Native.Nat.{ℕ, zero, suc, ◌+◌, ◌*◌, ◌≤◌}
use native.Mathlib.Omega.{arith}
use Rattle.std.proofs.Math.ListN.{length, length-append}
use Rattle.meaning.specs.Graph.{Value, Edge, edges_of, Region, Graph}
use Rattle.meaning.specs.Lists.{total, is_in, All}
use Rattle.meaning.specs.Text.{decimal}
use Rattle.format.specs.Store.{accepted}
use Rattle.format.specs.Read.{got, word, many, counted, type, read_value, opcode_for, fewest_values, fewest_targets, edges_passed}
use Rattle.format.specs.Read.{control_inst, terminator, read_region, regions_from, head, read_record}
use Rattle.format.specs.References.{first_edges}
use Rattle.format.specs.laws.Readers.{many_length}
use Rattle.format.specs.laws.WellRead.{counted_all}
use Rattle.record.specs.laws.Parts.{word_parts, within_parts, counted_parts, region_parts, settled_at, then, accepted_value, regions_many}
use Rattle.record.specs.laws.PartsWithin.{terminator_parts, head_parts}
use Rattle.fields.specs.laws.Terminators.{control_edges, edges_length}
use Rattle.fields.specs.laws.Passed.{edges_targets}
use Rattle.text.specs.Text.{text_of_each}
use Rattle.text.specs.laws.Lengths.{five_digits, first_length}
use Rattle.text_parts.specs.Listing.{value_listing, numbers_text, values_text, terminator_text, pass_text, passes_text, region_text}
use Rattle.text_parts.specs.Listing.{regions_text, listing_of}
use Rattle.text_record.specs.laws.PassLines.{pass_lists}
use Rattle.text_record.specs.laws.ItemBytes.{IsWord, Enough, many_parts, many_enough, word_small, words_enough, types_enough}
use Rattle.text_record.specs.laws.ItemBytes.{values_enough, blocks_enough}

terminator_length : (k op : ℕ) (vs : List Value) (es : List Edge) → k ≤ 5 → IsWord op → fewest_values k ≤ length vs
    → fewest_targets k ≤ length es → length (terminator_text (control_inst k op vs es)) ≤ 17 + length (values_text vs) + length
    (numbers_text (map (λ e. e.target) es))
unfolding terminator_text
terminator_length zero op vs es l s v t = omega arith
terminator_length (suc zero) op vs es l s v t = simp length-append (omega arith)
terminator_length (suc (suc zero)) op vs es l s v t = simp length-append (omega (arith, five_digits op s))
terminator_length (suc (suc (suc zero))) op vs [] l s v t = absurd (omega arith)
terminator_length (suc (suc (suc zero))) op vs (e ∷ es) l s v t =
    simp length-append (omega (arith, first_length decimal e.target (map (λ e. e.target) es)))
terminator_length (suc (suc (suc (suc zero)))) op [] es l s v t = absurd (omega arith)
terminator_length (suc (suc (suc (suc zero)))) op (x ∷ vs) es l s v t = simp length-append (omega (arith, first_length value_listing x vs))
terminator_length (suc (suc (suc (suc (suc zero))))) op [] es l s v t = absurd (omega arith)
terminator_length (suc (suc (suc (suc (suc zero))))) op (x ∷ vs) es l s v t =
    simp length-append (omega (arith, first_length value_listing x vs))
terminator_length (suc (suc (suc (suc (suc (suc k)))))) op vs es l s v t = absurd (omega arith)

-- The bytes of a pass line, by its values.
abbrev pass_bytes : List Value → ℕ
pass_bytes vs = 15 + length (values_text vs)

pass_length : (e : Edge) → IsWord e.target → length (pass_text e) ≤ pass_bytes e.inputs
unfolding pass_text
pass_length e s = simp length-append (omega (arith, five_digits e.target s))

pass_lines : (es : List Edge) (seen : List ℕ) → All IsWord (map (λ e. e.target) es)
    → length (text_of_each pass_text (first_edges seen es)) ≤ total (λ e. pass_bytes e.inputs) (first_edges seen es)
unfolding first_edges text_of_each
pass_lines [] seen s = omega arith
pass_lines (e ∷ es) seen s = by_test (is_in e.target seen) (pass_lines es seen s.1) (pass_lines es (e.target ∷ seen) s.1)
  where
    Fits : List Edge → Type 0
    Fits ds = length (text_of_each pass_text ds) ≤ total (λ d. pass_bytes d.inputs) ds

    by_test : (b : Bool) → Fits (first_edges seen es) → Fits (first_edges (e.target ∷ seen) es)
        → Fits (elim b [ true ↦ first_edges seen es | false ↦ e ∷ first_edges (e.target ∷ seen) es ])
    by_test true again new = again
    by_test false again new = rw length-append (omega (arith, pass_length e s.0))

listing_length : (g : Graph) → IsWord (length g.regions) → IsWord g.entry → IsWord g.test_cost
    → length (listing_of g) ≤ 55 + length (numbers_text g.constants) + length (regions_text 0 g.regions)
unfolding listing_of
listing_length g n e t =
    simp length-append (omega (arith, five_digits (length g.regions) n, five_digits g.entry e, five_digits g.test_cost t))

record Opcode (op at e : ℕ) : Type 0 where
  pub bound : IsWord op
  pub end : at ≤ e

module _ (ws : List ℕ) (small : (k : ℕ) → IsWord (get_or ws k 0)) where
  opcode_bounds : (k at : ℕ) {op e : ℕ} → opcode_for k ws at ≡ got op e → Opcode op at e
  unfolding opcode_for
  opcode_bounds k at {op} {e} h = by_test (eqb k 2) h
    where
      by_test : (b : Bool) → elim b [ true ↦ word ws at | false ↦ got 0 at ] ≡ got op e → Opcode op at e
      by_test true q = record { bound = word_small ws small at q; end = omega (arith, (word_parts ws at q).end) }
      by_test false q =
          let none : 0 ≡ op = cc in
          let end : at ≡ e = cc in
          record { bound = omega arith; end = omega arith }

  -- A terminator's line and its pass lines.
  terminator_enough : Enough ws terminator (λ x. length (terminator_text x) + length (passes_text (edges_of x)))
  unfolding passes_text
  terminator_enough = record {
    enough = λ at h.
        let t = terminator_parts ws at h in
        let o = opcode_bounds t.k (at + 1) t.opcode in
        let v = counted_parts _ _ read_value ws t.values_at t.values in
        let u = counted_parts _ _ word ws t.targets_at t.targets in
        let es = edges_passed t.ts t.passes in
        let size : length es ≡ length t.ts = edges_length t.ts t.passes in
        let targets : map (λ e. e.target) es ≡ t.ts = edges_targets t.ts t.passes in
        let same : length (numbers_text (map (λ e. e.target) es)) ≡ length (numbers_text t.ts) =
        ap (λ l. length (numbers_text l)) targets in
        let all = (counted_all word IsWord ws (λ i x j q. word_small ws small i q) _ _ t.targets_at t.targets).all in
        let lists = pass_lists pass_bytes t.ts t.passes (many_length (counted 0 4 read_value) ws _ t.passes_at t.passed_on) in
        let line = terminator_length t.k t.op t.vs es t.kind.high_bound o.bound v.low_bound
        (omega (arith, u.low_bound)) in
        let lines = pass_lines es [] (rw targets all) in
        let read_values = (values_enough ws small _ _).enough t.values_at t.values in
        let read_targets = (words_enough ws small _ _).enough t.targets_at t.targets in
        let read_passes = many_enough ws (counted 0 4 read_value) pass_bytes (values_enough ws small 0 4) _ t.passes_at t.passed_on in
        let edges = control_edges t.k t.op t.vs es t.kind.high_bound (omega (arith, u.low_bound))
        (omega (arith, u.high_bound)) in
        rw (t.is, edges) (omega (arith, o.end));
  }

  -- The number of a region is at most the place where it was read.
  module _ (few : length ws ≤ 65536) where
    region_enough : (r : ℕ) → IsWord r → Enough ws read_region (λ x. suc (length (region_text r x)))
    unfolding region_text
    region_enough r s = record {
      enough = λ at {x = x} h.
          let a = region_parts ws at h in
          let limit : IsWord x.limit = omega (arith, (within_parts 1 65535 ws _ a.limit).high_bound) in
          let inputs = (types_enough ws small 0 4).enough at a.inputs in
          let blocks = (blocks_enough ws small few r s).enough _ a.blocks in
          let end = terminator_enough.enough _ a.terminator in
          let exits = (words_enough ws small 0 32).enough _ a.exits in
          simp length-append (omega (arith, five_digits r s, five_digits x.limit limit));
    }

    regions_enough : (n r at : ℕ) {xs : List Region} {e : ℕ} → r ≤ at → many n read_region ws at ≡ got xs e
        → length (regions_text r xs) + 16 * at ≤ 16 * e
    unfolding many regions_text
    regions_enough zero r at {xs} {e} l q =
        let none : xs ≡ [] = cc in
        let end : e ≡ at = cc in
        rw none (omega arith)
    regions_enough (suc n) r at l q =
        let a = many_parts read_region ws n at q in
        let inside = (counted_parts 0 4 type ws at (region_parts ws at a.first).inputs).inside in
        let first = (region_enough r (omega arith)).enough at a.first in
        let rest = regions_enough n (suc r) a.place (omega arith) a.rest in
        rw (a.is, length-append) (omega arith)

    pub listing_enough : (g : Graph) → read_record ws ≡ accepted g → length (listing_of g) ≤ 16 * length ws
    unfolding read_record
    listing_enough g h =
        let a = settled_at 0 (head ws 1) _ g h in
        let b = then (regions_from a.value.count 0 ws a.place) _ g a.second in
        let top = head_parts ws a.first in
        let all = regions_many a.value.count 0 ws a.place b.first in
        let is = accepted_value b.second in
        let count = many_length read_region ws a.value.count a.place all in
        let line = listing_length g (rw (← is) (omega (arith, top.high_bound))) (rw (← is, top.entry) (small 2))
        (rw (← is, top.test_cost) (small 3)) in
        let constants = (types_enough ws small 0 64).enough 4 top.constants in
        let regions = regions_enough a.value.count 0 a.place (omega arith) all in
        omega (arith, ap (λ x. length (numbers_text x.constants)) is, ap (λ x. length (regions_text 0 x.regions)) is)
