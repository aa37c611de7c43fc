-- What a value, an instruction, a terminator and the head consist of, each part read at its place.
use Rattle.std.specs.Prelude.{◌≡◌, refl, Bool, true, false, List, [], ℕ, ◌+◌, ◌≤◌, ◌<◌, length, get_or}
use Rattle.std.proofs.Common.{sym, ap, subst, ◌∙◌, arith}
use Rattle.meaning.specs.Graph.{Value, Instr, ControlInst}
use Rattle.format.specs.Read.{got, expect, word, within, many, counted, type, is_kind, value_from_words, index_right, read_value}
use Rattle.format.specs.Read.{instruction, opcode_for, fewest_values, most_values, fewest_targets, most_targets}
use Rattle.format.specs.Read.{edges_passed, control_inst, terminator, Head, head}
use Rattle.meaning.specs.facts.Tests.{clash}
use Rattle.format.specs.laws.Readers.{part, got_value, got_place}
use Rattle.record.specs.laws.Parts.{WordParts, word_parts, WithinParts, within_parts}
use Rattle.meaning.specs.Lists.{distinct_from}

-- a test that was passed
pub record ExpectPassed (t : Bool) (at e : ℕ) : Type 0 where
  pub holds : t ≡ true
  pub end : e ≡ at

pub expect_passed : (t : Bool) (ws : List ℕ) (at : ℕ) {u : Unit} {e : ℕ} → expect t ws at ≡ got u e → ExpectPassed t at e
expect_passed true ws at h = record { holds = refl; end = sym (got_place h) }
expect_passed false ws at h = absurd (clash (cc))

-- Three words: kind, region, index.
pub record ValueParts (ws : List ℕ) (at : ℕ) (v : Value) (e : ℕ) : Type 0 where
  pub inside : at + 2 < length ws
  pub is : v ≡ value_from_words (get_or ws at 0) (get_or ws (at + 1) 0) (get_or ws (at + 2) 0)
  pub end : e ≡ at + 3
  pub kind : is_kind (get_or ws at 0) ≡ true
  pub index : index_right (get_or ws at 0) (get_or ws (at + 2) 0) ≡ true

pub value_join : (ws : List ℕ) (at k i m r j n l : ℕ) → WordParts ws at k i → ExpectPassed (is_kind k) i m → WordParts ws m r j
    → WordParts ws j n l → {e : ℕ} → ExpectPassed (index_right k n) l e → ValueParts ws at (value_from_words k r n) e
value_join ws at k i m r j n l a p b c {e} q =
    let m_is : m ≡ at + 1 = omega (arith, a.end, p.end) in
    let j_is : j ≡ at + 2 = omega (arith, b.end) in
    let e_is : e ≡ at + 3 = omega (arith, c.end, q.end) in
    let k_is : k ≡ get_or ws at 0 = a.is in
    let r_is : r ≡ get_or ws (at + 1) 0 = b.is ∙ ap (λ x. get_or ws x 0) m_is in
    let n_is : n ≡ get_or ws (at + 2) 0 = c.is ∙ ap (λ x. get_or ws x 0) j_is in
    record {
      inside = omega (arith, c.inside);
      is =
          ap (λ x. value_from_words x r n) k_is ∙ ap (λ x. value_from_words (get_or ws at 0) x n) r_is
          ∙ ap (value_from_words (get_or ws at 0) (get_or ws (at + 1) 0)) n_is;
      end = e_is;
      kind = ap is_kind (sym k_is) ∙ p.holds;
      index = ap (λ x. index_right x (get_or ws (at + 2) 0)) (sym k_is) ∙ ap (index_right k) (sym n_is) ∙ q.holds;
    }

pub value_parts : (ws : List ℕ) (at : ℕ) {v : Value} {e : ℕ} → read_value ws at ≡ got v e → ValueParts ws at v e
unfolding read_value
value_parts ws at {v} {e} h =
    let a = part (word ws at) _ v e h in
    let p = part (expect (is_kind a.value) ws a.place) _ v e a.second in
    let b = part (word ws p.place) _ v e p.second in
    let c = part (word ws b.place) _ v e b.second in
    let q = part (expect (index_right a.value c.value) ws c.place) _ v e c.second in
    subst (λ x. ValueParts ws at x e) (got_value q.second)
    (value_join ws at a.value a.place p.place b.value b.place c.value c.place
    (word_parts ws at a.first) (expect_passed _ ws a.place p.first) (word_parts ws p.place b.first)
    (word_parts ws b.place c.first)
    (expect_passed _ ws c.place (q.first ∙ ap (got q.value) (got_place q.second))))

-- Opcode, type, cost, then the reads.
pub record InstrParts (ws : List ℕ) (at : ℕ) (x : Instr) (e : ℕ) : Type 0 where
  pub inside : at + 3 ≤ length ws
  pub opcode : x.opcode ≡ get_or ws at 0
  pub type : x.type ≡ get_or ws (at + 1) 0
  pub type_bound : x.type ≤ 255
  pub cost : x.cost ≡ get_or ws (at + 2) 0
  pub reads : counted 0 3 read_value ws (at + 3) ≡ got x.reads e

pub instr_join : (ws : List ℕ) (at i j k : ℕ) (x : Instr) {e : ℕ} → WordParts ws at x.opcode i → WithinParts 0 255 ws i x.type j
    → WordParts ws j x.cost k → counted 0 3 read_value ws k ≡ got x.reads e → InstrParts ws at x e
instr_join ws at i j k x {e} a b c d =
    let i_is : i ≡ at + 1 = a.end in
    let j_is : j ≡ at + 2 = omega (arith, b.end) in
    let k_is : at + 3 ≡ k = omega (arith, c.end) in
    record {
      inside = omega (arith, c.inside);
      opcode = a.is;
      type = b.is ∙ ap (λ n. get_or ws n 0) i_is;
      type_bound = b.high_bound;
      cost = c.is ∙ ap (λ n. get_or ws n 0) j_is;
      reads = ap (counted 0 3 read_value ws) k_is ∙ d;
    }

pub instr_parts : (ws : List ℕ) (at : ℕ) {x : Instr} {e : ℕ} → instruction ws at ≡ got x e → InstrParts ws at x e
unfolding instruction
instr_parts ws at {x} {e} h =
    let a = part (word ws at) _ x e h in
    let b = part (within 0 255 ws a.place) _ x e a.second in
    let c = part (word ws b.place) _ x e b.second in
    let d = part (counted 0 3 read_value ws c.place) _ x e c.second in
    let y : Instr = record { opcode = a.value; type = b.value; cost = c.value; reads = d.value } in
    subst (λ z. InstrParts ws at z e) (got_value d.second)
    (instr_join ws at a.place b.place c.place y (word_parts ws at a.first) (within_parts 0 255 ws a.place b.first)
    (word_parts ws b.place c.first) (d.first ∙ ap (got d.value) (got_place d.second)))

-- Kind k, the opcode op of kind 2, values, targets, and the values passed to each distinct target; each begins where the
-- one before ends.
pub record TerminatorParts (ws : List ℕ) (at : ℕ) (x : ControlInst) (e : ℕ) : Type 0 where
  pub k : ℕ
  pub op : ℕ
  pub vs : List Value
  pub ts : List ℕ
  pub passes : List (List Value)
  pub values_at : ℕ
  pub targets_at : ℕ
  pub passes_at : ℕ
  pub kind : WithinParts 0 5 ws at k (at + 1)
  pub opcode : opcode_for k ws (at + 1) ≡ got op values_at
  pub values : counted (fewest_values k) (most_values k) read_value ws values_at ≡ got vs targets_at
  pub targets : counted (fewest_targets k) (most_targets k) word ws targets_at ≡ got ts passes_at
  pub passed_on : many (length (distinct_from [] ts)) (counted 0 4 read_value) ws passes_at ≡ got passes e
  pub is : x ≡ control_inst k op vs (edges_passed ts passes)

pub terminator_parts : (ws : List ℕ) (at : ℕ) {x : ControlInst} {e : ℕ} → terminator ws at ≡ got x e → TerminatorParts ws at x e
unfolding terminator
terminator_parts ws at {x} {e} h =
    let a = part (within 0 5 ws at) _ x e h in
    let b = part (opcode_for a.value ws a.place) _ x e a.second in
    let c = part (counted (fewest_values a.value) (most_values a.value) read_value ws b.place) _ x e b.second in
    let d = part (counted (fewest_targets a.value) (most_targets a.value) word ws c.place) _ x e c.second in
    let f = part (many (length (distinct_from [] d.value)) (counted 0 4 read_value) ws d.place) _ x e d.second in
    let w = within_parts 0 5 ws at a.first in
    record {
      k = a.value;
      op = b.value;
      vs = c.value;
      ts = d.value;
      passes = f.value;
      values_at = b.place;
      targets_at = c.place;
      passes_at = d.place;
      kind = record { inside = w.inside; is = w.is; end = refl; low_bound = w.low_bound; high_bound = w.high_bound };
      opcode = ap (opcode_for a.value ws) (sym w.end) ∙ b.first;
      values = c.first;
      targets = d.first;
      passed_on = f.first ∙ ap (got f.value) (got_place f.second);
      is = sym (got_value f.second);
    }

-- Of the head, from word 1 on: region count, entry, test cost, the types of the constants.
pub record HeadParts (ws : List ℕ) (h : Head) (e : ℕ) : Type 0 where
  pub inside : 4 ≤ length ws
  pub count : h.count ≡ get_or ws 1 0
  pub low_bound : 1 ≤ h.count
  pub high_bound : h.count ≤ 32
  pub entry : h.entry ≡ get_or ws 2 0
  pub test_cost : h.test_cost ≡ get_or ws 3 0
  pub constants : counted 0 64 type ws 4 ≡ got h.constants e

pub head_join : (ws : List ℕ) (i j k : ℕ) (x : Head) {e : ℕ} → WithinParts 1 32 ws 1 x.count i → WordParts ws i x.entry j
    → WordParts ws j x.test_cost k → counted 0 64 type ws k ≡ got x.constants e → HeadParts ws x e
head_join ws i j k x {e} a b c d =
    let i_is : i ≡ 2 = a.end in
    let j_is : j ≡ 3 = omega (arith, b.end) in
    let k_is : 4 ≡ k = omega (arith, c.end) in
    record {
      inside = omega (arith, c.inside);
      count = a.is;
      low_bound = a.low_bound;
      high_bound = a.high_bound;
      entry = b.is ∙ ap (λ n. get_or ws n 0) i_is;
      test_cost = c.is ∙ ap (λ n. get_or ws n 0) j_is;
      constants = ap (counted 0 64 type ws) k_is ∙ d;
    }

pub head_parts : (ws : List ℕ) {x : Head} {e : ℕ} → head ws 1 ≡ got x e → HeadParts ws x e
unfolding head
head_parts ws {x} {e} h =
    let a = part (within 1 32 ws 1) _ x e h in
    let b = part (word ws a.place) _ x e a.second in
    let c = part (word ws b.place) _ x e b.second in
    let d = part (counted 0 64 type ws c.place) _ x e c.second in
    let y : Head = record { count = a.value; entry = b.value; test_cost = c.value; constants = d.value } in
    subst (λ z. HeadParts ws z e) (got_value d.second)
    (head_join ws a.place b.place c.place y (within_parts 1 32 ws 1 a.first) (word_parts ws a.place b.first)
    (word_parts ws b.place c.first) (d.first ∙ ap (got d.value) (got_place d.second)))
