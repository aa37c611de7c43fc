-- The values of a valid graph, as words that name them.
use Rattle.std.specs.Prelude.{◌≡◌, refl, true, false, ◌&&◌, List, [], ◌∷◌, ℕ, zero, suc, ◌*◌, ◌-◌, ◌/◌, ◌%◌, ◌≤◌, ◌<◌, length, get_or, eqb}
use Rattle.std.proofs.Common.{ap, ◌∙◌, length-append}
use native.Mathlib.Omega.{arith}
use Rattle.std.proofs.Math.Decide.{dec_lt}
use Rattle.std.proofs.Math.ListN.{get_or-eq_default}
use Rattle.std.proofs.Math.Dec.{ltb}
use borrow.Author.Tests.{lt-ltb, le-ltb, eqb-true, ltb-true}
use Rattle.meaning.specs.Graph.{Value, const, input, instr, output, bool, undef, held, no_value, Instr, ControlInst, unreachable, return}
use Rattle.meaning.specs.Graph.{bool_cond, number, exit_invocation, branch, select_branch, Graph, region, edges_of, no_edge}
use Rattle.meaning.specs.Lists.{All, Within, concat}
use Rattle.meaning.specs.facts.Elements.{all_at, getD_within}
use Rattle.meaning.specs.facts.Tests.{picked_positive, and_both}
use Rattle.format.specs.References.{type_in, behind_all, instructions}
use Rattle.format.specs.Valid.{Usable, Passed, ValidEdge, ValidEnd, Valid}
use Rattle.fields.specs.ByNumber.{edge_of}
use Rattle.state_words.specs.Values.{const_word, instr_word, undef_word, region_word}
use Rattle.state_shown.specs.Values.{value}
use Rattle.state_shown.specs.laws.ValueWords.{Ranged, ranged, in_const, in_false, in_true, in_undef, in_output, in_input, in_held, in_instr}
use Rattle.state_shown.specs.laws.ValueWords.{in_none}
use Rattle.state_shown.specs.laws.ValueWords.{value_undef, value_input}
use Rattle.state_shown.specs.Sets.{Names}
use Rattle.format.proofs.laws.UndefinedTypes.{TypeRead}
use Rattle.cfg_bundles.specs.EdgesAndCases.{record_word, padded_by, padded}
use Rattle.nesting.specs.Nesting.{most_regions}
use Rattle.state_words.specs.Values.{input_from, instr_from, instr_word_at}

-- ---- Words by kind.
names_const : (i : ℕ) → i < 64 → Names (const_word i) (const i)
unfolding value const_word
names_const i h = record { is = rw (lt-ltb i 64 h, lt-ltb i 64 h); below = rw (lt-ltb i 64 h) (omega arith) }

names_undef : (ty : ℕ) → ty < 256 → Names (undef_word ty) (undef ty)
unfolding undef_word
names_undef ty h = record { is = value_undef ty h; below = rw (lt-ltb ty 256 h) (omega arith) }

names_input : (r k : ℕ) → r < most_regions → k < 4 → Names (region_word input_from r k) (input r k)
unfolding region_word
names_input r k h j = record { is = value_input r k h j; below = rw (lt-ltb r most_regions h, lt-ltb k 4 j) (omega arith) }

names_instr : (r k : ℕ) → r < 32 → k < 64 → Names (instr_word r k) (instr r k)
unfolding instr_word
names_instr r k h j =
    record {
      is = rw (lt-ltb r 32 h, lt-ltb k 64 j) (go (ranged (instr_word_at r k)));
      below = rw (lt-ltb r 32 h, lt-ltb k 64 j) (omega arith);
    }
  where
    go : {v : Value} → Ranged (instr_word_at r k) v → v ≡ instr r k
    go (in_const a e) = absurd (omega arith)
    go (in_false a e) = absurd (omega arith)
    go (in_true a e) = absurd (omega arith)
    go (in_undef a b e) = absurd (omega arith)
    go (in_output a b e) = absurd (omega arith)
    go (in_input a b e) = absurd (omega arith)
    go (in_held a b e) = absurd (omega arith)
    go (in_instr a b e) =
        let y : (instr_word_at r k - instr_from) / 64 ≡ r = omega arith in
        let z : (instr_word_at r k) % 64 ≡ k = omega arith in
        e ∙ rw (y, z)
    go (in_none a e) = absurd (omega arith)

-- ---- A value that a terminator may use; undefined, it is of a type that a record has.
few_in_blocks : (bs : List (List Instr)) → All (λ b. Within 1 8 (length b)) bs → length (concat bs) ≤ 8 * length bs
few_in_blocks [] h = omega arith
few_in_blocks (b ∷ bs) h = let z = few_in_blocks bs h.1 in let y = h.0.1 in rw (length-append b (concat bs)) (omega arith)

module _ {g : Graph} (valid : Valid g) {r : ℕ} (here : r < length g.regions) where
  few_instructions : behind_all g r ≤ 64
  unfolding instructions
  few_instructions =
      let x = valid.regions r here in
      let few = x.blocks_few in
      let z = few_in_blocks (region g r).blocks x.blocks in
      omega arith

  pub usable_names : (v : Value) → Usable g r (behind_all g r) v → TypeRead v → Names (record_word v) v
  unfolding value
  usable_names (const i) u t =
      let few = valid.constants_few in let z = getD_within g.constants i u.typed in names_const i (omega arith)
  usable_names (input q k) u t =
      let both = picked_positive (eqb q r) (get_or (region g r).inputs k 0) u.typed in
      let same = eqb-true q r both.0 in
      let few = (valid.regions r here).inputs_few in
      let z = getD_within (region g r).inputs k both.1 in
      let all = valid.count.1 in
      names_input q k (omega arith) (omega arith)
  usable_names (instr q k) u t =
      let both = picked_positive (eqb q r && ltb k (behind_all g r)) _ u.typed in
      let tests = and_both (eqb q r) (ltb k (behind_all g r)) both.0 in
      let same = eqb-true q r tests.0 in
      let before = ltb-true k (behind_all g r) tests.1 in
      let few = few_instructions in
      let all = valid.count.1 in
      names_instr q k (omega arith) (omega arith)
  usable_names (output o) u t = let z = u.typed in absurd (omega arith)
  usable_names (bool true) u t = record { is = refl; below = omega arith }
  usable_names (bool false) u t = record { is = refl; below = omega arith }
  usable_names (undef ty) u t = names_undef ty (omega arith)
  usable_names (held q k) u t = let z = u.typed in absurd (omega arith)
  usable_names no_value u t = let z = u.typed in absurd (omega arith)

  pub passed_names : (ts : List ℕ) (vs : List Value) → All TypeRead vs → Passed g r ts vs → (k : ℕ) → k < length vs
      → Names (record_word (get_or vs k no_value)) (get_or vs k (undef 0))
  passed_names [] [] a p k h = absurd (omega arith)
  passed_names [] (v ∷ vs) a p k h = absurd p
  passed_names (t ∷ ts) [] a p k h = absurd p
  passed_names (t ∷ ts) (v ∷ vs) a p zero h = usable_names v p.0 a.0
  passed_names (t ∷ ts) (v ∷ vs) a p (suc k) h = passed_names ts vs a.1 p.2 k (omega arith)

  -- Values passed for inputs have the inputs' types.
  pub passed_types : (ts : List ℕ) (vs : List Value) → All (Within 1 255) ts → Passed g r ts vs → All TypeRead vs
  passed_types [] [] a p = tt
  passed_types [] (v ∷ vs) a p = absurd p
  passed_types (t ∷ ts) [] a p = absurd p
  passed_types (t ∷ ts) (v ∷ vs) a p = (go v p.1, passed_types ts vs a.1 p.2)
    where
      go : (v : Value) → type_in g r (behind_all g r) v ≡ t → TypeRead v
      go (const i) e = tt
      go (input q k) e = tt
      go (instr q k) e = tt
      go (output o) e = tt
      go (bool b) e = tt
      go (undef ty) e = let z = a.0.1 in omega arith
      go (held q k) e = tt
      go no_value e = tt

  pub valid_edge : (j : ℕ) → j < length (edges_of (region g r).terminator) → ValidEdge g r (edge_of g r j)
  valid_edge j h = go (region g r).terminator (valid.regions r here).terminator j h
    where
      go : (x : ControlInst) → ValidEnd g r x → (j : ℕ) → j < length (edges_of x) → ValidEdge g r (get_or (edges_of x) j no_edge)
      go unreachable y j h = absurd (omega arith)
      go (return vs) y j h = absurd (omega arith)
      go (exit_invocation op vs) y j h = absurd (omega arith)
      go (branch e) y zero h = y
      go (branch e) y (suc j) h = absurd (omega arith)
      go (select_branch k v es) y j h = all_at (ValidEdge g r) no_edge es y.2 j h

-- A terminator has eight edges at most.
pub few_edges : {g : Graph} → Valid g → {r : ℕ} → r < length g.regions → length (edges_of (region g r).terminator) ≤ 8
few_edges {g} valid {r} here = go (region g r).terminator (valid.regions r here).terminator
  where
    go : (x : ControlInst) → ValidEnd g r x → length (edges_of x) ≤ 8
    go unreachable y = omega arith
    go (return vs) y = omega arith
    go (exit_invocation op vs) y = omega arith
    go (branch e) y = omega arith
    go (select_branch bool_cond v es) y = let z = y.1.1 in omega arith
    go (select_branch number v es) y = let z = y.1.1 in omega arith

pub passed_length : (g : Graph) (r : ℕ) (ts : List ℕ) (vs : List Value) → Passed g r ts vs → length vs ≡ length ts
passed_length g r [] [] p = refl
passed_length g r [] (v ∷ vs) p = absurd p
passed_length g r (t ∷ ts) [] p = absurd p
passed_length g r (t ∷ ts) (v ∷ vs) p = ap suc (passed_length g r ts vs p.2)

-- ---- Four words for values, those beyond undefined.
pub padded_names : (vs : List Value) → ((k : ℕ) → k < length vs → Names (record_word (get_or vs k no_value)) (get_or vs k (undef 0))) → (k : ℕ)
    → k < 4 → Names (get_or (padded vs) k 0) (get_or vs k (undef 0))
unfolding value padded_by
padded_names vs names k h = rw (at k h) (elim (dec_lt k (length vs)) [
  | yes a ↦ rw (lt-ltb k (length vs) a) (names k a)
  | no a ↦ rw (le-ltb k (length vs) (omega arith), get_or-eq_default vs (undef 0) {n = k} (omega arith))
      record { is = refl; below = omega arith }
])
  where
    at : (k : ℕ) → k < 4 → get_or (padded vs) k 0 ≡ padded_by (length vs) vs k
    at zero h = refl
    at (suc zero) h = refl
    at (suc (suc zero)) h = refl
    at (suc (suc (suc zero))) h = refl
    at (suc (suc (suc (suc k)))) h = absurd (omega arith)
