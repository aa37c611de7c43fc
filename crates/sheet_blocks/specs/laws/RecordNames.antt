-- The values of a record, as state words that name them.
use Rattle.std.specs.Prelude.{◌≡◌, ◌&&◌, ℕ, suc, ◌+◌, ◌≤◌, ◌<◌, length, get_or, eqb, ltb}
use mathlib.Core.List.{List, [], ◌∷◌}
use Rattle.std.proofs.Common.{arith, lt-ltb, ltb-true}
use Rattle.std.proofs.Math.Decide.{dec_lt}
use Rattle.std.proofs.Math.ListN.{get_or-eq_default}
use Rattle.meaning.specs.Lists.{All, concat}
use Rattle.meaning.specs.Graph.{Graph, Value, const, input, instr, output, bool, undef, held, no_value, Instr, region, nowhere}
use Rattle.meaning.specs.Graph.{ControlInst, unreachable, return, exit_invocation, branch, select_branch}
use Rattle.meaning.specs.facts.Elements.{all_at, all_get_d, all_map, all_parts}
use Rattle.meaning.specs.facts.Tests.{picked_positive, and_both}
use Rattle.format.specs.References.{behind_all, instructions, no_instr, instr_type, return_types, values_of}
use Rattle.format.specs.Valid.{Usable, Passed, ValidInstrs, ValidEnd, Valid}
use Rattle.record.specs.Stands.{Stands}
use Rattle.fields.specs.ByNumber.{block_of, instr_of, end_values}
use Rattle.fields.specs.Shape.{value_is}
use Rattle.fields.specs.declared.shape.Value as fields
use Rattle.state_words.specs.Values.{value_word}
use Rattle.state_shown.specs.Values.{value}
use Rattle.cfg_bundles.specs.EdgesAndCases.{record_word}
use Rattle.cfg_bundles.specs.laws.paths.Paths.{word_of_record}
use Rattle.format.proofs.laws.UndefinedTypes.{TypeRead}
use Rattle.fields.specs.laws.UndefinedTypes.{instr_types_read, end_types_read}
use Rattle.cfg_bundles.specs.laws.shown.RecordValues.{usable_names}

-- The word of the record's value stands for it.
abbrev pub StandsFor : Value → Type 0
StandsFor v = value (record_word v) ≡ v

-- By place, as the code reads it.
pub named_at : (vs : List Value) → All StandsFor vs → (k : ℕ) → k < length vs → (x : fields.Value) {a : ℕ} → a ≡ value_word x
    → value_is x ≡ get_or vs k no_value → value a ≡ get_or vs k no_value
named_at vs named k h x p q = rw (p, word_of_record x, q) (all_at StandsFor no_value vs named k h)

-- ---- What may be used behind some instructions may be used behind more.
module _ (g : Graph) (r : ℕ) where
  usable_later : {n m : ℕ} → n ≤ m → (v : Value) → Usable g r n v → Usable g r m v
  usable_later h (const i) u = record { typed = u.typed }
  usable_later h (input q k) u = record { typed = u.typed }
  usable_later {n} {m} h (instr q k) u =
      let both = picked_positive (eqb q r && ltb k n) (instr_type (region g r) k) u.typed in
      let tests = and_both (eqb q r) (ltb k n) both.0 in
      let before = ltb-true k n tests.1 in
      record { typed = rw (tests.0, lt-ltb k m (omega arith)) both.1 }
  usable_later h (output o) u = record { typed = u.typed }
  usable_later h (bool b) u = record { typed = u.typed }
  usable_later h (undef ty) u = record { typed = u.typed }
  usable_later h (held q k) u = record { typed = u.typed }
  usable_later h no_value u = record { typed = u.typed }

  abbrev UsableReads : ℕ → Instr → Type 0
  UsableReads n i = All (Usable g r n) i.reads

  reads_usable : (n k : ℕ) (is : List Instr) → k + length is ≤ n → ValidInstrs g r k is → All (UsableReads n) is
  reads_usable n k [] h x = tt
  reads_usable n k (i ∷ is) h x = (
    all_map (Usable g r k) (Usable g r n) (λ v u. usable_later (omega arith) v u) i.reads x.0.reads,
    reads_usable n (suc k) is (omega arith) x.1,
  )

  in_blocks : (n : ℕ) (bs : List (List Instr)) → All (UsableReads n) (concat bs) → All (All (UsableReads n)) bs
  in_blocks n [] h = tt
  in_blocks n (b ∷ bs) h = let x = all_parts (UsableReads n) b (concat bs) h in (x.0, in_blocks n bs x.1)

  passed_usable : (ts : List ℕ) (vs : List Value) → Passed g r ts vs → All (Usable g r (behind_all g r)) vs
  passed_usable [] [] p = tt
  passed_usable [] (v ∷ vs) p = absurd p
  passed_usable (t ∷ ts) [] p = absurd p
  passed_usable (t ∷ ts) (v ∷ vs) p = (p.0, passed_usable ts vs p.2)

-- ---- In a valid record that stands.
module _ {g : Graph} {w : List ℕ} (valid : Valid g) (stands : Stands w g) where
  all_named : {r : ℕ} → r < length g.regions → (vs : List Value) → All (Usable g r (behind_all g r)) vs → All TypeRead vs
      → All StandsFor vs
  all_named here [] u t = tt
  all_named here (v ∷ vs) u t = ((usable_names valid here v u.0 t.0).is, all_named here vs u.1 t.1)

  pub instr_named : (r b i : ℕ) → All StandsFor (instr_of g r b i).reads
  unfolding instructions
  instr_named r b i =
      elim (dec_lt r (length g.regions)) [
        | yes here ↦ (
            let n = behind_all g r in
            let all = reads_usable g r n 0 (instructions (region g r).blocks) (omega arith) (valid.regions r here).instructions in
            let bs = in_blocks g r n (region g r).blocks all in
            let is = all_get_d (All (UsableReads g r n)) [] tt (region g r).blocks bs b in
            all_named here (instr_of g r b i).reads (all_get_d (UsableReads g r n) no_instr tt (block_of g r b) is i)
            (instr_types_read stands r b i))
        | no beyond ↦ rw (get_or-eq_default g.regions nowhere {n = r} (omega arith)) tt
      ]

  pub end_named : (r : ℕ) → All StandsFor (end_values g r)
  end_named r =
      elim (dec_lt r (length g.regions)) [
        | yes here ↦ all_named here (end_values g r) (go r (region g r).terminator (valid.regions r here).terminator)
            (end_types_read stands r)
        | no beyond ↦ rw (get_or-eq_default g.regions nowhere {n = r} (omega arith)) tt
      ]
    where
      go : (r : ℕ) (x : ControlInst) → ValidEnd g r x → All (Usable g r (behind_all g r)) (values_of x)
      go r unreachable y = tt
      go r (return vs) y = passed_usable g r (return_types g) vs y.1
      go r (exit_invocation op vs) y = y.1
      go r (branch e) y = tt
      go r (select_branch k v es) y = (y.0, tt)
