-- Where the blocks and the instructions of a region stand.
use Rattle.std.specs.Prelude.{◌≡◌, Bool, true, false, ◌⊎◌, length, get_or}
use Rattle.std.proofs.Math.Path.{refl, sym, ap}
use Rattle.std.proofs.Common.{subst, ◌∙◌, inl, inr, ⊎_elim, arith, ltb-true, ltb-false}
use mathlib.Core.List.{List, [], ◌∷◌}
use Prim.Native.Nat.{ℕ, zero, suc, ◌+◌, ◌≤◌, ◌<◌}
use Rattle.meaning.specs.Lists.{pick}
use Rattle.std.proofs.Math.ListN.{get_or-eq_default}
use Rattle.std.proofs.Math.Dec.{ltb}
use Rattle.meaning.specs.Graph.{Graph, Instr, region}
use Rattle.format.specs.Read.{got, read_then, many, counted, block, instruction, read_value}
use Rattle.format.specs.References.{no_instr}
use Rattle.format.specs.Places.{next, after, start_of_region, blocks_of_region, block_of_region}
use Rattle.format.specs.laws.Readers.{part, many_at, after_front}
use Rattle.store.specs.Layout.{beyond, blocks_word}
use Rattle.record.specs.laws.Parts.{counted_parts}
use Rattle.record.specs.laws.PartsWithin.{instr_parts}
use Rattle.record.specs.Stands.{words_of_record, Stands}
use Rattle.fields.specs.declared.shape.Instruction.{Instruction}
use Rattle.fields.specs.Shape.{instruction_is}
use Rattle.fields.specs.ItemsAndPlaces.{placed, value_at, behind_values, indexed, block_place, behind_instructions, instruction_place}
use Rattle.fields.specs.laws.Lists.{ListAt, front, value_fixed, counted_at, no_list, placed_small, behind_values_is}
use Rattle.fields.specs.laws.Regions.{Known, small, beyond_words, no_word, region_case, block_count_is}

-- An instruction that begins at p.
pub record InstrAt (w : List ℕ) (p : ℕ) (x : Instr) : Type 0 where
  pub opcode : get_or w p 0 ≡ x.opcode
  pub type : get_or w (p + 1) 0 ≡ x.type
  pub cost : get_or w (p + 2) 0 ≡ x.cost
  pub count : get_or w (p + 3) 0 ≡ length x.reads
  pub reads : ListAt w 3 (value_at w) (placed (p + 3)) x.reads

-- The struct of an instruction's words.
pub instruction_by : (w : List ℕ) (p : ℕ) {x : Instr} {o t k n : ℕ} → InstrAt w p x → o ≡ get_or w p 0 → t ≡ get_or w (p + 1) 0
    → k ≡ get_or w (p + 2) 0 → n ≡ get_or w (p + 3) 0 → ◌≡◌ {A = Instruction} (record { opcode = o; ty = t; cost = k; reads = n })
    (instruction_is x)
instruction_by w p a ho ht hk hn = rw (ho ∙ a.opcode, ht ∙ a.type, hk ∙ a.cost, hn ∙ a.count)

-- A block of the record, and a number that names none.
pub record KnownBlock (w : List ℕ) (p : ℕ) (xs : List Instr) : Type 0 where
  pub end : ℕ
  pub items : counted 1 8 instruction (words_of_record w) p ≡ got xs end

pub record NoBlock (p : ℕ) (xs : List Instr) : Type 0 where
  pub place : p ≡ beyond
  pub none : xs ≡ []

module _ {w : List ℕ} {g : Graph} (s : Stands w g) where
  pub instr_at : (p : ℕ) {x : Instr} {e : ℕ} → instruction (words_of_record w) p ≡ got x e → InstrAt w p x
  instr_at p h =
      let a = instr_parts (words_of_record w) p h in
      let b = counted_at w read_value 3 _ (value_fixed w) 0 3 (p + 3) a.reads in
      let l = b.inside in
      let same : placed (p + 3) ≡ p + 3 = placed_small (p + 3) (omega (arith, small s l)) in
      record {
        opcode = sym (a.opcode ∙ front w p (omega arith));
        type = sym (a.type ∙ front w (p + 1) (omega arith));
        cost = sym (a.cost ∙ front w (p + 2) (omega arith));
        count = b.list.count;
        reads = rw same b.list;
      }

  -- one instruction further
  pub instr_behind : (p : ℕ) {x : Instr} {e : ℕ} → instruction (words_of_record w) p ≡ got x e → behind_values w (placed (p + 3)) ≡ e
  instr_behind p h =
      let a = instr_parts (words_of_record w) p h in
      let b = counted_at w read_value 3 _ (value_fixed w) 0 3 (p + 3) a.reads in
      let few = (counted_parts 0 3 read_value (words_of_record w) (p + 3) a.reads).high_bound in
      let l = small s b.inside in
      ap (behind_values w) (placed_small (p + 3) (omega arith)) ∙ behind_values_is b (omega (arith, b.end))

  pub instrs_behind : (k n p : ℕ) {xs : List Instr} {e : ℕ} → k ≤ n → many n instruction (words_of_record w) p ≡ got xs e
      → behind_instructions w k p ≡ after k instruction (words_of_record w) p
  unfolding behind_instructions after many
  instrs_behind zero n p l h = refl
  instrs_behind (suc k) zero p l h = absurd (omega arith)
  instrs_behind (suc k) (suc n) p {xs} {e} l h =
      let a = part (instruction (words_of_record w) p) (λ x i. read_then (many n instruction (words_of_record w) i) λ ys j. got
      (x ∷ ys) j) xs e h in
      let b = part (many n instruction (words_of_record w) a.place) (λ ys j. got (a.value ∷ ys) j) xs e a.second in
      ap (behind_instructions w k) (instr_behind p a.first)
      ∙ instrs_behind k n a.place (omega arith) b.first
      ∙ sym (after_front instruction (words_of_record w) k p ∙ ap (λ i. after k instruction (words_of_record w) (next i)) a.first)

  module _ (r b : ℕ) where
    known_block : Known w g r → b < length (region g r).blocks
        → KnownBlock w (indexed w r (blocks_word + b)) (get_or (region g r).blocks b [])
    unfolding block_of_region block
    known_block k l =
        let a = counted_parts 0 8 block (words_of_record w) _ k.parts.blocks in
        rw (k.block b l)
        (record {
          end = _;
          items = many_at block (words_of_record w) (length (region g r).blocks)
              (blocks_of_region (words_of_record w) (start_of_region (words_of_record w) r) + 1) [] a.items b l;
        })

    pub block_case : KnownBlock w (block_place w r b) (get_or (region g r).blocks b []) ⊎ NoBlock (block_place w r b)
        (get_or (region g r).blocks b [])
    unfolding block_place
    block_case = by_test (ltb b (length (region g r).blocks)) refl
      where
        place : (t : Bool) → ltb b (length (region g r).blocks) ≡ t → block_place w r b ≡ pick t (indexed w r (blocks_word + b)) beyond
        place t q =
            ap (λ n. pick (ltb b n) (indexed w r (blocks_word + b)) beyond) (block_count_is s r)
            ∙ ap (λ x. pick x (indexed w r (blocks_word + b)) beyond) q

        by_test : (t : Bool) → ltb b (length (region g r).blocks) ≡ t
            → KnownBlock w (block_place w r b) (get_or (region g r).blocks b []) ⊎ NoBlock (block_place w r b)
            (get_or (region g r).blocks b [])
        by_test true q =
            let l = ltb-true b _ q in
            inl (⊎_elim
            (λ k. subst (λ p. KnownBlock w p (get_or (region g r).blocks b [])) (sym (place true q)) (known_block k l))
            (λ k. absurd (omega (arith, l, ap (λ x. length x.blocks) k.none)))
            (region_case s r))
        by_test false q = inr (record { place = place false q; none = get_or-eq_default (region g r).blocks [] (ltb-false b _ q) })

    pub block_length : get_or w (block_place w r b) 0 ≡ length (get_or (region g r).blocks b [])
    block_length =
        ⊎_elim
        (λ k. let a = counted_parts 1 8 instruction (words_of_record w) _ k.items in sym (front w _ a.inside) ∙ a.count)
        (λ k. ap (λ p. get_or w p 0) k.place ∙ no_word s (omega arith) ∙ ap length (sym k.none))
        block_case

    no_instr_at : InstrAt w beyond no_instr
    unfolding placed
    no_instr_at =
        record {
          opcode = no_word s (omega arith);
          type = no_word s (omega arith);
          cost = no_word s (omega arith);
          count = no_word s (omega arith);
          reads = no_list w 3 (value_at w) beyond (beyond_words s (omega arith));
        }

    pub instruction_at : (i : ℕ) → InstrAt w (instruction_place w r b i) (get_or (get_or (region g r).blocks b []) i no_instr)
    unfolding instruction_place
    instruction_at i = by_test (ltb i (length (get_or (region g r).blocks b []))) refl
      where
        place : (t : Bool) → ltb i (length (get_or (region g r).blocks b [])) ≡ t
            → instruction_place w r b i ≡ pick t (behind_instructions w i (placed (block_place w r b + 1))) beyond
        place t q =
            ap (λ n. pick (ltb i n) (behind_instructions w i (placed (block_place w r b + 1))) beyond) block_length
            ∙ ap (λ x. pick x (behind_instructions w i (placed (block_place w r b + 1))) beyond) q

        here : i < length (get_or (region g r).blocks b []) → KnownBlock w (block_place w r b) (get_or (region g r).blocks b [])
            → InstrAt w (behind_instructions w i (placed (block_place w r b + 1))) (get_or (get_or (region g r).blocks b []) i no_instr)
        here l k =
            let a = counted_parts 1 8 instruction (words_of_record w) _ k.items in
            let first : placed (block_place w r b + 1) ≡ block_place w r b + 1 = placed_small _ (omega (arith, small s a.inside)) in
            rw (first, instrs_behind i _ (block_place w r b + 1) (omega arith) a.items)
            (instr_at _ (many_at instruction (words_of_record w) _ (block_place w r b + 1) no_instr a.items i l))

        by_test : (t : Bool) → ltb i (length (get_or (region g r).blocks b [])) ≡ t
            → InstrAt w (instruction_place w r b i) (get_or (get_or (region g r).blocks b []) i no_instr)
        by_test true q =
            let l = ltb-true i _ q in
            rw (place true q)
            (⊎_elim (here l) (λ k. absurd (omega (arith, l, ap length k.none))) block_case)
        by_test false q = rw (place false q, get_or-eq_default (get_or (region g r).blocks b []) no_instr (ltb-false i _ q)) no_instr_at
