-- Types are bytes: those of regions' inputs as the graph is valid, those of what a Return has as the record was read.
use Rattle.std.specs.Prelude.{Bool, true, false, ◌&&◌, List, [], ◌∷◌, ℕ, zero, suc, ◌≤◌, ◌<◌, length, get_or, eqb, ltb}
use Rattle.std.proofs.Common.{arith}
use Rattle.std.proofs.Math.Decide.{dec_lt}
use Rattle.std.proofs.Math.ListN.{get_or-eq_default}
use Rattle.meaning.specs.Lists.{Within, pick}
use Rattle.meaning.specs.Graph.{Value, const, input, instr, output, bool, undef, held, no_value, Instr, Graph, region, nowhere}
use Rattle.meaning.specs.facts.Elements.{all_get_d, all_map, all_mapped}
use Rattle.format.specs.Valid.{Valid, ValidInstrs, ValidRegion}
use Rattle.format.specs.References.{return_types, first_return, instructions, no_instr, instr_type, type_in, behind_all}
use Rattle.record.specs.Stands.{Stands}
use Rattle.nesting.specs.Nesting as nesting
use Rattle.nesting.specs.Nesting.{DeferredTarget, to_region, to_return}
use Rattle.fields.specs.ByNumber.{end_values}
use Rattle.format.proofs.laws.UndefinedTypes.{TypeRead}
use Rattle.fields.specs.laws.UndefinedTypes.{end_types_read}

pub record SmallTypes (g : Graph) : Type 0 where
  pub below : (x : DeferredTarget) (k : ℕ) → nesting.target_type g x k < 256

instrs_small : (g : Graph) (r : ℕ) (is : List Instr) (i : ℕ) → ValidInstrs g r i is → (k : ℕ) → (get_or is k no_instr).type ≤ 255
instrs_small g r [] i v k = omega arith
instrs_small g r (x ∷ is) i v zero = v.0.type
instrs_small g r (x ∷ is) i v (suc k) = instrs_small g r is (suc i) v.1 k

module _ {g : Graph} (valid : Valid g) where
  -- What holds of a valid region's and of no region's, holds of each.
  by_region : (P : _ → Type 0) → ((r : ℕ) → ValidRegion g r (region g r) → P (region g r)) → P nowhere → (r : ℕ) → P (region g r)
  by_region P f none r =
      elim (dec_lt r (length g.regions)) [
        | yes h ↦ f r (valid.regions r h)
        | no h ↦ rw (get_or-eq_default g.regions nowhere {n = r} (omega arith)) none
      ]

  inputs_small : (r k : ℕ) → get_or (region g r).inputs k 0 ≤ 255
  inputs_small r k =
      by_region (λ x. get_or x.inputs k 0 ≤ 255)
      (λ q v. all_get_d (λ t. t ≤ 255) 0 (omega arith) (region g q).inputs
      (all_map (Within 1 255) (λ t. t ≤ 255) (λ t y. y.1) (region g q).inputs v.inputs) k) (omega arith) r

  instr_small : (r k : ℕ) → instr_type (region g r) k ≤ 255
  unfolding instructions
  instr_small r k =
      by_region (λ x. instr_type x k ≤ 255) (λ q v. instrs_small g q (instructions (region g q).blocks) 0 v.instructions k)
      (omega arith) r

  picked_small : (b : Bool) (n : ℕ) → n ≤ 255 → pick b n 0 ≤ 255
  picked_small true n h = h
  picked_small false n h = omega arith

  type_small : (r before : ℕ) (v : Value) → TypeRead v → type_in g r before v ≤ 255
  type_small r before (const i) t = all_get_d (λ t. t ≤ 255) 0 (omega arith) g.constants
      (all_map (Within 1 255) (λ t. t ≤ 255) (λ t y. y.1) g.constants valid.constants) i
  type_small r before (input q k) t = picked_small (eqb q r) _ (inputs_small r k)
  type_small r before (instr q k) t = picked_small (eqb q r && ltb k before) _ (instr_small r k)
  type_small r before (output o) t = omega arith
  type_small r before (bool b) t = omega arith
  type_small r before (undef ty) t = t
  type_small r before no_value t = omega arith
  type_small r before (held q k) t = omega arith

  pub small_types : {w : List ℕ} → Stands w g → SmallTypes g
  unfolding return_types
  small_types stands =
      record {
        below = λ x k. elim x as (λ y. nesting.target_type g y k < 256) [
          | to_region r ↦ (let z = inputs_small r k in omega arith)
          | to_return ↦ (
              let q = first_return g.regions in
              let types = all_mapped (type_in g q (behind_all g q)) TypeRead (λ t. t ≤ 255) (type_small q (behind_all g q)) (end_values g q)
              (end_types_read stands q) in
              let z = all_get_d (λ t. t ≤ 255) 0 (omega arith) (return_types g) types k in omega arith)
        ];
      }
