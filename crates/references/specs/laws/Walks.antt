-- The walks of the references: reads, typed values, targets, edges, exits, regions.
use Rattle.std.specs.Prelude.{◌≡◌, Bool, not, List, ◌∷◌, length, get_or}
use Rattle.std.proofs.Common.{sym, ◌∙◌, add-one}
use Rattle.std.proofs.Math.Path.{ap}
use Prim.Native.Nat.{ℕ, suc, ◌+◌}
use native.Mathlib.Omega.{arith}
use Rattle.std.proofs.Math.ListN.{drop}
use Rattle.meaning.specs.Graph.{Graph, Value, no_value, Instr, region, nowhere}
use Rattle.format.specs.Store.{Answer, if_accepted}
use Rattle.meaning.specs.Lists.{is_in}
use Rattle.meaning.specs.facts.Parts.{from_place, none_from}
use Rattle.format.specs.References.{no_instr, behind_all, refuse_unless, first_refusal, is_region, named_right, of_type, reads_right}
use Rattle.format.specs.References.{types_right, exits_right, region_right, regions_right}
use Rattle.format.specs.Refusals.{wrong_reference, exit_named_twice}
use Rattle.fields.specs.ByNumber.{before, stands_before}
use Rattle.fields.specs.laws.Repeats.{stands_within}
use Rattle.references.specs.Checks.{typed}
use Rattle.references.specs.laws.Walk.{Walk, then_then}

-- The items from place k on.
module _ {A : Type 0} (xs : List A) (d : A) {m : ℕ} (size : m ≡ length xs) where
  pub each_walk : (f : A → Answer Unit) → Walk (λ k. first_refusal f (drop k xs)) (λ k. f (get_or xs k d)) m
  unfolding first_refusal
  each_walk f =
      record {
        more = λ k l. ap (first_refusal f) (from_place xs d size k l);
        done = λ k l. ap (first_refusal f) (none_from xs d size k l);
      }

module _ (g : Graph) (r : ℕ) where
  pub reads_walk : (first : ℕ) (xs : List Instr) {m : ℕ} → m ≡ length xs
      → Walk (λ k. reads_right g r (first + k) (drop k xs)) (λ k. first_refusal (named_right g r (first + k)) (get_or xs k no_instr).reads) m
  unfolding reads_right
  reads_walk first xs size =
      record {
        more = λ k l. let next : suc (first + k) ≡ first + (k + 1) = omega arith in
            ap (reads_right g r (first + k)) (from_place xs no_instr size k l)
            ∙ ap (λ j. if_accepted (first_refusal (named_right g r (first + k)) (get_or xs k no_instr).reads)
            (λ _. reads_right g r j (drop (k + 1) xs))) next;
        done = λ k l. ap (reads_right g r (first + k)) (none_from xs no_instr size k l);
      }

  pub types_walk : (ts : List ℕ) (vs : List Value) {m : ℕ} → m ≡ length ts → m ≡ length vs
      → Walk (λ k. types_right g r (drop k ts) (drop k vs)) (λ k. typed g r (get_or ts k 0) (get_or vs k no_value)) m
  unfolding types_right
  types_walk ts vs sizes size =
      record {
        more = λ k l.
            ap (λ us. types_right g r us (drop k vs)) (from_place ts 0 sizes k l)
            ∙ ap (types_right g r (get_or ts k 0 ∷ drop (k + 1) ts)) (from_place vs no_value size k l)
            ∙ then_then (named_right g r (behind_all g r) (get_or vs k no_value)) (λ _. of_type g r (get_or ts k 0) (get_or vs k no_value))
            (λ _. types_right g r (drop (k + 1) ts) (drop (k + 1) vs));
        done = λ k l. ap (λ us. types_right g r us (drop k vs)) (none_from ts 0 sizes k l);
      }

  -- an exit that is a region, and stands for the first time
  abbrev pub exit_there : List ℕ → ℕ → Answer Unit
  exit_there xs k = refuse_unless wrong_reference r (is_region g (get_or xs k 0))

  abbrev pub exit_new : Bool → Answer Unit
  exit_new seen = refuse_unless exit_named_twice r (not seen)

  abbrev pub exit_right : List ℕ → ℕ → Answer Unit
  exit_right xs k = if_accepted (exit_there xs k) λ _. exit_new (stands_before xs k)

  pub exits_walk : (xs : List ℕ) {m : ℕ} → m ≡ length xs → Walk (λ k. exits_right g r (before xs k) (drop k xs)) (λ k. exit_right xs k) m
  unfolding exits_right before
  exits_walk xs size =
      record {
        more = λ k l.
            ap (exits_right g r (before xs k)) (from_place xs 0 size k l)
            ∙ then_then (exit_there xs k) (λ _. exit_new (is_in (get_or xs k 0) (before xs k)))
            (λ _. exits_right g r (get_or xs k 0 ∷ before xs k) (drop (k + 1) xs))
            ∙ ap (λ j. if_accepted (if_accepted (exit_there xs k) λ _. exit_new (is_in (get_or xs k 0) (before xs k)))
            (λ _. exits_right g r (before xs j) (drop (k + 1) xs))) (sym (add-one k))
            ∙ ap (λ b. if_accepted (if_accepted (exit_there xs k) λ _. exit_new b)
            (λ _. exits_right g r (before xs (k + 1)) (drop (k + 1) xs))) (sym (stands_within xs k (omega arith)));
        done = λ k l. ap (exits_right g r (before xs k)) (none_from xs 0 size k l);
      }

pub regions_walk : (g : Graph) {m : ℕ} → m ≡ length g.regions
    → Walk (λ k. regions_right g k (drop k g.regions)) (λ k. region_right g k (region g k)) m
unfolding regions_right
regions_walk g size =
    record {
      more = λ k l.
          ap (regions_right g k) (from_place g.regions nowhere size k l)
          ∙ ap (λ j. if_accepted (region_right g k (region g k)) (λ _. regions_right g j (drop (k + 1) g.regions))) (sym (add-one k));
      done = λ k l. ap (regions_right g k) (none_from g.regions nowhere size k l);
    }
