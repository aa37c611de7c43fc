-- Steps of the references that the code takes apart: blocks in turn, the first Return, values against types.
use Rattle.std.specs.Prelude.{◌≡◌, Bool, true, false, not, get_or, drop, eqb}
use Rattle.std.proofs.Math.Path.{sym, ap}
use Rattle.std.proofs.Common.{◌∙◌, add-zero, lt-ltb, le-ltb, eq-eqb, ne_eqb}
use mathlib.Core.List.{List, [], ◌∷◌, ◌++◌}
use Prim.Native.Nat.{ℕ, suc, ◌+◌, ◌≤◌, ◌<◌}
use native.Mathlib.Omega.{arith}
use Rattle.std.proofs.Math.ListN.{length, get_or-map}
use Rattle.std.proofs.lemmas.List.{length-map}
use Rattle.meaning.specs.Graph.{Graph, Value, no_value, undef, Instr, Edge, SelectionKind, bool_cond, number, ControlInst, select_branch}
use Rattle.meaning.specs.Graph.{Region, region, edges_of}
use Rattle.format.specs.Store.{Answer, accepted, refused, if_accepted}
use Rattle.format.specs.References.{instructions, type_in, behind_all, refuse_unless, first_refusal, first_return, return_types}
use Rattle.format.specs.References.{values_of, is_region, named_right, of_type, reads_right, types_right, passed_right, test_right}
use Rattle.format.specs.References.{values_right, target_right, edge_right, first_edges, exits_right, regions_right, references}
use Rattle.format.specs.Refusals.{wrong_reference, wrong_type, exit_named_twice}
use Rattle.fields.specs.ByNumber.{stands_before}
use Rattle.references.specs.laws.Walk.{then_then, then_accepted, walk_refused, then_rest}
use Rattle.references.specs.Checks.{typed}
use Rattle.references.specs.laws.Walks.{exit_new, exit_right}
use Rattle.meaning.specs.facts.Parts.{from_place, none_from}

-- A test that fails refuses, one that holds does not.
pub refused_unless : (n r : ℕ) {t : Bool} → t ≡ false → refused n r ≡ refuse_unless n r t
refused_unless n r h = sym (ap (refuse_unless n r) h)

pub accepted_if : (n r : ℕ) {t : Bool} → t ≡ true → accepted tt ≡ refuse_unless n r t
accepted_if n r h = sym (ap (refuse_unless n r) h)

-- The verdict on a value, by its type x.
module _ (g : Graph) (r before : ℕ) (v : Value) {x : ℕ} (is : x ≡ type_in g r before v) where
  zero_type : x ≡ 0 → not (eqb (type_in g r before v) 0) ≡ false
  zero_type h = ap not (eq-eqb _ 0 (sym is ∙ h))

  some_type : (x ≡ 0 → ⊥) → not (eqb (type_in g r before v) 0) ≡ true
  some_type ne = ap not (ne_eqb _ 0 (λ e. ne (is ∙ e)))

  pub not_named : x ≡ 0 → refused wrong_reference r ≡ named_right g r before v
  unfolding named_right
  not_named h = refused_unless wrong_reference r (zero_type h)

  pub is_named : (x ≡ 0 → ⊥) → accepted tt ≡ named_right g r before v
  unfolding named_right
  is_named ne = accepted_if wrong_reference r (some_type ne)

module _ (g : Graph) (r t : ℕ) (v : Value) {x : ℕ} (is : x ≡ type_in g r (behind_all g r) v) where
  pub not_typed : x ≡ 0 → refused wrong_reference r ≡ typed g r t v
  not_typed h = walk_refused (of_type g r t v) (not_named g r (behind_all g r) v is h)

  then_type : (x ≡ 0 → ⊥) → of_type g r t v ≡ typed g r t v
  then_type ne = then_rest (of_type g r t v) (is_named g r (behind_all g r) v is ne)

  pub other_type : (x ≡ 0 → ⊥) → (x ≡ t → ⊥) → refused wrong_type r ≡ typed g r t v
  unfolding of_type
  other_type ne other = refused_unless wrong_type r (ne_eqb _ t (λ e. other (is ∙ e))) ∙ then_type ne

  pub right_type : (x ≡ 0 → ⊥) → x ≡ t → accepted tt ≡ typed g r t v
  unfolding of_type
  right_type ne same = accepted_if wrong_type r (eq-eqb _ t (sym is ∙ same)) ∙ then_type ne

module _ (g : Graph) (r : ℕ) where
  -- Reads of one list of instructions and then of another.
  pub reads_append : (k : ℕ) (xs ys : List Instr) → reads_right g r k (xs ++ ys) ≡ if_accepted (reads_right g r k xs)
      (λ _. reads_right g r (k + length xs) ys)
  unfolding reads_right
  reads_append k [] ys = ap (λ j. reads_right g r j ys) (sym (add-zero k))
  reads_append k (x ∷ xs) ys =
      let next : suc k + length xs ≡ k + suc (length xs) = omega arith in
      ap (λ rest. if_accepted (first_refusal (named_right g r k) x.reads) (λ _. rest))
      (reads_append (suc k) xs ys ∙ ap (λ j. if_accepted (reads_right g r (suc k) xs) (λ _. reads_right g r j ys)) next)
      ∙ then_then (first_refusal (named_right g r k) x.reads) (λ _. reads_right g r (suc k) xs)
      (λ _. reads_right g r (k + suc (length xs)) ys)

  -- By blocks, of which the code has n.
  module _ (bs : List (List Instr)) {n : ℕ} (size : n ≡ length bs) (whole : Answer Unit) (b first : ℕ) where
    reads_from : b < n → reads_right g r first (instructions (drop b bs)) ≡ if_accepted (reads_right g r first (get_or bs b []))
        (λ _. reads_right g r (first + length (get_or bs b [])) (instructions (drop (b + 1) bs)))
    unfolding instructions
    reads_from l =
        ap (λ xs. reads_right g r first (instructions xs)) (from_place bs [] size b l)
        ∙ reads_append first (get_or bs b []) (instructions (drop (b + 1) bs))

    pub block_passes : b < n → reads_right g r first (instructions (drop b bs)) ≡ whole → accepted tt ≡ reads_right g r first (get_or bs b [])
        → reads_right g r (first + length (get_or bs b [])) (instructions (drop (b + 1) bs)) ≡ whole
    block_passes l h a =
        then_rest (reads_right g r (first + length (get_or bs b [])) (instructions (drop (b + 1) bs))) a ∙ sym (reads_from l) ∙ h

    pub block_stops : b < n → reads_right g r first (instructions (drop b bs)) ≡ whole → {i j : ℕ}
        → refused i j ≡ reads_right g r first (get_or bs b []) → refused i j ≡ whole
    block_stops l h a =
        walk_refused (reads_right g r (first + length (get_or bs b [])) (instructions (drop (b + 1) bs))) a ∙ sym (reads_from l) ∙ h

    pub blocks_end : n ≤ b → reads_right g r first (instructions (drop b bs)) ≡ whole → accepted tt ≡ whole
    unfolding instructions reads_right
    blocks_end l h = ap (λ xs. reads_right g r first (instructions xs)) (sym (none_from bs [] size b l)) ∙ h

  -- As many values as types, or not.
  module _ (types : List ℕ) (vs : List Value) {n m : ℕ} (values_are : n ≡ length vs) (types_are : m ≡ length types) where
    pub sizes_differ : (n ≡ m → ⊥) → refused wrong_type r ≡ passed_right g r types vs
    unfolding passed_right
    sizes_differ ne =
        walk_refused (types_right g r types vs) (refused_unless wrong_type r
        (ne_eqb (length vs) (length types) (λ e. ne (values_are ∙ e ∙ sym types_are))))

    pub sizes_agree : n ≡ m → types_right g r types vs ≡ passed_right g r types vs
    unfolding passed_right
    sizes_agree e =
        then_rest (types_right g r types vs) (accepted_if wrong_type r (eq-eqb (length vs) (length types) (sym values_are ∙ e ∙ types_are)))

-- A target or an exit against the number of regions that the code has.
module _ (g : Graph) (r : ℕ) {count t : ℕ} (regions : count ≡ length g.regions) where
  no_region : (x : ℕ) → t ≡ x → count ≤ t → is_region g x ≡ false
  no_region x is l = le-ltb x (length g.regions) (omega arith)

  a_region : (x : ℕ) → t ≡ x → t < count → is_region g x ≡ true
  a_region x is l = lt-ltb x (length g.regions) (omega arith)

  pub bad_target : (e : Edge) → t ≡ e.target → count ≤ t → refused wrong_reference r ≡ target_right g r e
  unfolding target_right
  bad_target e is l = refused_unless wrong_reference r (no_region e.target is l)

  pub good_target : (e : Edge) → t ≡ e.target → t < count → accepted tt ≡ target_right g r e
  unfolding target_right
  good_target e is l = accepted_if wrong_reference r (a_region e.target is l)

  module _ (xs : List ℕ) (k : ℕ) (is : t ≡ get_or xs k 0) where
    pub bad_exit : count ≤ t → refused wrong_reference r ≡ exit_right g r xs k
    bad_exit l = walk_refused (exit_new g r (stands_before xs k)) (refused_unless wrong_reference r (no_region (get_or xs k 0) is l))

    then_first : t < count → exit_new g r (stands_before xs k) ≡ exit_right g r xs k
    then_first l = then_rest (exit_new g r (stands_before xs k)) (accepted_if wrong_reference r (a_region (get_or xs k 0) is l))

    pub exit_twice : t < count → stands_before xs k ≡ true → refused exit_named_twice r ≡ exit_right g r xs k
    exit_twice l h = refused_unless exit_named_twice r (ap not h) ∙ then_first l

    pub good_exit : t < count → stands_before xs k ≡ false → accepted tt ≡ exit_right g r xs k
    good_exit l h = accepted_if exit_named_twice r (ap not h) ∙ then_first l

-- An edge's values against the inputs of its target t.
module _ (g : Graph) (r : ℕ) (e : Edge) {t n m : ℕ} (target : t ≡ e.target) (values_are : n ≡ length e.inputs)
    (types_are : m ≡ length (region g t).inputs) where
  pub edge_differs : (n ≡ m → ⊥) → refused wrong_type r ≡ edge_right g r e
  unfolding edge_right
  edge_differs ne =
      sizes_differ g r (region g e.target).inputs e.inputs values_are (types_are ∙ ap (λ q. length (region g q).inputs) target) ne

  pub edge_agrees : n ≡ m → types_right g r (region g t).inputs e.inputs ≡ edge_right g r e
  unfolding edge_right
  edge_agrees same =
      ap (λ q. types_right g r (region g q).inputs e.inputs) target
      ∙ sizes_agree g r (region g e.target).inputs e.inputs values_are
      (types_are ∙ ap (λ q. length (region g q).inputs) target) same

-- The types that the first Return region returns.
pub return_count : (g : Graph) {q n : ℕ} → q ≡ first_return g.regions → n ≡ length (values_of (region g q).terminator)
    → n ≡ length (return_types g)
unfolding return_types
return_count g h size =
    size ∙ ap (λ q. length (values_of (region g q).terminator)) h
    ∙ sym (length-map (values_of (region g (first_return g.regions)).terminator) _)

pub return_type : (g : Graph) {q : ℕ} (k : ℕ) → q ≡ first_return g.regions
    → type_in g q (behind_all g q) (get_or (values_of (region g q).terminator) k no_value) ≡ get_or (return_types g) k 0
unfolding return_types
return_type g k h =
    let q = first_return g.regions in
    ap (λ q. type_in g q (behind_all g q) (get_or (values_of (region g q).terminator) k no_value)) h
    ∙ sym (get_or-map (type_in g q (behind_all g q)) (values_of (region g q).terminator) k no_value)

-- A test's value, of which the terminator has one.
module _ (g : Graph) (r : ℕ) (x : ControlInst) where
  tested : {k : SelectionKind} → select_branch k (get_or (values_of x) 0 (undef 0)) (edges_of x) ≡ x
      → get_or (values_of x) 0 no_value ≡ get_or (values_of x) 0 (undef 0)
  tested h = ap (λ y. get_or (values_of y) 0 no_value) (sym h)

  pub test_bool : select_branch bool_cond (get_or (values_of x) 0 (undef 0)) (edges_of x) ≡ x
      → typed g r 1 (get_or (values_of x) 0 no_value) ≡ values_right g r x
  unfolding values_right test_right
  test_bool h = ap (typed g r 1) (tested h) ∙ ap (values_right g r) h

  pub test_number : select_branch number (get_or (values_of x) 0 (undef 0)) (edges_of x) ≡ x
      → named_right g r (behind_all g r) (get_or (values_of x) 0 no_value) ≡ values_right g r x
  unfolding values_right test_right
  test_number h =
      ap (named_right g r (behind_all g r)) (tested h) ∙ sym
      (then_accepted (named_right g r (behind_all g r) (get_or (values_of x) 0 (undef 0)))) ∙ ap (values_right g r) h

-- What is left of a region's checks behind its reads, its values, its targets, its edges.
module _ (g : Graph) (r : ℕ) (x : Region) where
  abbrev pub after_edges : Answer Unit
  after_edges = exits_right g r [] x.exits

  abbrev pub after_targets : Answer Unit
  after_targets = if_accepted (first_refusal (edge_right g r) (first_edges [] (edges_of x.terminator))) λ _. after_edges

  abbrev pub after_values : Answer Unit
  after_values = if_accepted (first_refusal (target_right g r) (edges_of x.terminator)) λ _. after_targets

  abbrev pub after_reads : Answer Unit
  after_reads = if_accepted (values_right g r x.terminator) λ _. after_values

-- The entry against the number of regions that the code has.
module _ (g : Graph) {count t : ℕ} (regions : count ≡ length g.regions) (is : t ≡ g.entry) where
  pub bad_entry : count ≤ t → refused wrong_reference 0 ≡ references g
  unfolding references
  bad_entry l = walk_refused (regions_right g 0 g.regions) (refused_unless wrong_reference 0 (no_region g 0 regions g.entry is l))

  pub good_entry : t < count → regions_right g 0 g.regions ≡ references g
  unfolding references
  good_entry l = then_rest (regions_right g 0 g.regions) (accepted_if wrong_reference 0 (a_region g 0 regions g.entry is l))
