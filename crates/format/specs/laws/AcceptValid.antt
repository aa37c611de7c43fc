-- What `accept` accepts is Valid.
use Rattle.std.specs.Prelude.{◌≡◌, Bool, ◌||◌, get_or, eqb}
use Rattle.std.proofs.Math.Path.{refl}
use Rattle.std.proofs.Common.{sym}
use Rattle.std.proofs.Math.Bool.{true, false, not}
use mathlib.Core.List.{List, [], ◌∷◌}
use Prim.Native.Nat.{ℕ, zero, suc, ◌+◌, ◌≤◌, ◌<◌}
use native.Mathlib.Omega.{arith}
use Rattle.std.proofs.Math.ListN.{length}
use borrow.Author.Tests.{ltb-true, eqb-true, not-true}
use Rattle.meaning.specs.Graph.{Value, Instr, SelectionKind, bool_cond, number, Edge, ControlInst, unreachable, return, exit_invocation}
use Rattle.meaning.specs.Graph.{branch, select_branch, Region, Graph, nowhere, edges_of}
use Rattle.meaning.specs.Graph as graph
use Rattle.format.specs.Store.{Answer, accepted, store_words}
use Rattle.meaning.specs.Lists.{is_in, Distinct, All, Within}
use Rattle.format.specs.Read.{read_record}
use Rattle.format.specs.References.{instructions, type_in, refuse_unless, first_refusal, named_right, of_type, reads_right}
use Rattle.format.specs.References.{types_right, passed_right, test_right, values_right, target_right, edge_right, first_edges}
use Rattle.format.specs.References.{exits_right, region_right, regions_right, references, behind_all, return_types, is_region}
use Rattle.format.specs.Accept.{accept}
use Rattle.format.specs.Valid.{Usable, Passed, ValidInstrs, ValidEdge, TestRight, ValidEnd, ValidRegion, Valid}
use Rattle.meaning.specs.facts.Tests.{clash}
use Rattle.meaning.specs.facts.Members.{none_seen}
use Rattle.format.specs.laws.WellRead.{SamePasses, InstrRead, BlockRead, EndRead, TargetsRead, RegionRead, RecordRead, record_read}
use Rattle.format.specs.laws.WellRead.{step}
use Rattle.format.specs.Refusals.{wrong_reference, wrong_type, exit_named_twice}
use Rattle.meaning.specs.facts.Elements.{all_map, all_append}

-- the instructions of blocks that were read
instructions_read : (bs : List (List Instr)) → All BlockRead bs → All InstrRead (instructions bs)
unfolding instructions
instructions_read [] h = tt
instructions_read (b ∷ bs) h = all_append InstrRead b (instructions bs) h.0.all (instructions_read bs h.1)

expected : (n r : ℕ) (b : Bool) → refuse_unless n r b ≡ accepted tt → b ≡ true
expected n r true h = refl
expected n r false h = absurd (clash (cc))

each_all : {A : Type 0} (f : A → Answer Unit) (xs : List A) → first_refusal f xs ≡ accepted tt → All (λ x. f x ≡ accepted tt) xs
unfolding first_refusal
each_all f [] h = tt
each_all f (x ∷ xs) h = let a = step (f x) _ tt h in (a.first, each_all f xs a.second)

module _ (g : Graph) (r : ℕ) where
  named_usable : (before : ℕ) (v : Value) → named_right g r before v ≡ accepted tt → Usable g r before v
  unfolding named_right
  named_usable before v h =
      record { typed = over (type_in g r before v) (expected 6 r (not (eqb (type_in g r before v) 0)) h) }
    where
      over : (t : ℕ) → not (eqb t 0) ≡ true → 1 ≤ t
      over zero q = absurd (clash (cc))
      over (suc t) q = omega arith

  type_is : (t : ℕ) (v : Value) → of_type g r t v ≡ accepted tt → type_in g r (behind_all g r) v ≡ t
  unfolding of_type
  type_is t v h = eqb-true (type_in g r (behind_all g r) v) t (expected 7 r (eqb (type_in g r (behind_all g r) v) t) h)

  types_passed : (ts : List ℕ) (vs : List Value) → length vs ≡ length ts → types_right g r ts vs ≡ accepted tt → Passed g r ts vs
  unfolding types_right
  types_passed [] [] l h = tt
  types_passed [] (v ∷ vs) l h = absurd (omega arith)
  types_passed (t ∷ ts) [] l h = absurd (omega arith)
  types_passed (t ∷ ts) (v ∷ vs) l h =
      let a = step (named_right g r (behind_all g r) v) _ tt h in
      let b = step (of_type g r t v) _ tt a.second in
      (named_usable (behind_all g r) v a.first, type_is t v b.first, types_passed ts vs (omega arith) b.second)

  passed_valid : (ts : List ℕ) (vs : List Value) → passed_right g r ts vs ≡ accepted tt → Passed g r ts vs
  unfolding passed_right
  passed_valid ts vs h =
      let a = step (refuse_unless wrong_type r (eqb (length vs) (length ts))) _ tt h in
      types_passed ts vs (eqb-true (length vs) (length ts) (expected 7 r (eqb (length vs) (length ts)) a.first)) a.second

  instrs_valid : (k : ℕ) (is : List Instr) → All InstrRead is → reads_right g r k is ≡ accepted tt → ValidInstrs g r k is
  unfolding reads_right
  instrs_valid k [] w h = tt
  instrs_valid k (i ∷ is) w h =
      let a = step (first_refusal (named_right g r k) i.reads) _ tt h in
      let reads = all_map (λ v. named_right g r k v ≡ accepted tt) (Usable g r k) (named_usable k) i.reads
      (each_all (named_right g r k) i.reads a.first) in
      (record { type = w.0.type; few = w.0.few; reads = reads }, instrs_valid (suc k) is w.1 a.second)

  -- What holds of the first edge to each target holds of every edge, where all edges to a target pass the same.
  module _ (passed : ℕ → List Value) where
    abbrev Right : ℕ → Type 0
    Right t = Passed g r (graph.region g t).inputs (passed t)

    abbrev Edges : List Edge → Type 0
    Edges es = All (λ (e : Edge). e.inputs ≡ passed e.target) es

    seen_then : (seen : List ℕ) → ((t : ℕ) → is_in t seen ≡ true → Right t) → (u : ℕ) → Right u → (t : ℕ) → is_in t (u ∷ seen) ≡ true
        → Right t
    seen_then seen old u new t q = over (eqb t u) refl q
      where
        over : (b : Bool) → eqb t u ≡ b → (b || is_in t seen) ≡ true → Right t
        over true e q = rw (eqb-true t u e) new
        over false e q = old t q

    edges_right : (seen : List ℕ) (es : List Edge) → ((t : ℕ) → is_in t seen ≡ true → Right t) → Edges es
        → first_refusal (edge_right g r) (first_edges seen es) ≡ accepted tt → All (λ (e : Edge). Right e.target) es
    unfolding first_edges first_refusal edge_right
    edges_right seen [] old same h = tt
    edges_right seen (e ∷ es) old same h =
        over (is_in e.target seen) refl (λ q. edges_right seen es old same.1 q)
        (λ new q. edges_right (e.target ∷ seen) es (seen_then seen old e.target new) same.1 q) h
      where
        over : (b : Bool) → is_in e.target seen ≡ b
            → (first_refusal (edge_right g r) (first_edges seen es) ≡ accepted tt → All (λ (d : Edge). Right d.target) es)
            → (Right e.target → first_refusal (edge_right g r) (first_edges (e.target ∷ seen) es) ≡ accepted tt
            → All (λ (d : Edge). Right d.target) es) → first_refusal (edge_right g r)
            (elim b [ true ↦ first_edges seen es | false ↦ e ∷ first_edges (e.target ∷ seen) es ]) ≡ accepted tt
            → Right e.target × All (λ (d : Edge). Right d.target) es
        over true q rest rest_new h = (old e.target q, rest h)
        over false q rest rest_new h =
            let a = step (edge_right g r e) _ tt h in
            let new : Right e.target = rw (sym same.0) (passed_valid (graph.region g e.target).inputs e.inputs a.first) in
            (new, rest_new new a.second)

  targets_right : (es : List Edge) → first_refusal (target_right g r) es ≡ accepted tt
      → All (λ (e : Edge). e.target < length g.regions) es
  unfolding target_right
  targets_right es h =
      all_map (λ (e : Edge). target_right g r e ≡ accepted tt) (λ (e : Edge). e.target < length g.regions)
      (λ e q. ltb-true e.target (length g.regions) (expected 6 r (is_region g e.target) q)) es (each_all (target_right g r) es h)

  edges_valid : (es : List Edge) → SamePasses es → first_refusal (target_right g r) es ≡ accepted tt
      → first_refusal (edge_right g r) (first_edges [] es) ≡ accepted tt → All (ValidEdge g r) es
  edges_valid es same h k =
      both es same.all (targets_right es h) (edges_right same.passed [] es (λ t q. absurd (clash (cc))) same.all k)
    where
      both : (ds : List Edge) → All (λ (e : Edge). e.inputs ≡ same.passed e.target) ds
          → All (λ (e : Edge). e.target < length g.regions) ds
          → All (λ (e : Edge). Passed g r (graph.region g e.target).inputs (same.passed e.target)) ds → All (ValidEdge g r) ds
      both [] s t p = tt
      both (d ∷ ds) s t p = (record { target = t.0; inputs = rw s.0 p.0 }, both ds s.1 t.1 p.1)

  test_valid : (k : SelectionKind) (v : Value) (es : List Edge) → TargetsRead k es → test_right g r k v ≡ accepted tt → TestRight g r k v es
  unfolding test_right
  test_valid bool_cond v es w h = (type_is 1 v h, w)
  test_valid number v es w h = w

  single : (e : Edge) → SamePasses (e ∷ [])
  single e = record { passed = λ t. e.inputs; all = (refl, tt) }

  end_valid : (x : ControlInst) → EndRead x → values_right g r x ≡ accepted tt → first_refusal (target_right g r) (edges_of x) ≡ accepted tt
      → first_refusal (edge_right g r) (first_edges [] (edges_of x)) ≡ accepted tt → ValidEnd g r x
  unfolding values_right
  end_valid unreachable w v t p = tt
  end_valid (return vs) w v t p = (w, passed_valid (return_types g) vs v)
  end_valid (exit_invocation op vs) w v t p = (
    w,
    all_map (λ x. named_right g r (behind_all g r) x ≡ accepted tt) (Usable g r (behind_all g r)) (named_usable (behind_all g r)) vs
        (each_all (named_right g r (behind_all g r)) vs v),
  )
  end_valid (branch e) w v t p = (edges_valid (e ∷ []) (single e) t p).0
  end_valid (select_branch k x es) w v t p =
      let a = step (named_right g r (behind_all g r) x) _ tt v in
      (named_usable (behind_all g r) x a.first, test_valid k x es w.0 a.second, edges_valid es w.1 t p)

  -- the exits: each a region, and none seen before
  pub record Exits (seen xs : List ℕ) : Type 0 where
    pub regions : All (λ t. t < length g.regions) xs
    pub new : All (λ t. is_in t seen ≡ false) xs
    pub distinct : Distinct xs

  exits_valid : (seen xs : List ℕ) → exits_right g r seen xs ≡ accepted tt → Exits seen xs
  unfolding exits_right
  exits_valid seen [] h = record { regions = tt; new = tt; distinct = tt }
  exits_valid seen (x ∷ xs) h =
      let a = step (refuse_unless wrong_reference r (is_region g x)) _ tt h in
      let b = step (refuse_unless exit_named_twice r (not (is_in x seen))) _ tt a.second in
      let rest = exits_valid (x ∷ seen) xs b.second in
      let apart = none_seen x seen xs rest.new in
      record {
        regions = (ltb-true x (length g.regions) (expected 6 r (is_region g x) a.first), rest.regions);
        new = (not-true (is_in x seen) (expected 8 r (not (is_in x seen)) b.first), apart.1);
        distinct = (apart.0, rest.distinct);
      }

  region_valid : (x : Region) → RegionRead x → region_right g r x ≡ accepted tt → ValidRegion g r x
  unfolding region_right
  region_valid x w h =
      let a = step (reads_right g r 0 (instructions x.blocks)) _ tt h in
      let b = step (values_right g r x.terminator) _ tt a.second in
      let c = step (first_refusal (target_right g r) (edges_of x.terminator)) _ tt b.second in
      let d = step (first_refusal (edge_right g r) (first_edges [] (edges_of x.terminator))) _ tt c.second in
      let exits = exits_valid [] x.exits d.second in
      record {
        inputs_few = w.inputs.count.1;
        inputs = w.inputs.all;
        blocks_few = w.blocks.count.1;
        blocks = all_map BlockRead (λ b. Within 1 8 (length b)) (λ b q. q.count) x.blocks w.blocks.all;
        instructions = instrs_valid 0 (instructions x.blocks) (instructions_read x.blocks w.blocks.all) a.first;
        limit = w.limit;
        terminator = end_valid x.terminator w.terminator b.first c.first d.first;
        exits_few = w.exits;
        exits = exits.regions;
        exits_distinct = exits.distinct;
      }

regions_valid : (g : Graph) (r : ℕ) (xs : List Region) → All RegionRead xs → regions_right g r xs ≡ accepted tt → (k : ℕ) → k < length xs
    → ValidRegion g (r + k) (get_or xs k nowhere)
unfolding regions_right
regions_valid g r [] w h k l = absurd (omega arith)
regions_valid g r (x ∷ xs) w h zero l =
    let a = step (region_right g r x) _ tt h in
    let same : r + 0 ≡ r = omega arith in
    rw same (region_valid g r x w.0 a.first)
regions_valid g r (x ∷ xs) w h (suc k) l =
    let a = step (region_right g r x) _ tt h in
    let same : r + suc k ≡ suc r + k = omega arith in
    rw same (regions_valid g (suc r) xs w.1 a.second k (omega arith))

graph_valid : (g : Graph) → RecordRead g → references g ≡ accepted tt → Valid g
unfolding references
graph_valid g w h =
    let a = step (refuse_unless wrong_reference 0 (is_region g g.entry)) _ tt h in
    record {
      count = w.count;
      entry = ltb-true g.entry (length g.regions) (expected 6 0 (is_region g g.entry) a.first);
      constants_few = w.constants.count.1;
      constants = w.constants.all;
      regions = λ r l. let same : 0 + r ≡ r = omega arith in rw same at (regions_valid g 0 g.regions w.regions a.second r l);
    }

-- The theorem.
pub accept_valid : (s : List ℕ) (g : Graph) → accept s ≡ accepted g → Valid g
unfolding accept references
accept_valid s g h =
    let a = step (store_words s) _ g h in
    let b = step (read_record a.value) _ g a.second in
    let c = step (references b.value) _ g b.second in
    let same : b.value ≡ g = cc in
    rw same at (graph_valid b.value (record_read a.value b.value b.first) c.first)
