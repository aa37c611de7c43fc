-- Every refusal has a number from 1 to 8 and a word below 32: the number of a block, of a region, or 0.
use Rattle.std.specs.Prelude.{◌≡◌, refl, Bool, true, false, ◌&&◌, not, ℕ, zero, suc, ◌+◌, ◌/◌, ◌%◌, ◌≤◌, ◌<◌, length, eqb, leb, ltb}
use mathlib.Core.List.{List, [], ◌∷◌}
use native.Mathlib.Omega.{arith}
use Rattle.std.proofs.Common.{leb-true}
use Rattle.meaning.specs.Graph.{Value, Instr, SelectionKind, bool_cond, number, Edge, ControlInst, unreachable, return, exit_invocation}
use Rattle.meaning.specs.Graph.{branch, select_branch, edges_of, Region, Graph}
use Rattle.meaning.specs.Graph as graph
use Rattle.format.specs.Store.{Answer, accepted, refused, if_accepted, blocks_checked, number_right, check_right, length_right}
use Rattle.format.specs.Store.{count_right, word_at, store_words}
use Rattle.format.specs.Read.{Read, got, bad, read_region, settle, regions_from, head, read_record}
use Rattle.meaning.specs.Lists.{pick, is_in, tabulate, Within}
use Rattle.format.specs.References.{refuse_unless, first_refusal, type_in, instructions, behind_all, return_types, is_region}
use Rattle.format.specs.References.{named_right, of_type, reads_right, types_right, passed_right, test_right, values_right}
use Rattle.format.specs.References.{target_right, edge_right, first_edges, exits_right, region_right, regions_right, references}
use Rattle.format.specs.Accept.{accept}
use Rattle.format.specs.laws.WellRead.{head_read, record_read}
use Rattle.format.proofs.laws.ReadingStops.{StopsReading, region_stops, head_stops}
use Rattle.format.specs.Refusals.{wrong_length, wrong_block_number, wrong_check, wrong_word_count, wrong_reference, wrong_type}
use Rattle.format.specs.Refusals.{exit_named_twice, out_of_range}
use Rattle.meaning.specs.facts.Tests.{and_both}

-- P of a refusal's number and word. Nothing is said of what is accepted.
abbrev pub IfRefused : {A : Type 0} → (ℕ → ℕ → Type 0) → Answer A → Type 0
IfRefused P (accepted a) = Unit
IfRefused P (refused n w) = P n w

pub then_refused : {A B : Type 0} (P : ℕ → ℕ → Type 0) (r : Answer A) (k : A → Answer B)
    → IfRefused P r → ((a : A) → r ≡ accepted a → IfRefused P (k a)) → IfRefused P (if_accepted r k)
then_refused P (accepted a) k h more = more a refl
then_refused P (refused n w) k h more = h

abbrev Ranges : ℕ → ℕ → Type 0
Ranges n w = Within 1 8 n × (w < 32)

abbrev pub InRange : {A : Type 0} → Answer A → Type 0
InRange r = IfRefused Ranges r

then_range : {A B : Type 0} (r : Answer A) (k : A → Answer B) → InRange r → ((a : A) → r ≡ accepted a → InRange (k a))
    → InRange (if_accepted r k)
then_range r k h more = then_refused Ranges r k h more

settle_range : {A B : Type 0} (r : ℕ) (x : Read A) (k : A → ℕ → Answer B) → r < 32 → StopsReading x
    → ((a : A) (at : ℕ) → x ≡ got a at → InRange (k a at)) → InRange (settle r x k)
settle_range r (got a at) k l h more = more a at refl
settle_range r (bad n) k l h more = ((omega arith, omega arith), by_test (eqb n out_of_range))
  where
    by_test : (b : Bool) → pick b r 0 < 32
    by_test true = l
    by_test false = omega arith

-- The store.
blocks_range : (s : List ℕ) (n : ℕ) → n ≤ 32 → InRange (blocks_checked s n)
unfolding blocks_checked
blocks_range s zero l = tt
blocks_range s (suc n) l =
    then_range (blocks_checked s n) _ (blocks_range s n (omega arith)) λ u e. by_tests (number_right s n) (check_right s n)
  where
    by_tests : (a b : Bool) → InRange {A = Unit}
        (elim a [ false ↦ refused wrong_block_number n | true ↦ elim b [ false ↦ refused wrong_check n | true ↦ accepted tt ] ])
    by_tests true true = tt
    by_tests true false = ((omega arith, omega arith), omega arith)
    by_tests false b = ((omega arith, omega arith), omega arith)

store_range : (s : List ℕ) → InRange (store_words s)
unfolding store_words
store_range s = by_length (length_right (length s)) refl
  where
    by_count : (b : Bool) → InRange {A = List ℕ}
        (elim b [ false ↦ refused wrong_word_count 0 | true ↦ accepted (tabulate (word_at s 0) (word_at s)) ])
    by_count true = tt
    by_count false = ((omega arith, omega arith), omega arith)

    by_length : (b : Bool) → length_right (length s) ≡ b → InRange {A = List ℕ}
        (elim b [
          | false ↦ refused wrong_length 0
          | true ↦ if_accepted (blocks_checked s (length s / 512)) λ _. elim
              (count_right s (length s / 512) (word_at s 0)) [
                | false ↦ refused wrong_word_count 0
                | true ↦ accepted (tabulate (word_at s 0) (word_at s))
              ]
        ])
    by_length true q =
        let few : length s ≤ 8192 =
        leb-true (length s) 8192
        (and_both (leb (length s) 8192) (eqb (length s % 512) 0)
        (and_both (ltb 0 (length s)) (leb (length s) 8192 && eqb (length s % 512) 0) q).1).0 in
        then_range (blocks_checked s (length s / 512)) _ (blocks_range s (length s / 512) (omega arith)) λ u e. by_count
        (count_right s (length s / 512) (word_at s 0))
    by_length false q = ((omega arith, omega arith), omega arith)

-- Reading.
regions_range : (n r : ℕ) (ws : List ℕ) (at : ℕ) → r + n ≤ 32 → InRange (regions_from n r ws at)
unfolding regions_from
regions_range zero r ws at l = by_test (eqb at (length ws))
  where
    by_test : (b : Bool) → InRange {A = List Region} (elim b [ true ↦ accepted [] | false ↦ refused wrong_word_count 0 ])
    by_test true = tt
    by_test false = ((omega arith, omega arith), omega arith)
regions_range (suc n) r ws at l =
    settle_range r (read_region ws at) _ (omega arith) (region_stops ws at) λ x i e.
    then_range (regions_from n (suc r) ws i) _ (regions_range n (suc r) ws i (omega arith)) λ xs e. tt

record_range : (ws : List ℕ) → InRange (read_record ws)
unfolding read_record
record_range ws =
    settle_range 0 (head ws 1) _ (omega arith) (head_stops ws 1) λ h at e.
    then_range (regions_from h.count 0 ws at) _
    (regions_range h.count 0 ws at (omega (arith, (head_read ws 1 h at e).0.1))) λ rs e. tt

-- The references.
expect_range : (n r : ℕ) (b : Bool) → Within 1 8 n → r < 32 → InRange (refuse_unless n r b)
expect_range n r true h l = tt
expect_range n r false h l = (h, l)

each_range : {A : Type 0} (f : A → Answer Unit) → ((x : A) → InRange (f x)) → (xs : List A) → InRange (first_refusal f xs)
unfolding first_refusal
each_range f h [] = tt
each_range f h (x ∷ xs) = then_range (f x) _ (h x) λ u e. each_range f h xs

module _ (g : Graph) (r : ℕ) (l : r < 32) where
  named_range : (before : ℕ) (v : Value) → InRange (named_right g r before v)
  unfolding named_right
  named_range before v = expect_range wrong_reference r (not (eqb (type_in g r before v) 0)) (omega arith, omega arith) l

  type_range : (t : ℕ) (v : Value) → InRange (of_type g r t v)
  unfolding of_type
  type_range t v = expect_range wrong_type r (eqb (type_in g r (behind_all g r) v) t) (omega arith, omega arith) l

  reads_range : (k : ℕ) (is : List Instr) → InRange (reads_right g r k is)
  unfolding reads_right
  reads_range k [] = tt
  reads_range k (i ∷ is) =
      then_range (first_refusal (named_right g r k) i.reads) _
      (each_range (named_right g r k) (named_range k) i.reads) λ u e. reads_range (suc k) is

  types_range : (ts : List ℕ) (vs : List Value) → InRange (types_right g r ts vs)
  unfolding types_right
  types_range [] vs = tt
  types_range (t ∷ ts) [] = tt
  types_range (t ∷ ts) (v ∷ vs) =
      then_range (named_right g r (behind_all g r) v) _ (named_range (behind_all g r) v) λ u e. then_range (of_type g r t v) _
      (type_range t v) λ w f. types_range ts vs

  passed_range : (ts : List ℕ) (vs : List Value) → InRange (passed_right g r ts vs)
  unfolding passed_right
  passed_range ts vs =
      then_range (refuse_unless wrong_type r (eqb (length vs) (length ts))) _
      (expect_range wrong_type r (eqb (length vs) (length ts)) (omega arith, omega arith) l) λ u e. types_range ts vs

  test_range : (k : SelectionKind) (v : Value) → InRange (test_right g r k v)
  unfolding test_right
  test_range bool_cond v = type_range 1 v
  test_range number v = tt

  values_range : (x : ControlInst) → InRange (values_right g r x)
  unfolding values_right
  values_range unreachable = tt
  values_range (return vs) = passed_range (return_types g) vs
  values_range (exit_invocation op vs) = each_range (named_right g r (behind_all g r)) (named_range (behind_all g r)) vs
  values_range (branch e) = tt
  values_range (select_branch k v es) =
      then_range (named_right g r (behind_all g r) v) _ (named_range (behind_all g r) v) λ u e. test_range k v

  target_range : (e : Edge) → InRange (target_right g r e)
  unfolding target_right
  target_range e = expect_range wrong_reference r (is_region g e.target) (omega arith, omega arith) l

  edge_range : (e : Edge) → InRange (edge_right g r e)
  unfolding edge_right
  edge_range e = passed_range (graph.region g e.target).inputs e.inputs

  exits_range : (seen xs : List ℕ) → InRange (exits_right g r seen xs)
  unfolding exits_right
  exits_range seen [] = tt
  exits_range seen (x ∷ xs) =
      then_range (refuse_unless wrong_reference r (is_region g x)) _
      (expect_range wrong_reference r (is_region g x) (omega arith, omega arith) l) λ u e.
      then_range (refuse_unless exit_named_twice r (not (is_in x seen))) _
      (expect_range exit_named_twice r (not (is_in x seen)) (omega arith, omega arith) l) λ w f.
      exits_range (x ∷ seen) xs

  region_range : (x : Region) → InRange (region_right g r x)
  unfolding region_right
  region_range x =
      then_range (reads_right g r 0 (instructions x.blocks)) _ (reads_range 0 (instructions x.blocks)) λ a e.
      then_range (values_right g r x.terminator) _ (values_range x.terminator) λ b f.
      then_range (first_refusal (target_right g r) (edges_of x.terminator)) _
      (each_range (target_right g r) target_range (edges_of x.terminator)) λ c h.
      then_range (first_refusal (edge_right g r) (first_edges [] (edges_of x.terminator))) _
      (each_range (edge_right g r) edge_range (first_edges [] (edges_of x.terminator))) λ d i.
      exits_range [] x.exits

each_region_range : (g : Graph) (r : ℕ) (xs : List Region) → r + length xs ≤ 32 → InRange (regions_right g r xs)
unfolding regions_right
each_region_range g r [] l = tt
each_region_range g r (x ∷ xs) l =
    then_range (region_right g r x) _ (region_range g r (omega arith) x) λ u e. each_region_range g (suc r) xs (omega arith)

references_range : (g : Graph) → length g.regions ≤ 32 → InRange (references g)
unfolding references
references_range g l =
    then_range (refuse_unless wrong_reference 0 (is_region g g.entry)) _
    (expect_range wrong_reference 0 (is_region g g.entry) (omega arith, omega arith) (omega arith)) λ u e.
    each_region_range g 0 g.regions (omega arith)

pub refusal_range : (s : List ℕ) → InRange (accept s)
unfolding accept
refusal_range s =
    then_range (store_words s) _ (store_range s) λ ws e.
    then_range (read_record ws) _ (record_range ws) λ g f.
    then_range (references g) _ (references_range g (record_read ws g f).count.1) λ u h. tt

-- No refusal has number 0, and none one above 8.
pub number_within : (s : List ℕ) {n w : ℕ} → accept s ≡ refused n w → Within 1 8 n
number_within s {n} {w} h = (rw h at (refusal_range s)).0
