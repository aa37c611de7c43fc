-- References in record order: refusals 6, 7 and 8 (document 01, "What turns a record away").
use Rattle.std.specs.Prelude.{Bool, true, false, ◌&&◌, not, ℕ, suc, length, get_or, eqb, ltb}
use mathlib.Core.List.{List, [], ◌∷◌, map}
use Rattle.meaning.specs.Graph.{Value, const, input, instr, output, bool, undef, held, Instr, SelectionKind, bool_cond, number, Edge}
use Rattle.meaning.specs.Graph.{ControlInst, unreachable, return, exit_invocation, branch, select_branch, Region, Graph, region, edges_of}
use Rattle.meaning.specs.Graph.{no_value}
use Rattle.meaning.specs.Lists.{concat, is_in, pick}
use Rattle.format.specs.Store.{Answer, accepted, refused, if_accepted}
use Rattle.format.specs.Refusals.{wrong_reference, wrong_type, exit_named_twice}

-- A region's instructions are counted from 0 through its blocks.
unfoldable pub instructions : List (List Instr) → List Instr
instructions bs = concat bs

abbrev pub no_instr : Instr
no_instr = record { opcode = 0; type = 0; cost = 0; reads = [] }

-- The type of the output of instruction k, 0 where it has none.
abbrev pub instr_type : Region → ℕ → ℕ
instr_type x k = (get_or (instructions x.blocks) k no_instr).type

-- The type of a value used in a region behind its first `before` instructions; 0 where it names nothing allowed there.
abbrev pub type_in : Graph → ℕ → ℕ → Value → ℕ
type_in g r before (const i) = get_or g.constants i 0
type_in g r before (input q k) = pick (eqb q r) (get_or (region g r).inputs k 0) 0
type_in g r before (instr q k) = pick (eqb q r && ltb k before) (instr_type (region g r) k) 0
type_in g r before (output o) = 0
type_in g r before (bool b) = 1
type_in g r before (undef t) = t
type_in g r before no_value = 0
type_in g r before (held q k) = 0

-- The refusal of a number in region r, unless the test holds.
abbrev pub refuse_unless : ℕ → ℕ → Bool → Answer Unit
refuse_unless n r true = accepted tt
refuse_unless n r false = refused n r

-- The first refusal of a list, if there is one.
unfoldable pub first_refusal : {A : Type 0} → (A → Answer Unit) → List A → Answer Unit
first_refusal f [] = accepted tt
first_refusal f (x ∷ xs) = if_accepted (f x) λ _. first_refusal f xs

abbrev pub is_return : ControlInst → Bool
is_return unreachable = false
is_return (return vs) = true
is_return (exit_invocation op vs) = false
is_return (branch e) = false
is_return (select_branch k v es) = false

-- How many regions stand before the first Return region.
unfoldable pub first_return : List Region → ℕ
first_return [] = 0
first_return (x ∷ xs) = elim (is_return x.terminator) [ true ↦ 0 | false ↦ suc (first_return xs) ]

-- The values of a terminator: what it returns, exits with, or tests.
abbrev pub values_of : ControlInst → List Value
values_of unreachable = []
values_of (return vs) = vs
values_of (exit_invocation op vs) = vs
values_of (branch e) = []
values_of (select_branch k v es) = v ∷ []

-- The terminator stands behind all instructions of its region.
abbrev pub behind_all : Graph → ℕ → ℕ
behind_all g r = length (instructions (region g r).blocks)

-- The types of what the first Return region returns, with which every other agrees.
unfoldable pub return_types : Graph → List ℕ
unfolding first_return instructions
return_types g =
    let q = first_return g.regions in map (type_in g q (behind_all g q)) (values_of (region g q).terminator)

-- The edges whose target stands for the first time; `seen` stood before.
unfoldable pub first_edges : List ℕ → List Edge → List Edge
first_edges seen [] = []
first_edges seen (e ∷ es) =
    elim (is_in e.target seen) [ true ↦ first_edges seen es | false ↦ e ∷ first_edges (e.target ∷ seen) es ]

abbrev pub is_region : Graph → ℕ → Bool
is_region g r = ltb r (length g.regions)

module _ (g : Graph) (r : ℕ) where
  unfoldable pub named_right : ℕ → Value → Answer Unit
  unfolding instructions
  named_right before v = refuse_unless wrong_reference r (not (eqb (type_in g r before v) 0))

  unfoldable pub of_type : ℕ → Value → Answer Unit
  unfolding instructions
  of_type t v = refuse_unless wrong_type r (eqb (type_in g r (behind_all g r) v) t)

  -- Each read of the instructions from number k on.
  unfoldable pub reads_right : ℕ → List Instr → Answer Unit
  unfolding first_refusal named_right
  reads_right k [] = accepted tt
  reads_right k (i ∷ is) = if_accepted (first_refusal (named_right k) i.reads) λ _. reads_right (suc k) is

  unfoldable pub types_right : List ℕ → List Value → Answer Unit
  unfolding named_right of_type instructions
  types_right [] vs = accepted tt
  types_right (t ∷ ts) [] = accepted tt
  types_right (t ∷ ts) (v ∷ vs) =
      if_accepted (named_right (behind_all g r) v) λ _. if_accepted (of_type t v) λ _. types_right ts vs

  -- Values for inputs of these types: as many, then each named, and of its type.
  unfoldable pub passed_right : List ℕ → List Value → Answer Unit
  unfolding types_right
  passed_right types vs = if_accepted (refuse_unless wrong_type r (eqb (length vs) (length types))) λ _. types_right types vs

  unfoldable pub test_right : SelectionKind → Value → Answer Unit
  unfolding of_type
  test_right bool_cond v = of_type 1 v
  test_right number v = accepted tt

  unfoldable pub values_right : ControlInst → Answer Unit
  unfolding first_refusal named_right instructions passed_right return_types test_right
  values_right unreachable = accepted tt
  values_right (return vs) = passed_right (return_types g) vs
  values_right (exit_invocation op vs) = first_refusal (named_right (behind_all g r)) vs
  values_right (branch e) = accepted tt
  values_right (select_branch k v es) = if_accepted (named_right (behind_all g r) v) λ _. test_right k v

  unfoldable pub target_right : Edge → Answer Unit
  target_right e = refuse_unless wrong_reference r (is_region g e.target)

  unfoldable pub edge_right : Edge → Answer Unit
  unfolding passed_right
  edge_right e = passed_right (region g e.target).inputs e.inputs

  -- Each exit is a region (6), and none stands twice (8).
  unfoldable pub exits_right : List ℕ → List ℕ → Answer Unit
  exits_right seen [] = accepted tt
  exits_right seen (x ∷ xs) =
      if_accepted (refuse_unless wrong_reference r (is_region g x)) λ _.
      if_accepted (refuse_unless exit_named_twice r (not (is_in x seen))) λ _. exits_right (x ∷ seen) xs

  unfoldable pub region_right : Region → Answer Unit
  unfolding reads_right instructions values_right first_refusal target_right edge_right first_edges exits_right
  region_right x =
      if_accepted (reads_right 0 (instructions x.blocks)) λ _.
      if_accepted (values_right x.terminator) λ _.
      if_accepted (first_refusal target_right (edges_of x.terminator)) λ _.
      if_accepted (first_refusal edge_right (first_edges [] (edges_of x.terminator))) λ _.
      exits_right [] x.exits

unfoldable pub regions_right : Graph → ℕ → List Region → Answer Unit
unfolding region_right
regions_right g r [] = accepted tt
regions_right g r (x ∷ xs) = if_accepted (region_right g r x) λ _. regions_right g (suc r) xs

-- The entry, then each region, also where it is out of reach.
unfoldable pub references : Graph → Answer Unit
unfolding regions_right
references g = if_accepted (refuse_unless wrong_reference 0 (is_region g g.entry)) λ _. regions_right g 0 g.regions
