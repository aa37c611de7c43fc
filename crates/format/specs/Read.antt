-- Reading a record: from words to a graph, refusals 4 and 5 in reading order (document 01, "What turns a record away").
use Rattle.std.specs.Prelude.{Bool, true, false, ◌&&◌, ◌||◌, List, [], ◌∷◌, map, ℕ, zero, suc, ◌+◌, length, get_or, eqb, leb, ltb}
use Rattle.format.specs.Store.{Answer, accepted, refused, if_accepted}
use Rattle.format.specs.Refusals.{wrong_word_count, out_of_range}
use Rattle.meaning.specs.Graph.{Value, const, input, instr, bool, undef, no_value, Instr, bool_cond, number, Edge, ControlInst, unreachable}
use Rattle.meaning.specs.Graph.{return, exit_invocation, branch, select_branch, Region, Graph, no_edge}
use Rattle.meaning.specs.Graph.{const_kind, input_kind, instr_kind, bool_kind, undef_kind}
use Rattle.meaning.specs.Lists.{pick, distinct_from, rank}

-- What was read and the place after it, or the refusal's number.
pub data Read (A : Type 0) : Type 0 where
  got : A → ℕ → Read A
  bad : ℕ → Read A

-- The words of the record, W of them, and a place among them.
abbrev pub Reader : Type 0 → Type 0
Reader A = List ℕ → ℕ → Read A

abbrev pub read_then : {A B : Type 0} → Read A → (A → ℕ → Read B) → Read B
read_then (got a at) k = k a at
read_then (bad n) k = bad n

abbrev pub read_as : {A : Type 0} → A → Reader A
read_as a ws at = got a at

infixl 20 ◌>>=◌ ◌>>◌
abbrev pub ◌>>=◌ : {A B : Type 0} → Reader A → (A → Reader B) → Reader B
◌>>=◌ p k ws at = read_then (p ws at) (λ a at'. k a ws at')

abbrev pub ◌>>◌ : {A B : Type 0} → Reader A → Reader B → Reader B
◌>>◌ p q ws at = read_then (p ws at) (λ a at'. q ws at')

-- Out of range unless the test holds.
abbrev pub expect : Bool → Reader Unit
expect true ws at = got tt at
expect false ws at = bad out_of_range

-- A word; past W there is none.
unfoldable pub word : Reader ℕ
word ws at = elim (ltb at (length ws)) [ true ↦ got (get_or ws at 0) (at + 1) | false ↦ bad wrong_word_count ]

-- A count, type, kind or limit, within its bounds.
unfoldable pub within : ℕ → ℕ → Reader ℕ
unfolding word
within low high = do
  n ← word
  expect (leb low n && leb n high)
  read_as n

unfoldable pub many : {A : Type 0} → ℕ → Reader A → Reader (List A)
many zero p ws at = got [] at
many (suc n) p ws at = read_then (p ws at) λ x at'. read_then (many n p ws at') λ xs at''. got (x ∷ xs) at''

-- A count within its bounds, and so many.
unfoldable pub counted : {A : Type 0} → ℕ → ℕ → Reader A → Reader (List A)
unfolding within many
counted low high p = within low high >>= λ n. many n p

unfoldable pub type : Reader ℕ
unfolding within
type = within 1 255

-- The kinds that a record may have: the output of a node arises only in nesting.
abbrev pub is_kind : ℕ → Bool
is_kind k = leb k instr_kind || (eqb k bool_kind || eqb k undef_kind)

-- Constants, booleans and undefined values have region 0, and a boolean has index 0 or 1. What breaks that names nothing,
-- and the references refuse it.
abbrev pub bool_of : ℕ → Value
bool_of i = pick (leb i 1) (bool (eqb i 1)) no_value

abbrev pub fixed_of : ℕ → ℕ → Value
fixed_of k i = pick (eqb k const_kind) (const i) (pick (eqb k bool_kind) (bool_of i) (undef i))

abbrev pub value_from_words : ℕ → ℕ → ℕ → Value
value_from_words k r i =
    pick (eqb k input_kind) (input r i) (pick (eqb k instr_kind) (instr r i) (pick (eqb r 0) (fixed_of k i) no_value))

-- The index of an undefined value is its type.
abbrev pub index_right : ℕ → ℕ → Bool
index_right k i = pick (eqb k undef_kind) (leb 1 i && leb i 255) true

-- Three words: kind, region, index.
unfoldable pub read_value : Reader Value
unfolding word
read_value = do
  k ← word
  expect (is_kind k)
  r ← word
  i ← word
  expect (index_right k i)
  read_as (value_from_words k r i)

unfoldable pub instruction : Reader Instr
unfolding word within counted read_value
instruction = do
  opcode ← word
  type ← within 0 255
  cost ← word
  reads ← counted 0 3 read_value
  read_as (record { opcode = opcode; type = type; cost = cost; reads = reads })

unfoldable pub block : Reader (List Instr)
unfolding counted instruction
block = counted 1 8 instruction

-- The kinds of terminators (document 01, "store and record"); the last two are SelectBranch on a boolean and on a number.
abbrev pub terminator_unreachable : ℕ
terminator_unreachable = 0

abbrev pub terminator_return : ℕ
terminator_return = 1

abbrev pub terminator_exit : ℕ
terminator_exit = 2

abbrev pub terminator_branch : ℕ
terminator_branch = 3

abbrev pub terminator_bool : ℕ
terminator_bool = 4

abbrev pub terminator_number : ℕ
terminator_number = 5

-- The opcode word stands for ExitInvocation only.
unfoldable pub opcode_for : ℕ → Reader ℕ
unfolding word
opcode_for k ws at = elim (eqb k terminator_exit) [ true ↦ word ws at | false ↦ got 0 at ]

-- How many values and targets a kind of terminator has, at least and at most.
abbrev pub fewest_values : ℕ → ℕ
fewest_values k = pick (leb terminator_bool k) 1 0

abbrev pub most_values : ℕ → ℕ
most_values k = pick (leb terminator_bool k) 1 (pick (eqb k terminator_return || eqb k terminator_exit) 4 0)

abbrev pub fewest_targets : ℕ → ℕ
fewest_targets k = pick (eqb k terminator_bool) 2 (pick (leb terminator_branch k) 1 0)

abbrev pub most_targets : ℕ → ℕ
most_targets k = pick (eqb k terminator_number) 8 (pick (eqb k terminator_bool) 2 (pick (eqb k terminator_branch) 1 0))

-- Each place of the targets, with the values passed to its target.
unfoldable pub edges_passed : List ℕ → List (List Value) → List Edge
unfolding distinct_from rank
edges_passed ts passes = map (λ t. record { target = t; inputs = get_or passes (rank t (distinct_from [] ts)) [] }) ts

abbrev pub control_inst : ℕ → ℕ → List Value → List Edge → ControlInst
control_inst k op vs es =
    pick (eqb k terminator_unreachable) unreachable
    (pick (eqb k terminator_return) (return vs)
    (pick (eqb k terminator_exit) (exit_invocation op vs)
    (pick (eqb k terminator_branch) (branch (get_or es 0 no_edge))
    (select_branch (pick (eqb k terminator_bool) bool_cond number) (get_or vs 0 (undef 0)) es))))

unfoldable pub terminator : Reader ControlInst
unfolding within opcode_for counted many read_value distinct_from edges_passed
terminator = do
  k ← within terminator_unreachable terminator_number
  op ← opcode_for k
  vs ← counted (fewest_values k) (most_values k) read_value
  ts ← counted (fewest_targets k) (most_targets k) word
  passes ← many (length (distinct_from [] ts)) (counted 0 4 read_value)
  read_as (control_inst k op vs (edges_passed ts passes))

unfoldable pub read_region : Reader Region
unfolding within counted type block terminator word
read_region = do
  inputs ← counted 0 4 type
  blocks ← counted 0 8 block
  limit ← within 1 65535
  end ← terminator
  exits ← counted 0 32 word
  read_as (record { inputs = inputs; blocks = blocks; limit = limit; terminator = end; exits = exits })

-- `out_of_range` has the region being read for its word, 0 before the first; `wrong_word_count` has 0.
abbrev pub word_for : ℕ → ℕ → ℕ
word_for n r = pick (eqb n out_of_range) r 0

abbrev pub settle : {A B : Type 0} → ℕ → Read A → (A → ℕ → Answer B) → Answer B
settle r (got a at) k = k a at
settle r (bad n) k = refused n (word_for n r)

-- n regions from number r on, and the place after them
unfoldable pub regions_from : ℕ → ℕ → List ℕ → ℕ → Answer (List Region)
unfolding read_region
regions_from zero r ws at = elim (eqb at (length ws)) [ true ↦ accepted [] | false ↦ refused wrong_word_count 0 ]
regions_from (suc n) r ws at =
    settle r (read_region ws at) λ x at'. if_accepted (regions_from n (suc r) ws at') λ xs. accepted (x ∷ xs)

-- Word 0 is W. Region count, entry, test cost, the types of the constants.
pub record Head : Type 0 where
  pub count : ℕ
  pub entry : ℕ
  pub test_cost : ℕ
  pub constants : List ℕ

unfoldable pub head : Reader Head
unfolding within word counted type
head = do
  n ← within 1 32
  entry ← word
  test ← word
  constants ← counted 0 64 type
  read_as (record { count = n; entry = entry; test_cost = test; constants = constants })

-- The record that the words hold; words that stay over are 4.
unfoldable pub read_record : List ℕ → Answer Graph
unfolding head regions_from
read_record ws =
    settle 0 (head ws 1) λ h at.
    if_accepted (regions_from h.count 0 ws at) λ rs.
    accepted (record { entry = h.entry; test_cost = h.test_cost; constants = h.constants; regions = rs })
