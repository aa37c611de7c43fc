-- A store made of a graph: the record's words, W in front, as blocks.
use Rattle.std.specs.Prelude.{true, false, List, [], ◌∷◌, ◌++◌, map, ℕ, suc, length}
use Rattle.meaning.specs.Graph.{Value, Code, code_of, Instr, bool_cond, number, Edge, ControlInst, unreachable, return, exit_invocation}
use Rattle.meaning.specs.Graph.{branch, select_branch, Region, Graph, edges_of}
use Rattle.meaning.specs.Lists.{is_in, concat}
use Rattle.format.specs.Read.{terminator_unreachable, terminator_return, terminator_exit, terminator_branch, terminator_bool}
use Rattle.format.specs.Read.{terminator_number}
use Rattle.format.specs.Store.{store_of}

-- ---- the record's words
-- A list its count, then its items.
abbrev pub with_count : {A : Type 0} → (A → List ℕ) → List A → List ℕ
with_count ws xs = length xs ∷ concat (map ws xs)

-- Kind, region, index.
abbrev pub value_words : Code → List ℕ
value_words v = v.kind ∷ v.region ∷ v.index ∷ []

abbrev pub values_words : List Value → List ℕ
values_words vs = with_count (λ v. value_words (code_of v)) vs

abbrev pub numbers_words : List ℕ → List ℕ
numbers_words ns = with_count (λ n. n ∷ []) ns

abbrev pub instr_words : Instr → List ℕ
instr_words i = i.opcode ∷ i.type ∷ i.cost ∷ values_words i.reads

-- Kind, the opcode of ExitInvocation, values.
abbrev pub terminator_words : ControlInst → List ℕ
terminator_words unreachable = terminator_unreachable ∷ 0 ∷ []
terminator_words (return vs) = terminator_return ∷ values_words vs
terminator_words (exit_invocation op vs) = terminator_exit ∷ op ∷ values_words vs
terminator_words (branch e) = terminator_branch ∷ 0 ∷ []
terminator_words (select_branch bool_cond v es) = terminator_bool ∷ values_words (v ∷ [])
terminator_words (select_branch number v es) = terminator_number ∷ values_words (v ∷ [])

-- The inputs of each distinct target, by first standing.
unfoldable pub passed_words : List ℕ → List Edge → List ℕ
passed_words seen [] = []
passed_words seen (e ∷ es) =
    elim (is_in e.target seen) [
      | true ↦ passed_words seen es
      | false ↦ values_words e.inputs ++ passed_words (e.target ∷ seen) es
    ]

unfoldable pub region_words : Region → List ℕ
unfolding passed_words
region_words r =
    numbers_words r.inputs
    ++ with_count (λ b. with_count instr_words b) r.blocks
    ++ (r.limit ∷ terminator_words r.terminator)
    ++ numbers_words (map (λ e. e.target) (edges_of r.terminator))
    ++ passed_words [] (edges_of r.terminator)
    ++ numbers_words r.exits

unfoldable pub words_of_graph : Graph → List ℕ
unfolding region_words
words_of_graph g =
    length g.regions ∷ g.entry ∷ g.test_cost ∷ (numbers_words g.constants ++ concat (map region_words g.regions))

-- ---- the store's bytes
-- W, the words with itself, stands in front of them.
unfoldable pub store_of_graph : Graph → List ℕ
unfolding store_of words_of_graph
store_of_graph g = let ws = words_of_graph g in store_of (suc (length ws) ∷ ws)
