-- The lent words of some cases, word by word, the form read back from them, and refusal 10 where one word is missing.
use Rattle.std.specs.Prelude.{◌≡◌, refl, false, List, [], ◌∷◌, ℕ}
use Rattle.std.proofs.Math.Option.{none, some}
use Rattle.meaning.specs.Graph.{Code, bool_cond}
use Rattle.format.specs.Store.{accepted, refused}
use Rattle.format.specs.Refusals.{too_few_words}
use Rattle.nesting.specs.cases.Computes.{nesting_computes}
use Rattle.format.specs.stores.Pack.{store_of_graph}
use Rattle.nesting.specs.Sheet.{answer_words}
use Rattle.nesting.specs.cases.CaseGraphs.{A, no_loop}
use Rattle.nesting.specs.Nesting.{whole}
use Rattle.nesting.specs.ShownForm.{ShownRegion, block_shown, select_shown, no_node, ◌▹◌, region_shown, no_region, ◌▹▹◌, Item}
use Rattle.nesting.specs.decoding.DecodeForm.{decode_form}

-- whole figure 11 attempts 8 twice 0, then seven lines
abbrev A_sheet : List ℕ
A_sheet =
    1 ∷ 11 ∷ 8 ∷ 0
    -- region 0 in - kids 0,3 out n3.0
    ∷ 0 ∷ 0 ∷ 0 ∷ 2 ∷ 0 ∷ 3 ∷ 1 ∷ 3 ∷ 3 ∷ 0
    -- block 0 0.0/7/1/-
    ∷ 1 ∷ 0 ∷ 1 ∷ 0 ∷ 0 ∷ 7 ∷ 1 ∷ 0
    -- select 3 bool d0.0 cases 1,2 out 2
    ∷ 2 ∷ 3 ∷ 0 ∷ 2 ∷ 0 ∷ 0 ∷ 2 ∷ 1 ∷ 2 ∷ 1 ∷ 2
    -- region 1 in - kids 1 out c0; block 1 1.0/8/0/-
    ∷ 0 ∷ 1 ∷ 0 ∷ 1 ∷ 1 ∷ 1 ∷ 0 ∷ 0 ∷ 0
    ∷ 1 ∷ 1 ∷ 1 ∷ 1 ∷ 0 ∷ 8 ∷ 0 ∷ 0
    -- region 2 in - kids 2 out c1; block 2 2.0/9/0/-
    ∷ 0 ∷ 2 ∷ 0 ∷ 1 ∷ 2 ∷ 1 ∷ 0 ∷ 0 ∷ 1
    ∷ 1 ∷ 2 ∷ 1 ∷ 2 ∷ 0 ∷ 9 ∷ 0 ∷ 0
    ∷ []

pub A_words : answer_words (store_of_graph A) 67 ≡ accepted A_sheet
unfolding answer_words nesting_computes store_of_graph
A_words = refl

pub A_too_few : answer_words (store_of_graph A) 66 ≡ refused too_few_words 0
unfolding answer_words nesting_computes store_of_graph
A_too_few = refl

-- ---- the form of case A, from its words
abbrev code : ℕ → ℕ → ℕ → Code
code k r i = record { kind = k; region = r; index = i }

-- the first instruction of a region: opcode, type
abbrev item : ℕ → ℕ → ℕ → Item
item r op ty = record { region = r; index = 0; opcode = op; type = ty; reads = [] }

-- a case: region (and the number of its one block), opcode, constant passed on
abbrev A_case : ℕ → ℕ → ℕ → ShownRegion
A_case r op i = region_shown r [] (block_shown r (item r op 0 ∷ []) ▹ no_node) (code 0 0 i ∷ [])

abbrev A_piece : ShownRegion
A_piece =
    region_shown 0 [] (
    block_shown 0 (item 0 7 1 ∷ [])
    ▹ select_shown (record { number = 3; kind = bool_cond; scrutinee = code 2 0 0; output_types = 2 ∷ [] })
    (A_case 1 8 0 ▹▹ A_case 2 9 1 ▹▹ no_region)
    ▹ no_node
    ) (code 3 3 0 ∷ [])

pub A_form
    : decode_form A_sheet ≡ some
    (record { outcome = whole; figure = 11; attempts = 8; twice = false; pieces = A_piece ▹▹ no_region; deferred = [] })
unfolding decode_form
A_form = refl

-- region 0 in - kids 3 out -; but block 4 follows
pub other_child : decode_form (1 ∷ 0 ∷ 1 ∷ 0 ∷ 0 ∷ 0 ∷ 0 ∷ 1 ∷ 3 ∷ 0 ∷ 1 ∷ 4 ∷ 0 ∷ []) ≡ none
unfolding decode_form
other_child = refl

-- leftover figure - attempts 3 twice 0; two regions without children; two defer lines, the second to return
pub no_loop_words
    : answer_words (store_of_graph no_loop) 26
    ≡ accepted (
    3 ∷ 0 ∷ 3 ∷ 0
    ∷ 0 ∷ 0 ∷ 0 ∷ 0 ∷ 0
    ∷ 0 ∷ 1 ∷ 0 ∷ 0 ∷ 0
    ∷ 5 ∷ 0 ∷ 1 ∷ 1 ∷ 0 ∷ 1
    ∷ 5 ∷ 1 ∷ 65535 ∷ 0 ∷ 0 ∷ 1
    ∷ []
    )
unfolding answer_words nesting_computes store_of_graph
no_loop_words = refl
