-- An accepted record as text: a line for the head and a few for each region, values as in document 01's sheet.
use Rattle.std.specs.Prelude.{true, false, List, [], ◌∷◌, ◌++◌, map, ℕ, suc, ◌+◌, length}
use Prim.Native.String.{String}
use Rattle.meaning.specs.Graph.{Value, const, input, instr, output, bool, undef, held, Instr, bool_cond, number, Edge, ControlInst}
use Rattle.meaning.specs.Graph.{unreachable, return, exit_invocation, branch, select_branch, Region, Graph, edges_of, no_value}
use Rattle.meaning.specs.Text.{Text, ascii, decimal, listed}
use Rattle.format.specs.References.{first_edges}
use Rattle.format.specs.Store.{Answer, accepted, refused}
use Rattle.text.specs.Text.{labeled, text_of_each, refusal_text}

-- A region's number and a place in it.
unfoldable pub dotted_text : ℕ → ℕ → Text
unfolding decimal labeled
dotted_text r k = decimal r ++ labeled "." k

-- No record names an output of a node, nor a marked input.
unfoldable pub value_listing : Value → Text
unfolding labeled dotted_text
value_listing (const i) = labeled "c" i
value_listing (input r k) = ascii "i" ++ dotted_text r k
value_listing (instr r k) = ascii "d" ++ dotted_text r k
value_listing (output o) = labeled "n" o
value_listing (bool true) = ascii "true"
value_listing (bool false) = ascii "false"
value_listing (undef t) = labeled "undef" t
value_listing no_value = labeled "n" 0  -- in no accepted record
value_listing (held r k) = ascii "i" ++ dotted_text r k

unfoldable pub numbers_text : List ℕ → Text
unfolding decimal listed
numbers_text = listed decimal

unfoldable pub values_text : List Value → Text
unfolding value_listing listed
values_text = listed value_listing

unfoldable pub head_text : Graph → Text
unfolding labeled numbers_text
head_text g =
    labeled "record regions " (length g.regions)
    ++ labeled " entry " g.entry
    ++ labeled " test " g.test_cost
    ++ ascii " constants "
    ++ numbers_text g.constants
    ++ ascii "\n"

-- Instruction k of region r.
unfoldable pub item_listing : ℕ → ℕ → Instr → Text
unfolding dotted_text labeled values_text
item_listing r k i =
    dotted_text r k ++ labeled "/" i.opcode ++ labeled "/" i.type ++ labeled "/" i.cost ++ ascii "/" ++ values_text i.reads

-- The instructions from number k on.
unfoldable pub items_text : ℕ → ℕ → List Instr → List Text
unfolding item_listing
items_text r k [] = []
items_text r k (i ∷ is) = item_listing r k i ∷ items_text r (suc k) is

-- The instructions of a region are counted through its blocks; the first of this one has number k.
unfoldable pub block_text : ℕ → ℕ → List Instr → Text
unfolding items_text listed
block_text r k b = ascii "block " ++ listed (λ t. t) (items_text r k b) ++ ascii "\n"

unfoldable pub blocks_text : ℕ → ℕ → List (List Instr) → Text
unfolding block_text
blocks_text r k [] = []
blocks_text r k (b ∷ bs) = block_text r k b ++ blocks_text r (k + length b) bs

-- Values to the line's end.
unfoldable pub values_line : String → List Value → Text
unfolding values_text
values_line label vs = ascii label ++ values_text vs ++ ascii "\n"

unfoldable pub select_line_text : String → Value → List Edge → Text
unfolding value_listing numbers_text
select_line_text label v es = ascii label ++ value_listing v ++ ascii " to " ++ numbers_text (map (λ e. e.target) es) ++ ascii "\n"

unfoldable pub terminator_text : ControlInst → Text
unfolding labeled values_line select_line_text
terminator_text unreachable = ascii "unreachable\n"
terminator_text (return vs) = values_line "return " vs
terminator_text (exit_invocation op vs) = labeled "exit " op ++ values_line " " vs
terminator_text (branch e) = labeled "branch to " e.target ++ ascii "\n"
terminator_text (select_branch bool_cond v es) = select_line_text "select bool " v es
terminator_text (select_branch number v es) = select_line_text "select num " v es

-- The values passed to a target.
unfoldable pub pass_text : Edge → Text
unfolding labeled values_text
pass_text e = labeled "pass " e.target ++ ascii " in " ++ values_text e.inputs ++ ascii "\n"

-- Each distinct target, by first standing.
unfoldable pub passes_text : List Edge → Text
unfolding text_of_each pass_text first_edges
passes_text es = text_of_each pass_text (first_edges [] es)

unfoldable pub region_line_text : ℕ → Region → Text
unfolding labeled numbers_text
region_line_text r x =
    labeled "region " r ++ ascii " in " ++ numbers_text x.inputs ++ labeled " limit " x.limit ++ ascii "\n"

unfoldable pub exits_line : List ℕ → Text
unfolding numbers_text
exits_line xs = ascii "exits " ++ numbers_text xs ++ ascii "\n"

unfoldable pub region_text : ℕ → Region → Text
unfolding region_line_text blocks_text terminator_text passes_text exits_line
region_text r x =
    region_line_text r x
    ++ blocks_text r 0 x.blocks
    ++ terminator_text x.terminator
    ++ passes_text (edges_of x.terminator)
    ++ exits_line x.exits

-- The regions from number r on.
unfoldable pub regions_text : ℕ → List Region → Text
unfolding region_text
regions_text r [] = []
regions_text r (x ∷ xs) = region_text r x ++ regions_text (suc r) xs

unfoldable pub listing_of : Graph → Text
unfolding head_text regions_text
listing_of g = head_text g ++ regions_text 0 g.regions

-- What is shown of a store: its refusal, or its record.
abbrev pub shown_text : Answer Graph → Text
shown_text (accepted g) = listing_of g
shown_text (refused n w) = refusal_text n w
