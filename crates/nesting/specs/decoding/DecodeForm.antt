-- The lent words read back as the form that they show. FormRoundTrip shows that each nested form comes back.
use Rattle.std.specs.Prelude.{List, [], ◌∷◌, ℕ, eqb}
use Rattle.std.proofs.Math.Option.{Option, none, some, bind}
use Rattle.nesting.specs.decoding.Lines.{Line, region_line, block_line, select_line, loop_line, exit_line, defer_line, TypedSheet}
use Rattle.nesting.specs.decoding.Decode.{Decoded, decoded, nothing, next_word, decode_times, decode_lines, decode_sheet}
use Rattle.nesting.specs.ShownForm.{ShownNode, block_shown, select_shown, loop_shown, exit_shown, ShownNodes, no_node, ◌▹◌}
use Rattle.nesting.specs.ShownForm.{ShownRegion, region_shown, ShownRegions, no_region, ◌▹▹◌, ShownForm, ShownEdge}
use Rattle.meaning.specs.Lists.{pick}

abbrev pub shown_number : ShownNode → ℕ
shown_number (block_shown n is) = n
shown_number (select_shown x cs) = x.number
shown_number (loop_shown n vs b v) = n
shown_number (exit_shown n op vs) = n

abbrev pub region_number : ShownRegion → ℕ
region_number (region_shown r ts ks vs) = r

-- Lines are read from the last to the first: each takes what it holds from the front of what was read before it.
pub data FormPart : Type 0 where
  a_node : ShownNode → FormPart
  a_region : ShownRegion → FormPart
  an_edge : ShownEdge → FormPart

abbrev pub Parts : Type 0
Parts = List FormPart

-- The first part, if it is a node (or a region) of the number that the line names, and the parts after it.
abbrev with_node : ℕ → Parts → (ShownNode → Parts → Option Parts) → Option Parts
with_node n [] f = none
with_node n (a_node k ∷ ps) f = pick (eqb n (shown_number k)) (f k ps) none
with_node n (a_region b ∷ ps) f = none
with_node n (an_edge e ∷ ps) f = none

abbrev with_region : ℕ → Parts → (ShownRegion → Parts → Option Parts) → Option Parts
with_region r [] f = none
with_region r (a_node k ∷ ps) f = none
with_region r (a_region b ∷ ps) f = pick (eqb r (region_number b)) (f b ps) none
with_region r (an_edge e ∷ ps) f = none

unfoldable pub with_nodes : List ℕ → Parts → (ShownNodes → Parts → Option Parts) → Option Parts
with_nodes [] ps f = f no_node ps
with_nodes (n ∷ ns) ps f = with_node n ps λ k rest. with_nodes ns rest λ ks. f (k ▹ ks)

unfoldable pub with_regions : List ℕ → Parts → (ShownRegions → Parts → Option Parts) → Option Parts
with_regions [] ps f = f no_region ps
with_regions (r ∷ rs) ps f = with_region r ps λ b rest. with_regions rs rest λ bs. f (b ▹▹ bs)

-- A region line holds its children, a select line its cases, a loop line its body.
unfoldable pub add_line : Line → Parts → Option Parts
unfolding with_nodes with_regions
add_line (region_line r ts ns vs) ps = with_nodes ns ps λ ks rest. some (a_region (region_shown r ts ks vs) ∷ rest)
add_line (block_line n is) ps = some (a_node (block_shown n is) ∷ ps)
add_line (select_line x rs) ps = with_regions rs ps λ cs rest. some (a_node (select_shown x cs) ∷ rest)
add_line (loop_line n vs r v) ps = with_region r ps λ b rest. some (a_node (loop_shown n vs b v) ∷ rest)
add_line (exit_line n op vs) ps = some (a_node (exit_shown n op vs) ∷ ps)
add_line (defer_line e) ps = some (an_edge e ∷ ps)

unfoldable pub decode_parts : List Line → Option Parts
unfolding add_line bind
decode_parts [] = some []
decode_parts (l ∷ ls) = bind (decode_parts ls) (add_line l)

-- ---- the whole sheet: pieces, and deferred edges after them
unfoldable pub with_edges : Parts → (List ShownEdge → Option ShownForm) → Option ShownForm
with_edges [] f = f []
with_edges (a_node k ∷ ps) f = none
with_edges (a_region b ∷ ps) f = none
with_edges (an_edge e ∷ ps) f = with_edges ps λ es. f (e ∷ es)

unfoldable pub with_pieces : Parts → (ShownRegions → List ShownEdge → Option ShownForm) → Option ShownForm
unfolding with_edges
with_pieces [] f = f no_region []
with_pieces (a_node k ∷ ps) f = none
with_pieces (a_region b ∷ ps) f = with_pieces ps λ bs. f (b ▹▹ bs)
with_pieces (an_edge e ∷ ps) f = with_edges ps λ es. f no_region (e ∷ es)

unfoldable pub form_of : TypedSheet → Option ShownForm
unfolding decode_parts with_pieces bind
form_of s =
    bind (decode_parts s.lines) λ ps.
    with_pieces ps λ bs es.
    some (record { outcome = s.outcome; figure = s.figure; attempts = s.attempts; twice = s.twice; pieces = bs; deferred = es })

abbrev pub form_of_decoded : Decoded TypedSheet → Option ShownForm
form_of_decoded (decoded s ws) = form_of s
form_of_decoded nothing = none

unfoldable pub decode_form : List ℕ → Option ShownForm
unfolding decode_sheet decode_lines decode_times next_word form_of
decode_form ws = form_of_decoded (decode_sheet ws)
