-- The lines of a concluded nesting as parts: what is put, and the note that its look-ups take.
use Rattle.std.specs.Prelude.{◌≡◌, Bool, ◌||◌, ℕ, leb}
use Rattle.std.proofs.Math.Path.{refl, ap}
use Rattle.std.proofs.Common.{sym, ◌∙◌}
use Rattle.std.proofs.Math.Bool.{true, false}
use mathlib.Core.List.{List, [], ◌∷◌, ◌++◌, map}
use Rattle.meaning.specs.Lists.{concat, any, pick}
use Rattle.meaning.specs.facts.Tests.{or_left_comm}
use Rattle.meaning.specs.facts.Elements.{any_mixed}
use Rattle.meaning.specs.Graph.{Graph, Value, region}
use Rattle.meaning.specs.Runs.{Nodes}
use Rattle.nesting.specs.Nesting.{NestState, Piece, plain, ◌⊛◌, look_up_each, look_up_nodes, look_up_piece}
use Rattle.nesting.specs.Nesting.{DeferredEdgeBundle, DeferredEdgeBundleSet, look_up_bundle, condition_in, conclude_with, Outcome}
use Rattle.nesting.specs.Nesting.{LazyCond}
use Rattle.nesting.specs.Sheet as sheet
use Rattle.sheet_words.specs.PutInFront.{Part}
use Rattle.sheet_words.specs.laws.PutInFrontLaws.{◌⊕◌}
use Rattle.sheet_words.specs.Parts.{most, each, output_nodes, look_up_at_end, nodes_part, region_part}
use Rattle.sheet_words.specs.Parts.{defer_part}
use Rattle.sheet_words.specs.laws.PartLaws.{kids_looked_up}
use Rattle.sheet_nodes.specs.Whole.{piece_words, defer_words, nested_lines}

-- ---- Pieces, before they are looked up.
module _ (g : Graph) (s : NestState) where
  -- A region's line, and those of its children.
  abbrev pub region_lines : ℕ → Nodes → List Value → Part
  region_lines r ks vs = region_part s r (region g r).inputs ks vs ⊕ nodes_part s ks

  abbrev pub piece_part : Piece → Part
  piece_part p = region_lines p.region p.children p.outputs

  abbrev pub set_part : ℕ → DeferredEdgeBundleSet → Part
  set_part r d = each (defer_part s r d) d

  abbrev pub lines_part : Piece → List Piece → Part
  lines_part entry unclaimed =
      each piece_part (entry ∷ unclaimed) ⊕ each (λ (p : Piece). set_part p.region p.deferred) (sheet.ascending entry unclaimed)

  abbrev looked : Piece → Piece
  looked p = (look_up_piece g s p).value

  -- ---- The words.
  piece_is : (p : Piece) → piece_words most (output_nodes s) (looked p) ≡ (piece_part p).value
  unfolding look_up_piece region_part nodes_part
  piece_is p = rw (kids_looked_up (look_up_at_end s) s.node_outputs p.children)

  set_is : (r : ℕ) (h : DeferredEdgeBundle → LazyCond) (d : DeferredEdgeBundleSet)
      → concat (map (defer_words (output_nodes s) r) (map (λ e. (look_up_bundle (look_up_at_end s) h e).value) d))
      ≡ concat (map (λ e. (plain (defer_words (output_nodes s) r) ⊛ look_up_bundle (look_up_at_end s) h e).value) d)
  set_is r h [] = refl
  set_is r h (e ∷ d) = ap (λ z. defer_words (output_nodes s) r (look_up_bundle (look_up_at_end s) h e).value ++ z) (set_is r h d)

  pieces_are : (ps : List Piece) → concat (map (piece_words most (output_nodes s)) (map looked ps)) ≡ (each piece_part ps).value
  pieces_are [] = refl
  pieces_are (p ∷ ps) =
      ap (λ z. z ++ concat (map (piece_words most (output_nodes s)) (map looked ps))) (piece_is p)
      ∙ ap (λ z. (piece_part p).value ++ z) (pieces_are ps)

  abbrev sets_part : List Piece → Part
  sets_part ps = each (λ (p : Piece). set_part p.region p.deferred) ps

  sets_are : (ps : List Piece)
      → concat (map (λ (p : Piece). concat (map (defer_words (output_nodes s) p.region) p.deferred)) (map looked ps))
      ≡ (sets_part ps).value
  unfolding look_up_piece defer_part
  sets_are [] = refl
  sets_are (p ∷ ps) =
      ap (λ z. z ++ concat (map (λ (p : Piece). concat (map (defer_words (output_nodes s) p.region) p.deferred)) (map looked ps)))
      (set_is p.region (condition_in p.deferred) p.deferred)
      ∙ ap (λ z. (set_part p.region p.deferred).value ++ z) (sets_are ps)

  ascending_looked : (e : Piece) (us : List Piece) → sheet.ascending (looked e) (map looked us) ≡ map looked (sheet.ascending e us)
  unfolding look_up_piece
  ascending_looked e [] = refl
  ascending_looked e (u ∷ us) = by (ascending_looked e us) (leb e.region u.region)
    where
      by : sheet.ascending (looked e) (map looked us) ≡ map looked (sheet.ascending e us) → (b : Bool)
          → pick b (looked e ∷ looked u ∷ map looked us) (looked u ∷ sheet.ascending (looked e) (map looked us))
          ≡ map looked (pick b (e ∷ u ∷ us) (u ∷ sheet.ascending e us))
      by rest true = refl
      by rest false = ap (λ z. looked u ∷ z) rest

  module _ (o : Outcome) (e : Piece) (us : List Piece) where
    pub lines_are : nested_lines most (conclude_with g s o e us) ≡ (lines_part e us).value
    unfolding nested_lines
    lines_are =
        ap (λ z. z ++ concat (map (λ (p : Piece). concat (map (defer_words (output_nodes s) p.region) p.deferred))
        (sheet.ascending (looked e) (map looked us)))) (pieces_are (e ∷ us))
        ∙ ap (λ z. (each piece_part (e ∷ us)).value
        ++ concat (map (λ (p : Piece). concat (map (defer_words (output_nodes s) p.region) p.deferred)) z)) (ascending_looked e us)
        ∙ ap (λ z. (each piece_part (e ∷ us)).value ++ z) (sets_are (sheet.ascending e us))

-- ---- The note.
any_ascending : (f : Piece → Bool) (e : Piece) (us : List Piece) → any f (sheet.ascending e us) ≡ (f e || any f us)
any_ascending f e [] = refl
any_ascending f e (u ∷ us) = by (any_ascending f e us) (leb e.region u.region)
  where
    by : any f (sheet.ascending e us) ≡ (f e || any f us) → (b : Bool)
        → any f (pick b (e ∷ u ∷ us) (u ∷ sheet.ascending e us)) ≡ (f e || (f u || any f us))
    by rest true = refl
    by rest false = ap (λ z. f u || z) rest ∙ or_left_comm (f u) (f e) (any f us)

module _ (g : Graph) (s : NestState) (o : Outcome) (e : Piece) (us : List Piece) where
  abbrev of_children : Piece → Bool
  of_children p = (look_up_nodes (look_up_at_end s) s.node_outputs p.children).twice

  abbrev of_outputs : Piece → Bool
  of_outputs p = (look_up_each (look_up_at_end s) p.outputs).twice

  abbrev of_deferred : Piece → Bool
  of_deferred p = (look_up_each (look_up_bundle (look_up_at_end s) (condition_in p.deferred)) p.deferred).twice

  pub twice_is : (conclude_with g s o e us).twice ≡ (s.twice || (lines_part g s e us).twice)
  unfolding look_up_piece region_part nodes_part defer_part
  twice_is =
      ap (λ z. s.twice || z)
      (any_mixed of_children of_outputs of_deferred (e ∷ us)
      ∙ ap (λ z. any (λ p. of_outputs p || of_children p) (e ∷ us) || z) (sym (any_ascending of_deferred e us)))
