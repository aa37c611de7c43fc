-- The words of a whole sheet, line after line. `count` is what stands for the number of a region's children.
use Rattle.std.specs.Prelude.{List, [], ◌∷◌, ◌++◌, map, ℕ}
use Rattle.meaning.specs.Lists.{concat}
use Rattle.meaning.specs.Graph.{Graph}
use Rattle.nesting.specs.Nesting.{Nested, Piece, untouched, whole, closed, leftover, DeferredEdgeBundle}
use Rattle.nesting.specs.Sheet as sheet
use Rattle.nesting.specs.decoding.Lines.{words_of}
use Rattle.sheet_words.specs.Parts.{region_words, nodes_words}

abbrev pub defer_words : List ℕ → ℕ → DeferredEdgeBundle → List ℕ
defer_words nodes r e = words_of (sheet.defer_fields nodes r e)

module _ (count : ℕ → ℕ) (nodes : List ℕ) where
  abbrev pub piece_words : Piece → List ℕ
  piece_words p =
      region_words count nodes p.region p.inputs p.children p.outputs ++ nodes_words count nodes p.children

-- The entry and the unclaimed regions, then their defer lines by ascending region.
unfoldable pub nested_lines : (ℕ → ℕ) → Nested → List ℕ
nested_lines count x =
    concat (map (piece_words count x.output_nodes) (x.entry ∷ x.unclaimed))
    ++ concat (map (λ (p : Piece). concat (map (defer_words x.output_nodes p.region) p.deferred))
    (sheet.ascending x.entry x.unclaimed))

-- Line 1: outcome, figure, attempts, twice.
abbrev pub head_words : sheet.Sheet → List ℕ
head_words s = words_of (sheet.line_1 s)

unfoldable pub nested_words : (ℕ → ℕ) → Graph → Nested → List ℕ
unfolding nested_lines sheet.sheet_of
nested_words count g x =
    head_words (sheet.sheet_of g x)
    ++ elim x.outcome [
      | untouched ↦ []
      | whole ↦ nested_lines count x
      | closed ↦ nested_lines count x
      | leftover ↦ nested_lines count x
    ]
