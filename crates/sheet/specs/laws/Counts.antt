-- Counts held at the largest word: such a sheet is as long as the definition's, and the same if it has no more words than a word can say.
use Rattle.std.specs.Prelude.{◌≡◌, refl, List, [], ◌∷◌, ◌++◌, map, ℕ, ◌≤◌, length}
use Rattle.std.proofs.Common.{ap, ◌∙◌, arith, length-append, le-leb}
use Rattle.meaning.specs.Lists.{concat}
use Rattle.meaning.specs.Graph.{Graph, Value}
use Rattle.meaning.specs.Runs.{Node, block, select, loop, exit, Nodes, ⟨⟩, ◌▸◌, Cases, ∅, case}
use Rattle.nesting.specs.Nesting.{Nested, Piece, Outcome, untouched, whole, closed, leftover}
use Rattle.nesting.specs.Sheet as sheet
use Rattle.nesting.specs.SheetNumbers.{lead_region, lead_block, lead_exit}
use Rattle.sheet_words.specs.Parts.{most, region_words, select_words, loop_words, node_words, nodes_words, cases_words}
use Rattle.sheet_nodes.specs.Whole.{piece_words, defer_words, nested_lines, head_words, nested_words}
use Rattle.sheet.specs.laws.SheetLines.{same_count, sheet_lines}

-- a is as long as b, and is b where b has no more words than a word can say.
record SameIfShort (a b : List ℕ) : Type 0 where
  pub long : length a ≡ length b
  pub same : length b ≤ 4294967295 → a ≡ b

short_same : (a : List ℕ) → SameIfShort a a
short_same a = record { long = refl; same = λ h. refl }

short_then : {a b c d : List ℕ} → SameIfShort a b → SameIfShort c d → SameIfShort (a ++ c) (b ++ d)
short_then {a} {b} {c} {d} p q =
    let n = length-append a c in
    let m = length-append b d in
    let i = p.long in
    let j = q.long in
    record {
      long = omega arith;
      same = λ h. rw (p.same (omega arith), q.same (omega arith));
    }

-- The count in front of as many words.
short_count : (xs : List ℕ) → SameIfShort (most (length xs) ∷ xs) (length xs ∷ xs)
short_count xs = record { long = refl; same = λ h. rw (le-leb (length xs) 4294967295 (omega arith)) }

module _ (nodes : List ℕ) where
  region_held : (r : ℕ) (ts : List ℕ) (ks : Nodes) (vs : List Value)
      → SameIfShort (region_words most nodes r ts ks vs) (region_words same_count nodes r ts ks vs)
  region_held r ts ks vs =
      short_then (short_then (short_same (lead_region ∷ r ∷ length ts ∷ ts)) (short_count (sheet.kids ks)))
      (short_same (sheet.values nodes vs).words)

  mutual
    unfolding node_words

    node_held : (k : Node) → SameIfShort (node_words most nodes k) (node_words same_count nodes k)
    node_held (block n r k is) = short_same (lead_block ∷ n ∷ (sheet.list (sheet.items nodes r k is)).words)
    node_held (select x cs) = short_then (short_same (select_words most nodes x cs)) (cases_held cs)
    node_held (loop x ks) =
        short_then (short_then (short_same (loop_words most nodes x)) (region_held x.body x.types ks x.outputs)) (nodes_held ks)
    node_held (exit n op vs) = short_same (lead_exit ∷ n ∷ op ∷ (sheet.values nodes vs).words)

    nodes_held : (ks : Nodes) → SameIfShort (nodes_words most nodes ks) (nodes_words same_count nodes ks)
    nodes_held ⟨⟩ = short_same []
    nodes_held (k ▸ ks) = short_then (node_held k) (nodes_held ks)

    cases_held : (cs : Cases) → SameIfShort (cases_words most nodes cs) (cases_words same_count nodes cs)
    cases_held ∅ = short_same []
    cases_held (case c ks cs) = short_then (short_then (region_held c.region [] ks c.outputs) (nodes_held ks)) (cases_held cs)

  pieces_held : (ps : List Piece) → SameIfShort (concat (map (piece_words most nodes) ps)) (concat (map (piece_words same_count nodes) ps))
  pieces_held [] = short_same []
  pieces_held (p ∷ ps) =
      short_then (short_then (region_held p.region p.inputs p.children p.outputs) (nodes_held p.children)) (pieces_held ps)

lines_held : (x : Nested) → SameIfShort (nested_lines most x) (nested_lines same_count x)
unfolding nested_lines
lines_held x =
    short_then (pieces_held x.output_nodes (x.entry ∷ x.unclaimed))
    (short_same (concat (map (λ (p : Piece). concat (map (defer_words x.output_nodes p.region) p.deferred))
    (sheet.ascending x.entry x.unclaimed))))

sheet_held : (g : Graph) (x : Nested) → SameIfShort (nested_words most g x) (nested_words same_count g x)
unfolding nested_words
sheet_held g x = short_then (short_same (head_words (sheet.sheet_of g x))) (by x.outcome)
  where
    by : (o : Outcome) → SameIfShort (elim o as (λ o. List ℕ) [
      | untouched ↦ []
      | whole ↦ nested_lines most x
      | closed ↦ nested_lines most x
      | leftover ↦ nested_lines most x
    ]) (elim o as (λ o. List ℕ) [
      | untouched ↦ []
      | whole ↦ nested_lines same_count x
      | closed ↦ nested_lines same_count x
      | leftover ↦ nested_lines same_count x
    ])
    by untouched = short_same []
    by whole = lines_held x
    by closed = lines_held x
    by leftover = lines_held x

-- ---- Of the definition's sheet.
module _ (g : Graph) (x : Nested) where
  pub as_long : length (nested_words most g x) ≡ length (sheet.sheet_words (sheet.sheet_of g x))
  as_long = (sheet_held g x).long ∙ ap length (sheet_lines g x)

  pub same_if_short : length (sheet.sheet_words (sheet.sheet_of g x)) ≤ 4294967295
      → nested_words most g x ≡ sheet.sheet_words (sheet.sheet_of g x)
  same_if_short h = (sheet_held g x).same (rw (sheet_lines g x) h) ∙ sheet_lines g x
