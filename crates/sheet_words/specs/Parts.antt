-- The parts of a sheet, as the definition has them: the words of each line, and the note `twice` of the values that it shows.
use Rattle.std.specs.Prelude.{List, [], ◌∷◌, ◌++◌, map, ℕ, length, leb}
use Rattle.meaning.specs.Lists.{any, concat, pick}
use Rattle.meaning.specs.Graph.{Graph, Value}
use Rattle.meaning.specs.Runs.{Node, block, select, loop, exit, Nodes, ⟨⟩, ◌▸◌, Cases, ∅, case, SelectNode, LoopNode}
use Rattle.format.specs.Valid.{Valid}
use Rattle.nesting.specs.Nesting.{NestState, NodeOutput, LookUp, plain, ◌⊛◌, look_up_last, look_up_each, look_up_node, look_up_nodes}
use Rattle.nesting.specs.Nesting.{look_up_cases, DeferredEdgeBundle, DeferredEdgeBundleSet, look_up_bundle, condition_in}
use Rattle.nesting.specs.Sheet as sheet
use Rattle.nesting.specs.SheetNumbers.{lead_region, lead_block, lead_select, lead_loop, lead_exit}
use Rattle.nesting.specs.lookups.ChainEnds.{ChainsEnd}
use Rattle.nesting.specs.decoding.Lines.{words_of}
use Rattle.state_shown.specs.States.{ShowsState}
use Rattle.sheet_words.specs.PutInFront.{Part}

-- ---- What the words show when nesting is done.
pub record Concluded (g : Graph) (w : List ℕ) (s : NestState) : Type 0 where
  pub valid : Valid g
  pub state : ShowsState g w s
  pub chains : (r : ℕ) → ChainsEnd s.region_input_rewrites r

-- What holds of the state that the words show, where they show one.
abbrev pub OfState : List ℕ → (Graph → NestState → Type 0) → Type 0
OfState w P = (g : Graph) (s : NestState) → Concluded g w s → P g s

-- ---- The words of a sheet's lines. A list of child nodes has its count in front, held at the largest word: a sheet whose count is
-- larger has more words than can be lent.
abbrev pub most : ℕ → ℕ
most n = pick (leb n 4294967295) n 4294967295

-- `count` is what stands for the number of a region's children, `nodes` has the node of each output.
module _ (count : ℕ → ℕ) (nodes : List ℕ) where
  -- Region, inputs' types, child nodes, output values.
  abbrev pub region_words : ℕ → List ℕ → Nodes → List Value → List ℕ
  region_words r ts ks vs =
      (lead_region ∷ r ∷ length ts ∷ ts) ++ (count (length (sheet.kids ks)) ∷ sheet.kids ks) ++ (sheet.values nodes vs).words

  -- Node, kind, value, case regions, types of its outputs.
  abbrev pub select_words : SelectNode → Cases → List ℕ
  select_words x cs =
      (lead_select ∷ x.number ∷ []) ++ (sheet.kind x.kind).words ++ (sheet.value nodes x.scrutinee).words
      ++ (sheet.numbers (sheet.case_numbers cs)).words ++ (sheet.numbers (map (λ o. o.type) x.outputs)).words

  -- Node, first inputs, body region, repeat value.
  abbrev pub loop_words : LoopNode → List ℕ
  loop_words x = (lead_loop ∷ x.number ∷ []) ++ (sheet.values nodes x.initial_inputs).words ++ (x.body ∷ []) ++ (sheet.value nodes
      x.repeat).words

  unfoldable mutual
    pub node_words : Node → List ℕ
    node_words (block n r k is) = lead_block ∷ n ∷ (sheet.list (sheet.items nodes r k is)).words
    node_words (select x cs) = select_words x cs ++ cases_words cs
    node_words (loop x ks) = loop_words x ++ region_words x.body x.types ks x.outputs ++ nodes_words ks
    node_words (exit n op vs) = lead_exit ∷ n ∷ op ∷ (sheet.values nodes vs).words

    pub nodes_words : Nodes → List ℕ
    nodes_words ⟨⟩ = []
    nodes_words (k ▸ ks) = node_words k ++ nodes_words ks

    pub cases_words : Cases → List ℕ
    cases_words ∅ = []
    cases_words (case c ks cs) = region_words c.region [] ks c.outputs ++ nodes_words ks ++ cases_words cs

-- ---- The same of what is looked up for the last time, in a state of nesting.
-- The parts of a list, one after another.
abbrev pub each : {A : Type 0} → (A → Part) → List A → Part
each f xs = record { value = concat (map (λ x. (f x).value) xs); twice = any (λ x. (f x).twice) xs }

module _ (s : NestState) where
  abbrev pub output_nodes : List ℕ
  output_nodes = map (λ (o : NodeOutput). o.node) s.node_outputs

  abbrev pub look_up_at_end : Value → LookUp Value
  look_up_at_end v = look_up_last s.region_input_rewrites v

  unfoldable pub value_part : Value → Part
  value_part v = plain (λ u. (sheet.value output_nodes u).words) ⊛ look_up_at_end v

  -- With their count in front.
  unfoldable pub values_part : List Value → Part
  values_part vs = plain (λ us. (sheet.values output_nodes us).words) ⊛ look_up_each look_up_at_end vs

  unfoldable pub node_part : Node → Part
  unfolding look_up_node node_words
  node_part k = plain (λ n. node_words most output_nodes n) ⊛ look_up_node look_up_at_end s.node_outputs k

  unfoldable pub nodes_part : Nodes → Part
  unfolding look_up_nodes nodes_words
  nodes_part ks = plain (λ ns. nodes_words most output_nodes ns) ⊛ look_up_nodes look_up_at_end s.node_outputs ks

  -- Of node n, from place j on.
  unfoldable pub cases_part : Cases → ℕ → ℕ → Part
  unfolding look_up_cases cases_words
  cases_part cs n j = plain (λ xs. cases_words most output_nodes xs) ⊛ look_up_cases look_up_at_end s.node_outputs cs n j

  -- A region's line; its children are not looked up for it.
  unfoldable pub region_part : ℕ → List ℕ → Nodes → List Value → Part
  region_part r ts ks vs = plain (λ us. region_words most output_nodes r ts ks us) ⊛ look_up_each look_up_at_end vs

  -- A deferred edge of region r, in its set.
  unfoldable pub defer_part : ℕ → DeferredEdgeBundleSet → DeferredEdgeBundle → Part
  defer_part r d e = plain (λ x. words_of (sheet.defer_fields output_nodes r x)) ⊛ look_up_bundle look_up_at_end (condition_in d) e
