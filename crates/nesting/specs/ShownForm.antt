-- The form as a sheet shows it: values by their three words; no costs, no turn limits, no numbers of outputs.
use Rattle.std.specs.Prelude.{Bool, ℕ, suc, get_or, take}
use mathlib.Core.List.{List, [], ◌∷◌, ◌++◌, map}
use Rattle.meaning.specs.Lists.{times_in}
use Rattle.meaning.specs.Graph.{Instr, Code, SelectionKind, Value, const, input, instr, output, bool, undef, held, no_value, code_of, Graph}
use Rattle.meaning.specs.Graph.{output_kind}
use Rattle.meaning.specs.Runs.{SelectNode, Node, block, select, loop, exit, Nodes, ⟨⟩, ◌▸◌, Cases, ∅, case}
use Rattle.nesting.specs.Nesting.{Outcome, untouched, whole, closed, leftover, LazyCond, undef_cond, false_cond, true_cond, merge}
use Rattle.nesting.specs.Nesting.{LazyConds, ◌&◌, DeferredTarget, to_region, to_return, DeferredEdgeBundle, Piece, Nested}
use Rattle.nesting.specs.Sheet.{figure, ascending}
use Rattle.nesting.specs.SheetNumbers.{return_word}

-- An instruction of a block. A value is its three words.
pub record Item : Type 0 where
  pub region : ℕ
  pub index : ℕ
  pub opcode : ℕ
  pub type : ℕ
  pub reads : List Code

-- t, f, u, or m with its node and its parts.
mutual
  pub data Condition : Type 0 where
    t_cond f_cond u_cond : Condition
    m_cond : ℕ → Conditions → Condition

  pub data Conditions : Type 0 where
    no_part : Conditions
    part : Condition → Conditions → Conditions

-- A select, but for its cases; a deferred edge, whose target is 65,535 for Return.
pub record ShownSelect : Type 0 where
  pub number : ℕ
  pub kind : SelectionKind
  pub scrutinee : Code
  pub output_types : List ℕ

pub record ShownEdge : Type 0 where
  pub region : ℕ
  pub target : ℕ
  pub count : ℕ
  pub inputs : List Code
  pub condition : Condition

infixr 40 ◌▹◌ ◌▹▹◌
mutual
  pub data ShownNode : Type 0 where
    block_shown : ℕ → List Item → ShownNode  -- number, items
    select_shown : ShownSelect → ShownRegions → ShownNode
    loop_shown : ℕ → List Code → ShownRegion → Code → ShownNode  -- number, initial inputs, body, repeat condition
    exit_shown : ℕ → ℕ → List Code → ShownNode  -- number, opcode, values

  pub data ShownNodes : Type 0 where
    no_node : ShownNodes
    ◌▹◌ : ShownNode → ShownNodes → ShownNodes

  -- A piece of the answer, a case (which has no inputs) or a loop's body: region, input types, children, outputs.
  pub data ShownRegion : Type 0 where
    region_shown : ℕ → List ℕ → ShownNodes → List Code → ShownRegion

  pub data ShownRegions : Type 0 where
    no_region : ShownRegions
    ◌▹▹◌ : ShownRegion → ShownRegions → ShownRegions

-- `figure` is 0 where there is none. The pieces begin with the entry; the deferred edges ascend by region.
pub record ShownForm : Type 0 where
  pub outcome : Outcome
  pub figure : ℕ
  pub attempts : ℕ
  pub twice : Bool
  pub pieces : ShownRegions
  pub deferred : List ShownEdge

abbrev pub target_word : DeferredTarget → ℕ
target_word (to_region r) = r
target_word to_return = return_word

unfoldable mutual
  pub shown_cond : LazyCond → Condition
  shown_cond undef_cond = u_cond
  shown_cond false_cond = f_cond
  shown_cond true_cond = t_cond
  shown_cond (merge n kind v cs) = m_cond n (shown_conds cs)

  pub shown_conds : LazyConds → Conditions
  shown_conds LazyConds.no_conds = no_part
  shown_conds (c & cs) = part (shown_cond c) (shown_conds cs)

-- ---- of a nested form; `nodes` has the node of each output
module _ (nodes : List ℕ) where
  -- An output is shown as its node and its place among that node's.
  abbrev pub shown_value : Value → Code
  shown_value (const i) = code_of (const i)
  shown_value (input r k) = code_of (input r k)
  shown_value (instr r k) = code_of (instr r k)
  shown_value (output o) = record { kind = output_kind; region = get_or nodes o 0; index = times_in (get_or nodes o 0) (take o nodes) }
  shown_value (bool b) = code_of (bool b)
  shown_value (undef ty) = code_of (undef ty)
  shown_value no_value = code_of (undef 0)  -- on no sheet
  shown_value (held r k) = code_of (undef 0)  -- on no sheet

  abbrev pub block_items : ℕ → ℕ → List Instr → List Item
  block_items r k [] = []
  block_items r k (i ∷ is) =
      record { region = r; index = k; opcode = i.opcode; type = i.type; reads = map shown_value i.reads } ∷ block_items r (suc k) is

  abbrev pub shown_select : SelectNode → ShownSelect
  shown_select x =
      record { number = x.number; kind = x.kind; scrutinee = shown_value x.scrutinee; output_types = map (λ o. o.type) x.outputs }

  abbrev pub shown_edge : ℕ → DeferredEdgeBundle → ShownEdge
  shown_edge r e =
      record {
        region = r;
        target = target_word e.target;
        count = e.accumulated_count;
        inputs = map shown_value e.target_inputs;
        condition = shown_cond e.condition;
      }

  unfoldable mutual
    pub shown_node : Node → ShownNode
    shown_node (block n r k is) = block_shown n (block_items r k is)
    shown_node (select x cs) = select_shown (shown_select x) (shown_cases cs)
    shown_node (loop x ks) =
        loop_shown x.number (map shown_value x.initial_inputs)
        (region_shown x.body x.types (shown_nodes ks) (map shown_value x.outputs)) (shown_value x.repeat)
    shown_node (exit n op vs) = exit_shown n op (map shown_value vs)

    pub shown_nodes : Nodes → ShownNodes
    shown_nodes ⟨⟩ = no_node
    shown_nodes (k ▸ ks) = shown_node k ▹ shown_nodes ks

    pub shown_cases : Cases → ShownRegions
    shown_cases ∅ = no_region
    shown_cases (case c ks cs) = region_shown c.region [] (shown_nodes ks) (map shown_value c.outputs) ▹▹ shown_cases cs

  unfoldable pub shown_pieces : List Piece → ShownRegions
  unfolding shown_nodes
  shown_pieces [] = no_region
  shown_pieces (p ∷ ps) =
      region_shown p.region p.inputs (shown_nodes p.children) (map shown_value p.outputs) ▹▹ shown_pieces ps

  abbrev pub shown_deferred : List Piece → List ShownEdge
  shown_deferred [] = []
  shown_deferred (p ∷ ps) = map (shown_edge p.region) p.deferred ++ shown_deferred ps

abbrev pub form_with : Nested → Outcome → ℕ → ShownForm
form_with x o f =
    record {
      outcome = o;
      figure = f;
      attempts = x.attempts;
      twice = x.twice;
      pieces = shown_pieces x.output_nodes (x.entry ∷ x.unclaimed);
      deferred = shown_deferred x.output_nodes (ascending x.entry x.unclaimed);
    }

-- The figure exists for whole and closed; an untouched record shows no piece.
unfoldable pub shown_form : Graph → Nested → ShownForm
unfolding shown_pieces figure
shown_form g x =
    let figured = figure g.test_cost x.entry.children in
    elim x.outcome [
      | untouched ↦ record { outcome = untouched; figure = 0; attempts = x.attempts; twice = x.twice; pieces = no_region; deferred = [] }
      | whole ↦ form_with x whole figured
      | closed ↦ form_with x closed figured
      | leftover ↦ form_with x leftover 0
    ]
