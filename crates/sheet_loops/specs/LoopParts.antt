-- The two lines of a loop, its own and its body's region line.
use Rattle.std.specs.Prelude.{◌≡◌, refl, Bool, true, false, ◌||◌, ℕ}
use mathlib.Core.List.{List, [], ◌∷◌, append_assoc}
use Rattle.meaning.specs.Runs.{Nodes, loop, LoopNode}
use Rattle.nesting.specs.Nesting.{NestState, plain, ◌⊛◌, with_values, look_up_each, look_up_node, look_up_nodes}
use Rattle.nesting.specs.SheetNumbers.{lead_loop}
use Rattle.sheet_words.specs.PutInFront.{Part}
use Rattle.sheet_words.specs.laws.PutInFrontLaws.{◌⊕◌}
use Rattle.sheet_words.specs.laws.PartLaws.{kids_looked_up}
use Rattle.sheet_words.specs.Parts.{most, output_nodes, look_up_at_end, value_part, values_part, node_part, nodes_part, region_part}
use Rattle.sheet_words.specs.Parts.{loop_words, node_words}

part_same : {xs ys : List ℕ} {p q : Bool} → xs ≡ ys → p ≡ q
    → ◌≡◌ {A = Part} (record { value = xs; twice = p }) (record { value = ys; twice = q })
part_same e f = rw (e, f)

-- The notes of a loop's lines and of its body's nodes, in another order.
notes : (a b c d : Bool) → (((a || b) || c) || d) ≡ ((a || c) || (b || d))
notes true b c d = refl
notes false true true d = refl
notes false true false d = refl
notes false false c d = refl

module _ (s : NestState) where
  -- Node, first inputs, body region, repeat value. The outputs stand in the body's line.
  unfoldable pub loop_part : LoopNode → Part
  loop_part x =
      plain (λ vs v. loop_words most (output_nodes s) (with_values x vs x.outputs v))
      ⊛ look_up_each (look_up_at_end s) x.initial_inputs ⊛ look_up_at_end s x.repeat

  -- What stands before the nodes of the body.
  abbrev pub loop_lines : LoopNode → Nodes → Part
  loop_lines x ns = loop_part x ⊕ region_part s x.body x.types ns x.outputs

  pub loop_line : (x : LoopNode)
      → loop_part x
      ≡ plain (lead_loop ∷ x.number ∷ []) ⊕ values_part s x.initial_inputs ⊕ plain (x.body ∷ []) ⊕ value_part s x.repeat
  unfolding loop_part values_part value_part
  loop_line x = simp append_assoc

  -- A loop is its lines, then the nodes of its body.
  pub loop_is : (x : LoopNode) (ns : Nodes)
      → node_part s (loop x ns) ≡ loop_part x ⊕ region_part s x.body x.types ns x.outputs ⊕ nodes_part s ns
  unfolding loop_part node_part nodes_part region_part look_up_node node_words
  loop_is x ns =
      part_same
      (rw (kids_looked_up (look_up_at_end s) s.node_outputs ns)
      (append_assoc (loop_part x).value (region_part s x.body x.types ns x.outputs).value (nodes_part s ns).value))
      (notes (look_up_each (look_up_at_end s) x.initial_inputs).twice (look_up_each (look_up_at_end s) x.outputs).twice
      (look_up_at_end s x.repeat).twice (look_up_nodes (look_up_at_end s) s.node_outputs ns).twice)
