-- The values of a valid graph name something, so those of its answer do.
use Rattle.std.specs.Prelude.{◌≡◌, List, [], ◌∷◌, ◌⊎◌, ℕ, suc, ◌≤◌, ◌<◌, length}
use Rattle.std.proofs.Common.{sym, subst, inl, inr, arith}
use Rattle.std.proofs.Math.ListN.{get_or-eq_default}
use Rattle.meaning.specs.Lists.{All, concat}
use Rattle.meaning.specs.facts.Elements.{all_map, all_parts}
use Rattle.meaning.specs.facts.Tests.{in_or_out}
use Rattle.meaning.specs.Graph.{Value, const, input, instr, output, bool, undef, held, no_value, Instr, Edge, ControlInst, unreachable}
use Rattle.meaning.specs.Graph.{return, exit_invocation, branch, select_branch, Region, Graph, region, nowhere}
use Rattle.format.specs.Store.{accepted}
use Rattle.format.specs.References.{instructions, return_types, behind_all}
use Rattle.format.specs.Valid.{Usable, Passed, ValidInstrs, ValidEdge, ValidEnd, ValidRegion, Valid}
use Rattle.nesting.specs.Nesting.{Nested, structurize_func}
use Rattle.nesting.specs.AnswerValues.{Named, AllNamed, InstrsNamed, NestedNamed}
use Rattle.nesting.proofs.named.NamedClaims.{EndNamed, RegionNamed}
use Rattle.nesting.proofs.named.NamedAnswer.{answer_named}

module _ (M : ℕ) (g : Graph) (r : ℕ) where
  usable_named : (k : ℕ) (v : Value) → Usable g r k v → Named M v
  usable_named k (output o) h = let z = h.typed in absurd (omega arith)
  usable_named k no_value h = let z = h.typed in absurd (omega arith)
  usable_named k (const i) h = tt
  usable_named k (input q j) h = tt
  usable_named k (instr q j) h = tt
  usable_named k (bool b) h = tt
  usable_named k (undef ty) h = tt
  usable_named k (held q j) h = tt

  passed_named : (ts : List ℕ) (vs : List Value) → Passed g r ts vs → AllNamed M vs
  passed_named [] [] h = tt
  passed_named [] (v ∷ vs) h = absurd h
  passed_named (t ∷ ts) [] h = absurd h
  passed_named (t ∷ ts) (v ∷ vs) h = (usable_named (behind_all g r) v h.0, passed_named ts vs h.2)

  instrs_named : (k : ℕ) (is : List Instr) → ValidInstrs g r k is → InstrsNamed M is
  instrs_named k [] h = tt
  instrs_named k (i ∷ is) h = (all_map (Usable g r k) (Named M) (usable_named k) i.reads h.0.reads, instrs_named (suc k) is h.1)

  blocks_apart : (bs : List (List Instr)) → InstrsNamed M (concat bs) → All (InstrsNamed M) bs
  blocks_apart [] h = tt
  blocks_apart (b ∷ bs) h = let z = all_parts (λ i. AllNamed M i.reads) b (concat bs) h in (z.0, blocks_apart bs z.1)

  edge_named : (e : Edge) → ValidEdge g r e → AllNamed M e.inputs
  edge_named e h = passed_named (region g e.target).inputs e.inputs h.inputs

  end_named : (x : ControlInst) → ValidEnd g r x → EndNamed M x
  end_named unreachable h = tt
  end_named (return vs) h = passed_named (return_types g) vs h.1
  end_named (exit_invocation op vs) h = all_map (Usable g r (behind_all g r)) (Named M) (usable_named (behind_all g r)) vs h.1
  end_named (branch e) h = edge_named e h
  end_named (select_branch k v es) h =
      (usable_named (behind_all g r) v h.0, all_map (ValidEdge g r) (λ e. AllNamed M e.inputs) edge_named es h.2)

  valid_region_named : (x : Region) → ValidRegion g r x → RegionNamed M x
  unfolding instructions
  valid_region_named x h =
      record {
        blocks = blocks_apart x.blocks (instrs_named 0 (concat x.blocks) h.instructions);
        terminator =
            end_named x.terminator h.terminator;
      }

pub graph_named : (g : Graph) → Valid g → (M r : ℕ) → RegionNamed M (region g r)
graph_named g valid M r = go (in_or_out r (length g.regions))
  where
    go : (r < length g.regions) ⊎ (length g.regions ≤ r) → RegionNamed M (region g r)
    go (inl l) = valid_region_named M g r (region g r) (valid.regions r l)
    go (inr l) = subst (λ x. RegionNamed M x) (sym (get_or-eq_default g.regions nowhere l)) (record { blocks = tt; terminator = tt })

pub nested_named : (g : Graph) → Valid g → (n : Nested) → structurize_func g ≡ accepted n → NestedNamed n
nested_named g valid n e = answer_named g (graph_named g valid) n e
