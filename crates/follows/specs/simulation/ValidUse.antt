-- A valid graph in the shape in which the runs are compared; and its reachable regions are regions.
use Rattle.std.specs.Prelude.{◌≡◌, refl, true, ◌&&◌, ℕ, suc, ◌+◌, ◌≤◌, ◌<◌, get_or, eqb, ltb}
use Rattle.std.proofs.Common.{ap, arith, length-append, eqb-true, ltb-true}
use mathlib.Core.List.{List, [], ◌∷◌, ◌++◌, map}
use Rattle.std.proofs.Math.ListN.{length}
use Rattle.meaning.specs.Graph.{Value, const, input, instr, output, bool, undef, held, Instr, SelectionKind, bool_cond, number, Edge}
use Rattle.meaning.specs.Graph.{ControlInst, unreachable, return, exit_invocation, branch, select_branch, Graph, region, edges_of, no_value}
use Rattle.meaning.specs.Lists.{is_in, All}
use Rattle.meaning.specs.facts.Tests.{clash, and_both, picked_positive}
use Rattle.format.specs.References.{type_in, instructions, instr_type, behind_all, return_types}
use Rattle.format.specs.Valid.{Passed, ValidInstrs, ValidEdge, ValidEnd, TestRight, Valid}
use Rattle.format.specs.Valid as valid
use Rattle.nesting.specs.Nesting.{reachable}
use Rattle.meaning.specs.facts.Members.{first, rest, first_or_rest}
use Rattle.follows.specs.Reaches.{Reaches, entry, target}
use Rattle.follows.specs.counting.Reach.{reachable_sound}
use Rattle.follows.specs.simulation.Usable.{UsableIn, AllUsable, BlockUsable, BlocksUsable, after_blocks, arity, EndUsable}
use Rattle.follows.specs.simulation.Usable.{EndsUsable, EdgeUsable, EdgesUsable, TerminatorUsable, UsableGraph}
use Rattle.meaning.specs.facts.Elements.{getD_within}

total_counts : (k : ℕ) (bs : List (List Instr)) → after_blocks k bs ≡ k + length (instructions bs)
unfolding instructions
total_counts k [] = omega arith
total_counts k (b ∷ bs) = omega (arith, total_counts (k + length b) bs, length-append b (instructions bs))

module _ (g : Graph) (r : ℕ) where
  named : (k : ℕ) (v : Value) → 1 ≤ type_in g r k v → UsableIn r (arity g r) k v
  named k (const i) h = tt
  named k (bool b) h = tt
  named k (undef t) h = tt
  named k no_value h = absurd (omega arith)
  named k (input q i) h =
      let p = picked_positive (eqb q r) (get_or (region g r).inputs i 0) h in
      (eqb-true q r p.0, getD_within (region g r).inputs i p.1)
  named k (instr q i) h =
      let p = and_both (eqb q r) (ltb i k) (picked_positive (eqb q r && ltb i k) (instr_type (region g r) i) h).0 in
      (eqb-true q r p.0, ltb-true i k p.1)
  named k (held q i) h = absurd (omega arith)
  named k (output o) h = absurd (omega arith)

  all_named : (k : ℕ) (vs : List Value) → All (valid.Usable g r k) vs → AllUsable r (arity g r) k vs
  all_named k [] h = tt
  all_named k (v ∷ vs) (h, hs) = (named k v h.typed, all_named k vs hs)

  -- the instructions of a block, and those behind it
  record Split (k : ℕ) (b is : List Instr) : Type 0 where
    block : BlockUsable r (arity g r) k b
    behind : ValidInstrs g r (k + length b) is

  split : (k : ℕ) (b is : List Instr) → ValidInstrs g r k (b ++ is) → Split k b is
  split k [] is h = let z : k + 0 ≡ k = omega arith in record { block = tt; behind = rw z h }
  split k (i ∷ b) is (h, hs) =
      let s = split (suc k) b is hs in
      let z : k + suc (length b) ≡ suc k + length b = omega arith in
      record { block = (all_named k i.reads h.reads, s.block); behind = rw z s.behind }

  blocks_usable : (k : ℕ) (bs : List (List Instr)) → ValidInstrs g r k (instructions bs) → BlocksUsable r (arity g r) k bs
  unfolding instructions
  blocks_usable k [] h = tt
  blocks_usable k (b ∷ bs) h = let s = split k b (instructions bs) h in (s.block, blocks_usable (k + length b) bs s.behind)

  -- behind all instructions
  last : after_blocks 0 (region g r).blocks ≡ behind_all g r
  last = omega (arith, total_counts 0 (region g r).blocks)

  end_usable : (v : Value) → valid.Usable g r (behind_all g r) v → EndUsable g r v
  end_usable v h = rw last (named (behind_all g r) v h.typed)

  passed : (ts : List ℕ) (vs : List Value) → Passed g r ts vs → EndsUsable g r vs × (length vs ≡ length ts)
  passed [] [] h = (tt, refl)
  passed [] (v ∷ vs) h = absurd h
  passed (t ∷ ts) [] h = absurd h
  passed (t ∷ ts) (v ∷ vs) (h, _, hs) = let p = passed ts vs hs in ((end_usable v h, p.0), ap suc p.1)

  edge_usable : (e : Edge) → ValidEdge g r e → EdgeUsable g r e
  edge_usable e h = let p = passed (region g e.target).inputs e.inputs h.inputs in
      record { inputs = p.0; target = h.target; many = p.1 }

  edges_usable : (es : List Edge) → All (ValidEdge g r) es → EdgesUsable g r es
  edges_usable [] h = tt
  edges_usable (e ∷ es) (h, hs) = (edge_usable e h, edges_usable es hs)

  test_some : (kind : SelectionKind) (v : Value) (es : List Edge) → TestRight g r kind v es → 1 ≤ length es
  test_some bool_cond v es h = omega (arith, h.1)
  test_some number v es h = h.0

  test_two : (kind : SelectionKind) (v : Value) (es : List Edge) → TestRight g r kind v es → kind ≡ bool_cond → length es ≡ 2
  test_two bool_cond v es h e = h.1
  test_two number v es h e = cc

  terminator_usable : (c : ControlInst) → ValidEnd g r c → TerminatorUsable g r c
  terminator_usable unreachable h = tt
  terminator_usable (return vs) h = passed (return_types g) vs h.1
  terminator_usable (exit_invocation op vs) h = rw last (all_named (behind_all g r) vs h.1)
  terminator_usable (branch e) h = edge_usable e h
  terminator_usable (select_branch kind v es) (h, t, hs) =
      record { scrutinee = end_usable v h; edges = edges_usable es hs; two = test_two kind v es t; some = test_some kind v es t }

pub usable_graph : (g : Graph) → Valid g → UsableGraph g
usable_graph g h = record {
  entry = h.entry;
  blocks = λ r l. blocks_usable g r 0 (region g r).blocks (h.regions r l).instructions;
  terminator = λ r l. terminator_usable g r (region g r).terminator (h.regions r l).terminator;
}

-- ---- what the entry reaches is a region
pub edges_of_usable : (g : Graph) (r : ℕ) (c : ControlInst) → TerminatorUsable g r c → EdgesUsable g r (edges_of c)
edges_of_usable g r unreachable h = tt
edges_of_usable g r (return vs) h = tt
edges_of_usable g r (exit_invocation op vs) h = tt
edges_of_usable g r (branch e) h = (h, tt)
edges_of_usable g r (select_branch kind v es) h = h.edges

target_region : (g : Graph) (r x : ℕ) (es : List Edge) → EdgesUsable g r es → is_in x (map (λ e. e.target) es) ≡ true
    → x < length g.regions
target_region g r x [] h i = absurd (clash (cc))
target_region g r x (e ∷ es) (h, hs) i =
    elim (first_or_rest x e.target (map (λ e. e.target) es) i) [ first q ↦ rw q h.target | rest k ↦ target_region g r x es hs k ]

reaches_region : (g : Graph) → UsableGraph g → (x : ℕ) → Reaches g x → x < length g.regions
reaches_region g u x entry = u.entry
reaches_region g u x (target {r = r} y h i) =
    target_region g r y (edges_of (region g r).terminator)
    (edges_of_usable g r (region g r).terminator (u.terminator r (reaches_region g u r h))) i

pub reachable_region : (g : Graph) → UsableGraph g → (x : ℕ) → is_in x (reachable g) ≡ true → x < length g.regions
reachable_region g u x i = reaches_region g u x (reachable_sound g x i)
