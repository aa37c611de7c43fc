-- The lines of blocks and exits, taken apart.
use Rattle.std.specs.Prelude.{◌≡◌, ℕ, suc, ◌+◌, ◌-◌, ◌≤◌, ◌<◌, get_or}
use Rattle.std.proofs.Math.Path.{refl, sym}
use Rattle.std.proofs.Common.{ap, arith, zero-add}
use mathlib.Core.List.{List, [], ◌∷◌, map, append-nil}
use Rattle.std.proofs.Math.Nat.{add-zero, add_assoc}
use Rattle.std.proofs.Math.ListN.{length}
use Rattle.meaning.specs.Lists.{any, concat}
use Rattle.meaning.specs.Graph.{Value, Instr}
use Rattle.meaning.specs.Runs.{block, exit}
use Rattle.nesting.specs.Nesting.{NestState, plain, look_up_node, look_up_reads, blocks_from}
use Rattle.nesting.specs.Sheet as sheet
use Rattle.nesting.specs.SheetNumbers.{lead_block, lead_exit}
use Rattle.sheet_words.specs.declared.place.Place.{Place}
use Rattle.sheet_words.specs.PutInFront.{Part, Puts}
use Rattle.sheet_words.specs.laws.PutInFrontLaws.{◌⊕◌, puts_as}
use Rattle.sheet_words.specs.laws.Rows.{run, run_all}
use Rattle.sheet_words.specs.Parts.{output_nodes, look_up_at_end, values_part, node_part, nodes_part, node_words}
use Rattle.meaning.specs.facts.Numbers.{one_further}
use Rattle.sheet_words.specs.laws.PartLaws.{no_nodes_part, first_node_part, each_from}
use Rattle.fields.specs.ByNumber.{instructions_before}

module _ (s : NestState) where
  -- Region, index, opcode, type, reads.
  abbrev pub item_part : ℕ → ℕ → Instr → Part
  item_part r k i = plain (r ∷ k ∷ i.opcode ∷ i.type ∷ []) ⊕ values_part s i.reads

  module _ (r : ℕ) where
    items_count : (k : ℕ) (is : List Instr)
        → length (sheet.items (output_nodes s) r k (map (λ i. (look_up_reads (look_up_at_end s) i).value) is)) ≡ length is
    items_count k [] = refl
    items_count k (i ∷ is) = ap suc (items_count (suc k) is)

    items_words : (k : ℕ) (is : List Instr)
        → concat (map (λ f. f.words) (sheet.items (output_nodes s) r k (map (λ i. (look_up_reads (look_up_at_end s) i).value) is)))
        ≡ (each_from (item_part r) k is).value
    unfolding each_from values_part
    items_words k [] = refl
    items_words k (i ∷ is) =
        let reads = map (sheet.value (output_nodes s)) (map (λ v. (look_up_at_end s v).value) i.reads) in
        rw (items_words (suc k) is, append-nil (concat (map (λ f. f.words) reads)))

    items_notes : (k : ℕ) (is : List Instr)
        → any (λ i. (look_up_reads (look_up_at_end s) i).twice) is ≡ (each_from (item_part r) k is).twice
    unfolding each_from values_part
    items_notes k [] = refl
    items_notes k (i ∷ is) = rw (items_notes (suc k) is)

    -- Lead, node, items.
    pub block_listed : (n k : ℕ) (is : List Instr)
        → node_part s (block n r k is) ≡ plain (lead_block ∷ n ∷ length is ∷ []) ⊕ each_from (item_part r) k is
    unfolding node_part look_up_node node_words
    block_listed n k is = rw (items_count k is, items_words k is, items_notes k is)

  -- Lead, node, opcode, values.
  pub exit_listed : (n op : ℕ) (vs : List Value) → node_part s (exit n op vs) ≡ plain (lead_exit ∷ n ∷ op ∷ []) ⊕ values_part s vs
  unfolding node_part look_up_node node_words values_part
  exit_listed n op vs = refl

  -- ---- The blocks of a region, numbered from n on.
  module _ (n r : ℕ) where
    abbrev pub block_part : List (List Instr) → ℕ → Part
    block_part bs b = node_part s (block (n + b) r (instructions_before bs b) (get_or bs b []))

    run_blocks : (h : ℕ → Part) (m n k : ℕ) (bs : List (List Instr))
        → ((b : ℕ) → b < length bs → h (m + b) ≡ node_part s (block (n + b) r (k + instructions_before bs b) (get_or bs b [])))
        → run h m (length bs) ≡ nodes_part s (blocks_from n r k bs)
    unfolding run
    run_blocks h m n k [] e = sym (no_nodes_part s)
    run_blocks h m n k (b ∷ bs) e =
        let first : h m ≡ node_part s (block n r k b) = rw (add-zero m, add-zero n, add-zero k) at (e 0 (omega arith)) in
        let rest = run_blocks h (suc m) (suc n) (k + length b) bs
        (λ j l. rw (one_further m j, one_further n j, ← add_assoc k (length b) (instructions_before bs j)) at (e (suc j) (omega arith))) in
        rw (first, rest) (sym (first_node_part s (block n r k b) (blocks_from (suc n) r (k + length b) bs)))

    pub puts_blocks : (bs : List (List Instr)) {m b : ℕ} {out out₁ : List ℕ} {at at₁ : Place} → m ≡ length bs → b ≤ 0
        → Puts out at (run (block_part bs) b (m - b)) out₁ at₁ → Puts out at (nodes_part s (blocks_from n r 0 bs)) out₁ at₁
    puts_blocks bs {m} {b} size none p =
        puts_as (run_all _ m b none p)
        (rw size (run_blocks (block_part bs) 0 n 0 bs (λ j l. rw (zero-add j, zero-add (instructions_before bs j)))))
