-- Lines put from the last cell to the first are the definition's lines of the whole list: a turn puts what the last cell adds in front of
-- what was put, and goes on with the list before it.
use Rattle.std.specs.Prelude.{◌≡◌, List, [], ℕ, suc, ◌+◌, ◌-◌, ◌≤◌, ◌<◌}
use Rattle.std.proofs.Common.{sym, ◌∙◌}
use native.Mathlib.Omega.{arith}
use Rattle.meaning.specs.Graph.{Graph, Value, region, exit_invocation}
use Rattle.meaning.specs.Runs.{Nodes, ⟨⟩, Cases, exit, loop, case_count}
use Rattle.nesting.specs.Nesting.{plain, blocks_of, new_select, loop_node}
use Rattle.state_words.specs.Sections.{section, cells}
use Rattle.state_words.specs.Rows as rows
use Rattle.state_words.specs.Rows.{tag_blocks, tag_join, tag_exit, tag_select, tag_loop, cell_tag, blocks_region, join_list, exit_node}
use Rattle.state_words.specs.Rows.{exit_region, select_node, select_cases, loop_body, loop_header, cases_after, case_region}
use Rattle.state_words.specs.Rows.{children_of_case}
use Rattle.state_shown.specs.Cells.{ShowsCaseCells, no_cases, case_and}
use Rattle.state_shown.specs.laws.Conditions.{few_cases}
use Rattle.state_shown.specs.laws.CellSteps.{no_list}
use Rattle.state_lists.specs.CellByCell.{CellAdded, added_blocks, added_list, added_exit, added_select, added_loop, ListAppended, appends}
use Rattle.state_lists.specs.CellByCell.{FirstCase, case_first, list_before, case_cell, CaseTotal}
use Rattle.state_lists.specs.laws.CellByCellLaws.{appended, first_case, case_after, case_some}
use Rattle.sheet_words.specs.declared.place.Place.{Place}
use Rattle.sheet_words.specs.PutInFront.{Puts}
use Rattle.sheet_words.specs.laws.PutInFrontLaws.{◌⊕◌, puts_then, puts_none, puts_as}
use Rattle.sheet_words.specs.Parts.{OfState, node_part, nodes_part, cases_part, region_part}
use Rattle.sheet_words.specs.laws.PartLaws.{parts_assoc, part_last, no_nodes_part, one_node_part, joined_part}
use Rattle.sheet_selects.specs.laws.SelectPartsLaws.{new_select_part, no_cases_part, new_case_part}
use Rattle.sheet_selects.specs.SelectLines.{PutsSelectLine, PutsCaseLine}
use Rattle.sheet_selects.specs.laws.OwnOutputsLaws.{values_shown}
use Rattle.sheet_loops.specs.LoopParts.{loop_part, loop_is}
use Rattle.sheet_nodes.specs.Regions.{PutsNodes}
use Rattle.sheet_nodes.specs.Walk.{PutsCell, PutsCases, PutsLoopLines, Behind, PutsBehind}

-- ---- By the tag of a cell.
module _ (w : List ℕ) (h : ℕ) {tag : ℕ} (of_tag : tag ≡ cell_tag w h) where
  with_tag : {n : ℕ} → tag ≡ n → {g : Graph} {ks : Nodes} → CellAdded g w h ks (cell_tag w h) → CellAdded g w h ks n
  with_tag e x = rw (sym of_tag ∙ e) at x

  pub cell_blocks : {r : ℕ} {out out' : List ℕ} {at at' : Place} → tag ≡ tag_blocks → r ≡ blocks_region w h
      → OfState w (λ g s. Puts out at (nodes_part s (blocks_of g r)) out' at') → PutsCell w h out at out' at'
  cell_blocks {out = out} {out'} {at} {at'} e a p g s c ks x = go (with_tag e x)
    where
      go : CellAdded g w h ks tag_blocks → Puts out at (nodes_part s ks) out' at'
      go (added_blocks some z) = rw z (rw a at (p g s c))

  pub cell_list : {list : ℕ} {out out' : List ℕ} {at at' : Place} → tag ≡ tag_join → list ≡ join_list w h → PutsNodes w list out at out' at'
      → PutsCell w h out at out' at'
  cell_list {out = out} {out'} {at} {at'} e a p g s c ks x = go (with_tag e x)
    where
      go : CellAdded g w h ks tag_join → Puts out at (nodes_part s ks) out' at'
      go (added_list z) = p g s c ks (rw a z)

  pub cell_exit : {node r : ℕ} {out out' : List ℕ} {at at' : Place} → tag ≡ tag_exit → node ≡ exit_node w h → r ≡ exit_region w h
      → OfState w (λ g s. (op : ℕ) (vs : List Value) → (region g r).terminator ≡ exit_invocation op vs
      → Puts out at (node_part s (exit node op vs)) out' at') → PutsCell w h out at out' at'
  cell_exit {node} {out = out} {out'} {at} {at'} e a b p g s c ks x = go (with_tag e x)
    where
      go : CellAdded g w h ks tag_exit → Puts out at (nodes_part s ks) out' at'
      go (added_exit {op} {vs} t z) =
          rw (z, ← a) (puts_as (p g s c op vs (rw b t)) (sym (one_node_part s (exit node op vs))))

  pub cell_select : {list node : ℕ} {out out₁ out₂ : List ℕ} {at at₁ at₂ : Place} → tag ≡ tag_select → list ≡ select_cases w h
      → node ≡ select_node w h → PutsCases w list node 0 out at out₁ at₁ → PutsSelectLine w h out₁ at₁ out₂ at₂
      → PutsCell w h out at out₂ at₂
  cell_select {out = out} {out₂ = out₂} {at = at} {at₂ = at₂} e a b p q g s c ks x = go (with_tag e x)
    where
      go : CellAdded g w h ks tag_select → Puts out at (nodes_part s ks) out₂ at₂
      go (added_select {kind} {v} {cs} shape t cases z) =
          let m = few_cases shape in
          let first = p g s c cs (rw a cases) (omega arith) in
          rw z (puts_as (puts_then (rw b at first) (q g s c kind v cs shape t cases))
          (sym (one_node_part s (new_select (select_node w h) kind v cs) ∙ new_select_part s (select_node w h) kind v cs)))

  pub cell_loop : {list : ℕ} {out out₁ out₂ : List ℕ} {at at₁ at₂ : Place} → tag ≡ tag_loop → list ≡ loop_body w h
      → PutsNodes w list out at out₁ at₁
      → PutsLoopLines w h out₁ at₁ out₂ at₂ → PutsCell w h out at out₂ at₂
  cell_loop {out = out} {out₂ = out₂} {at = at} {at₂ = at₂} e a p q g s c ks x = go (with_tag e x)
    where
      go : CellAdded g w h ks tag_loop → Puts out at (nodes_part s ks) out₂ at₂
      go (added_loop {v} {ns} y nodes t kept z) =
          let x = loop_node g (rows.loop_node w h) (loop_header w h) y v in
          rw z (puts_as (puts_then (p g s c ns (rw a nodes)) (q g s c y v ns nodes t kept))
          (sym (one_node_part s (loop x ns) ∙ loop_is s x ns
          ∙ sym (parts_assoc (loop_part s x) (region_part s x.body x.types ns x.outputs) (nodes_part s ns)))))

  -- A cell of another tag adds nothing that is shown.
  pub cell_none : (tag ≡ tag_blocks → ⊥) → (tag ≡ tag_join → ⊥) → (tag ≡ tag_exit → ⊥) → (tag ≡ tag_select → ⊥) → (tag ≡ tag_loop → ⊥)
      → (out : List ℕ) (at : Place)
      → PutsCell w h out at out at
  cell_none a b d e f out at g s c ks x = go x of_tag
    where
      go : {n : ℕ} → CellAdded g w h ks n → tag ≡ n → Puts out at (nodes_part s ks) out at
      go (added_blocks some z) i = absurd (a i)
      go (added_list z) i = absurd (b i)
      go (added_exit t z) i = absurd (d i)
      go (added_select shape t cases z) i = absurd (e i)
      go (added_loop y nodes t kept z) i = absurd (f i)

-- ---- Cases: none, or the later ones, the first's nodes, and its line.
no_cases_put : (w : List ℕ) (node j : ℕ) {list : ℕ} → list ≡ 0 → (out : List ℕ) (at : Place) → PutsCases w list node j out at out at
no_cases_put w node j e out at g s c cs x few = go x e
  where
    go : {list : ℕ} {cs : Cases} → ShowsCaseCells g (section w cells) list cs → list ≡ 0 → Puts out at (cases_part s cs node j) out at
    go (no_cases z) e = puts_as (puts_none out at) (sym (no_cases_part s node j))
    go (case_and y p q ns cs z) e = absurd (omega arith)

cases_put : (w : List ℕ) (list node j : ℕ) {before kids k : ℕ} {out out₁ out₂ out₃ : List ℕ} {at at₁ at₂ at₃ : Place} → 1 ≤ list
    → before ≡ cases_after w list → k ≡ suc j → PutsCases w before node k out at out₁ at₁ → kids ≡ children_of_case w list
    → PutsNodes w kids out₁ at₁ out₂ at₂ → PutsCaseLine w list node j out₂ at₂ out₃ at₃ → PutsCases w list node j out at out₃ at₃
cases_put w list node j {out = out} {out₃ = out₃} {at = at} {at₃ = at₃} some b following later a nodes line g s c cs x few = go
    (first_case w x some) few
  where
    go : {cs : Cases} → FirstCase g w list cs → j + case_count cs ≤ 8 → Puts out at (cases_part s cs node j) out₃ at₃
    go (case_first {ns} {cs = rest} shown others z) m =
        let m' = rw z at m in
        let first = later g s c rest (rw b others) (omega arith) in
        rw z (puts_as (puts_then (puts_then (rw following at first) (nodes g s c ns (rw a shown)))
        (line g s c ns shown (values_shown c.state.tables (omega arith))))
        (sym (new_case_part s (case_region w list) ns rest node j)))

-- The loop over the cases: those from place j on are put.
module _ (w : List ℕ) (list node : ℕ) where
  pub cases_start : {n : ℕ} → CaseTotal w list n → (out : List ℕ) (at : Place) → PutsCases w (case_cell w list n) node n out at out at
  cases_start {n} total out at = no_cases_put w node n total.end out at

  pub cases_turn : (j : ℕ) {n c kids : ℕ} {out out₁ out₂ out₃ : List ℕ} {at at₁ at₂ at₃ : Place} → CaseTotal w list n → 0 < j → j ≤ n
      → PutsCases w (case_cell w list j) node j out at out₁ at₁ → c ≡ case_cell w list (j - 1) → kids ≡ children_of_case w c
      → PutsNodes w kids out₁ at₁ out₂ at₂ → PutsCaseLine w c node (j - 1) out₂ at₂ out₃ at₃
      → PutsCases w (case_cell w list (j - 1)) node (j - 1) out at out₃ at₃
  cases_turn j {c = c} total some within later e a nodes line =
      let z : j ≡ suc (j - 1) = omega arith in
      rw (← e) (cases_put w c node (j - 1) (case_some w list j total some within e) (case_after w list (j - 1) z e) z later a nodes line)

  pub cases_end : {j : ℕ} {out out' : List ℕ} {at at' : Place} → j ≤ 0 → PutsCases w (case_cell w list j) node j out at out' at'
      → PutsCases w list node 0 out at out' at'
  unfolding case_cell
  cases_end {j} none p = let z : j ≡ 0 = omega arith in rw z at p

module _ (w : List ℕ) (list : ℕ) where
  pub walk_start : (out : List ℕ) (at : Place) → PutsBehind w list list out at out at
  walk_start out at g s c ks x =
      record { left = ks; part = plain []; shown = x; whole = sym (part_last (nodes_part s ks)); puts = puts_none out at }

  pub walk_turn : (h : ℕ) {p : ℕ} {out out₁ out₂ : List ℕ} {at at₁ at₂ : Place} → 0 < h → PutsBehind w list h out at out₁ at₁
      → PutsCell w h out₁ at₁ out₂ at₂ → p ≡ list_before w h → PutsBehind w list p out at out₂ at₂
  walk_turn h {p} {out} {out₁} {out₂} {at} {at₁} {at₂} some before cell e g s c ks x =
      let b = before g s c ks x in go b (appended w b.shown some)
    where
      go : (b : Behind g w s ks h out at out₁ at₁) → ListAppended g w h b.left → Behind g w s ks p out at out₂ at₂
      go b (appends {ns} {ms} shown added z) =
          record {
            left = ns;
            part = nodes_part s ms ⊕ b.part;
            shown = rw e shown;
            whole = b.whole ∙ rw (z, joined_part s ns ms) (parts_assoc (nodes_part s ns) (nodes_part s ms) b.part);
            puts = puts_then b.puts (cell g s c ms added);
          }

  pub walk_end : {h : ℕ} {out out' : List ℕ} {at at' : Place} → h ≤ 0 → PutsBehind w list h out at out' at'
      → PutsNodes w list out at out' at'
  walk_end {h} none behind g s c ks x =
      let b = behind g s c ks x in
      let zero : h ≡ 0 = omega arith in
      let empty : b.left ≡ ⟨⟩ = no_list b.shown zero in
      puts_as b.puts (sym (b.whole ∙ rw (empty, no_nodes_part s)))
