-- The functions, path by path.
use Rattle.std.specs.Prelude.{◌≡◌, List}
use Rattle.std.proofs.Math.Path.{refl, ap}
use Rattle.std.proofs.Common.{sym, ◌∙◌, suc-mul, mul-le-mul}
use Prim.Native.Nat.{ℕ, zero, suc, ◌+◌, ◌*◌, ◌≤◌, ◌<◌, max}
use native.Mathlib.Omega.{arith}
use Rattle.std.proofs.Math.Decide.{dec_lt}
use Rattle.meaning.specs.Graph.{Graph, region}
use Rattle.meaning.specs.Runs.{Nodes, Cases}
use Rattle.meaning.specs.facts.Numbers.{max_assoc}
use Rattle.nesting.specs.Sheet.{figure, dearest}
use Rattle.record.specs.Stands.{Stands, OfRecord}
use Rattle.state_words.specs.Sections.{section, cells}
use Rattle.state_words.specs.Rows.{tag_blocks, tag_join, tag_select, tag_loop, cell_tag, blocks_region, join_list, select_cases}
use Rattle.state_words.specs.Rows.{loop_body, loop_header, cases_after, children_of_case}
use Rattle.state_shown.specs.Cells.{ShowsCaseCells, no_cases, case_and}
use Rattle.state_shown.specs.laws.CellSteps.{no_list}
use Rattle.state_lists.specs.CellByCell.{list_before, CellAdded, added_blocks, added_list, added_exit, added_select}
use Rattle.state_lists.specs.CellByCell.{added_loop, ListAppended, appends, FirstCase, case_first}
use Rattle.state_lists.specs.laws.CellByCellLaws.{before_below, named_below, appended, first_case}
use Rattle.figure.specs.laws.Nodes.{figure_join, figure_blocks}
use Rattle.figure.specs.Figured.{capped, Figured, CellFigured, DearestFigured, BlocksFigured, ToCome, SummedTo, CasesToCome}
use Rattle.figure.specs.Figured.{DearestTo}

-- ---- Sums and turns over what is held at the largest number.
pub capped_times : (m n c : ℕ) → capped (m * (capped n + c)) ≡ capped (m * (n + c))
capped_times zero n c = omega arith
capped_times (suc m) n c = by (dec_lt n 4294967296)
  where
    by : Dec (n < 4294967296) → capped (suc m * (capped n + c)) ≡ capped (suc m * (n + c))
    by (yes l) = let e : capped n ≡ n = omega arith in rw e
    by (no l) = omega (arith, suc-mul m (capped n + c), suc-mul m (n + c))

-- Words and what is held have room for their product.
pub turns_fit : {limit n test : ℕ} → limit < 65536 → n ≤ 4294967296 → test < 65536 → limit * (n + test) ≤ 281474976579585
turns_fit {limit} {n} {test} a b c = mul-le-mul {n₂ = 65535} {m₂ = 4295032831} (omega arith) (omega arith)

-- ---- The dearest of a list of cases.
capped_max : (a b : ℕ) → capped (max a b) ≡ max (capped a) (capped b)
capped_max a b = omega arith

module _ {w : List ℕ} {list : ℕ} where
  pub dearest_start : DearestTo w list list 0
  dearest_start =
      record { small = omega arith; below = omega arith; shown = λ g s cs x. record { cases = cs; shown = x; dearer = omega arith } }

  pub dearest_turn : {h n p q x most : ℕ} → DearestTo w list h n → 0 < h → p ≡ children_of_case w h → Figured w p x → most ≡ max n x
      → q ≡ cases_after w h
      → DearestTo w list q most
  unfolding figure
  dearest_turn {h} {n} {p} {q} {x} {most} d above of_first f is of_others =
      let b = d.below in
      let l = named_below _ of_others above in
      record {
        small = omega (arith, d.small, f.small);
        below = omega arith;
        shown = λ g s cs y. go g s (d.shown g s cs y);
      }
    where
      by : (g : Graph) → Stands w g → {cs : Cases} {whole : ℕ} → FirstCase g w h cs
          → max n (capped (dearest g.test_cost cs)) ≡ capped whole → CasesToCome g w q most whole
      by g s {cs} (case_first {ns} {cs = rest} nodes others z) e =
          let first = (rw of_first at f).shown g s _ nodes in
          let parts : dearest g.test_cost cs ≡ max (figure g.test_cost ns) (dearest g.test_cost rest) = ap
          (dearest g.test_cost) z in
          record {
            cases = rest;
            shown = rw of_others others;
            dearer = rw (is, max_assoc n x _, first, ← capped_max (figure g.test_cost ns) (dearest g.test_cost rest), ← parts) e;
          }

      go : (g : Graph) → Stands w g → {whole : ℕ} → CasesToCome g w h n whole → CasesToCome g w q most whole
      go g s y = by g s (first_case w y.shown above) y.dearer

  pub dearest_all : {h most : ℕ} → DearestTo w list h most → h ≤ 0 → DearestFigured w list most
  unfolding figure
  dearest_all {h} {most} d none = record { small = d.small; shown = λ g s cs y. go g (d.shown g s cs y) }
    where
      empty : (g : Graph) {cs : Cases} → ShowsCaseCells g (section w cells) h cs → dearest g.test_cost cs ≡ 0
      empty g (no_cases z) = refl
      empty g (case_and x p q ns cs z) = absurd (omega arith)

      go : (g : Graph) {whole : ℕ} → CasesToCome g w h most whole → most ≡ capped whole
      go g y =
          let zero_left = empty g y.shown in
          let e = y.dearer in
          omega arith

-- ---- What a cell adds.
module _ {w : List ℕ} {h tag : ℕ} (of_tag : tag ≡ cell_tag w h) where
  pub cell_blocks : {r n a : ℕ} → tag ≡ tag_blocks → r ≡ blocks_region w h → BlocksFigured w r n → a ≡ capped n → CellFigured w h a
  cell_blocks {r} {n} {a} e of_region f is = record { small = omega arith; shown = λ g s ks x. go g s (rw (sym of_tag ∙ e) at x) }
    where
      go : (g : Graph) → Stands w g → {ks : Nodes} → CellAdded g w h ks tag_blocks → a ≡ capped (figure g.test_cost ks)
      go g s (added_blocks some q) =
          let all = ap (figure g.test_cost) q ∙ figure_blocks g.test_cost g (blocks_region w h) in
          is ∙ ap capped ((rw of_region at f).shown g s ∙ sym all)

  pub cell_joined : {p a : ℕ} → tag ≡ tag_join → p ≡ join_list w h → Figured w p a → CellFigured w h a
  cell_joined {p} {a} e of_list f = record { small = f.small; shown = λ g s ks x. go g s (rw (sym of_tag ∙ e) at x) }
    where
      go : (g : Graph) → Stands w g → {ks : Nodes} → CellAdded g w h ks tag_join → a ≡ capped (figure g.test_cost ks)
      go g s (added_list x) = (rw of_list at f).shown g s _ x

  module _ {test : ℕ} (of_test : OfRecord w (λ g. test ≡ g.test_cost)) where
    pub cell_select : {p n a : ℕ} → tag ≡ tag_select → p ≡ select_cases w h → DearestFigured w p n → a ≡ capped (test + n)
        → CellFigured w h a
    unfolding figure
    cell_select {p} {n} {a} e of_list f is = record { small = omega arith; shown = λ g s ks x. go g s (rw (sym of_tag ∙ e) at x) }
      where
        go : (g : Graph) → Stands w g → {ks : Nodes} → CellAdded g w h ks tag_select → a ≡ capped (figure g.test_cost ks)
        go g s (added_select shape v cs q) =
            let t = of_test g s in
            let n_is = (rw of_list at f).shown g s _ cs in
            rw q (omega arith)

    pub cell_loop : {r limit p n a : ℕ} → tag ≡ tag_loop → r ≡ loop_header w h → OfRecord w (λ g. limit ≡ (region g r).limit)
        → p ≡ loop_body w h
        → Figured w p n → a ≡ capped (limit * (n + test)) → CellFigured w h a
    unfolding figure
    cell_loop {r} {limit} {p} {n} {a} e of_region of_limit of_list f is =
        record { small = omega arith; shown = λ g s ks x. go g s (rw (sym of_tag ∙ e) at x) }
      where
        go : (g : Graph) → Stands w g → {ks : Nodes} → CellAdded g w h ks tag_loop → a ≡ capped (figure g.test_cost ks)
        go g s (added_loop {ns} y body v kept q) =
            let l = (rw of_region at of_limit) g s in
            let n_is = (rw of_list at f).shown g s _ body in
            let turns = capped_times (region g (loop_header w h)).limit (figure g.test_cost ns) g.test_cost in
            is ∙ rw (l, n_is, of_test g s, q) (omega arith)

  pub cell_other : (tag ≡ tag_blocks → ⊥) → (tag ≡ tag_join → ⊥) → (tag ≡ tag_select → ⊥) → (tag ≡ tag_loop → ⊥) → CellFigured w h 0
  unfolding figure
  cell_other a b c d = record { small = omega arith; shown = λ g s ks x. go g (rw (sym of_tag) at x) refl }
    where
      go : (g : Graph) {ks : Nodes} {t : ℕ} → CellAdded g w h ks t → tag ≡ t → 0 ≡ capped (figure g.test_cost ks)
      go g (added_blocks some q) e = absurd (a e)
      go g (added_list x) e = absurd (b e)
      go g (added_exit t q) e = rw q
      go g (added_select s v cs q) e = absurd (c e)
      go g (added_loop y x v k q) e = absurd (d e)

-- ---- A list of nodes, from its last cell on.
module _ {w : List ℕ} {list : ℕ} where
  pub passed_none : SummedTo w list list 0
  passed_none =
      record { small = omega arith; below = omega arith; shown = λ g s ks x. record { nodes = ks; shown = x; sums = omega arith } }

  pub passed_turn : {h n sum p : ℕ} → SummedTo w list h n → 0 < h → {a : ℕ} → CellFigured w h a → sum ≡ capped (n + a) → p ≡ list_before w h
      → SummedTo w list p sum
  passed_turn {h} {n} {sum} {p} x above {a} f is of_list =
      let b = x.below in
      let l = before_below w of_list above in
      record { small = omega arith; below = omega arith; shown = λ g s ks y. go g s (x.shown g s ks y) }
    where
      by : (g : Graph) → Stands w g → {ks : Nodes} {whole : ℕ} → ListAppended g w h ks
          → capped (figure g.test_cost ks + n) ≡ capped whole
          → ToCome g w p sum whole
      by g s (appends {ns} {ms} before y q) e =
          let parts = ap (figure g.test_cost) q ∙ figure_join g.test_cost ns ms in
          let a_is = f.shown g s ms y in
          record { nodes = ns; shown = rw of_list before; sums = omega arith }

      go : (g : Graph) → Stands w g → {whole : ℕ} → ToCome g w h n whole → ToCome g w p sum whole
      go g s y = by g s (appended w y.shown above) y.sums

  pub passed_all : {h sum : ℕ} → SummedTo w list h sum → h ≤ 0 → Figured w list sum
  unfolding figure
  passed_all {h} {sum} x none = record { small = x.small; shown = λ g s ks y. go g (x.shown g s ks y) }
    where
      go : (g : Graph) {whole : ℕ} → ToCome g w h sum whole → sum ≡ capped whole
      go g y =
          let empty = ap (figure g.test_cost) (no_list y.shown (omega arith)) in
          let small = x.small in
          let e = y.sums in
          omega arith
