-- What a cell names stands before it, so that every walk over cells ends; and what a handle shows is what its last cell adds to the list
-- before it. Cited by all crates that walk: the figure and the lines.
use Rattle.std.specs.Prelude.{◌≡◌, refl, Bool, true, false, List, eqb, get_or}
use Rattle.std.proofs.Common.{sym, ◌∙◌, add-one, lt-ltb, le-ltb, eq-eqb, ne_eqb}
use Prim.Native.Nat.{ℕ, zero, suc, ◌+◌, ◌-◌, ◌≤◌, ◌<◌}
use native.Mathlib.Omega.{arith}
use Rattle.std.proofs.Math.Decide.{dec_lt}
use Rattle.meaning.specs.Lists.{pick}
use Rattle.meaning.specs.Graph.{Graph}
use Rattle.meaning.specs.Runs.{Nodes, ⟨⟩, ◌▸◌, Cases, exit}
use Rattle.nesting.specs.Nesting.{new_select}
use Rattle.state_words.specs.Sections.{section, cells}
use Rattle.state_words.specs.Rows.{earlier, cell_word, tag_loop, cell_tag, cell_before, cases_after}
use Rattle.state_shown.specs.Cells.{CellIs, ShowsNodes, no_nodes, all_blocks, two_lists, then_exit, then_select, the_loop}
use Rattle.state_shown.specs.Cells.{ShowsCaseCells, no_cases, case_and}
use Rattle.state_lists.specs.CellByCell.{list_before, added_blocks, added_list, added_exit, added_select, added_loop}
use Rattle.state_lists.specs.CellByCell.{ListAppended, appends, FirstCase, case_first, case_cell, CaseTotal}
use Rattle.state_nodes.specs.declared.cells.Cell.{Cell}
use Rattle.state_nodes.specs.NodeTables.{cell_words}

-- ---- Every list but the empty one ends with a cell, its handle's.
pub earlier_below : (p h : ℕ) → 1 ≤ h → earlier p h < h
unfolding earlier
earlier_below p h b = elim (dec_lt p h) [ yes l ↦ rw (lt-ltb p h l) l | no n ↦ rw (le-ltb p h (omega arith)) b ]

pub named_below : {p h : ℕ} (x : ℕ) → p ≡ earlier x h → 1 ≤ h → p < h
named_below {p} {h} x e b = rw e (earlier_below x h b)

pub before_below : {p h : ℕ} (w : List ℕ) → p ≡ list_before w h → 1 ≤ h → p < h
unfolding list_before
before_below {p} {h} w e b = rw e (go (eqb (cell_tag w h) tag_loop))
  where
    go : (t : Bool) → pick t 0 (cell_before w h) < h
    go true = b
    go false = earlier_below (cell_word w h 1) h b

earlier_is : {x p h : ℕ} → x ≡ p → p < h → earlier x h ≡ p
unfolding earlier
earlier_is {x} {p} {h} e l = rw (e, lt-ltb p h l)

-- Nothing stands before a loop.
pub none_before : (w : List ℕ) (h : ℕ) → cell_tag w h ≡ tag_loop → list_before w h ≡ 0
unfolding list_before
none_before w h e = rw (eq-eqb (cell_tag w h) tag_loop e)

module _ (w : List ℕ) {h : ℕ} where
  not_loop : {x : Cell} → CellIs (section w cells) h x → get_or (cell_words x) 0 0 < tag_loop → get_or (cell_words x) 1 0 < h
      → list_before w h ≡ get_or (cell_words x) 1 0
  unfolding list_before
  not_loop x t l =
      rw (ne_eqb (cell_tag w h) tag_loop (λ z. omega (arith, x.is 0 (omega arith))), earlier_is (x.is 1 (omega arith)) l)

module _ {g : Graph} (w : List ℕ) {h : ℕ} where
  pub appended : {ks : Nodes} → ShowsNodes g (section w cells) h ks → 1 ≤ h → ListAppended g w h ks
  appended (no_nodes e) b = absurd (omega arith)
  appended {ks} (all_blocks x _ some e) b =
      appends {ns = ⟨⟩} {ms = ks} (no_nodes (not_loop w x (omega arith) b))
      (rw (x.is 0 (omega arith)) (added_blocks (rw (x.is 2 (omega arith)) some) (rw (x.is 2 (omega arith)) e))) refl
  appended (two_lists {ns = ns} {ms = ms} x _ p _ q a b e) _ =
      appends {ns = ns} {ms = ms} (rw (not_loop w x (omega arith) p) a)
      (rw (x.is 0 (omega arith)) (added_list (rw (earlier_is (x.is 2 (omega arith)) q) b))) e
  appended (then_exit {n = n} {op = op} {vs = vs} {ns = ns} x p a t e) _ =
      appends {ns = ns} {ms = exit n op vs ▸ ⟨⟩} (rw (not_loop w x (omega arith) p) a)
      (rw (x.is 0 (omega arith)) (added_exit {op = op} {vs = vs} (rw (x.is 3 (omega arith)) t) (rw (x.is 2 (omega arith))))) e
  appended (then_select {n = n} {kind = kind} {v = v} {cs = cs} {ns = ns} x p q a shape t c e) _ =
      appends {ns = ns} {ms = new_select n kind v cs ▸ ⟨⟩} (rw (not_loop w x (omega arith) p) a)
      (rw (x.is 0 (omega arith)) (added_select {kind = kind} {v = v} {cs = cs} (rw (x.is 3 (omega arith)) shape)
      (rw (x.is 4 (omega arith)) t) (rw (earlier_is (x.is 5 (omega arith)) q) c)
      (rw (x.is 2 (omega arith))))) e
  appended {ks} (the_loop {v = v} {ns = ns} y x p q a t kept e) _ =
      appends {ns = ⟨⟩} {ms = ks} (no_nodes (none_before w h (x.is 0 (omega arith))))
      (rw (x.is 0 (omega arith))
      (added_loop {v = v} {ns = ns} y (rw (earlier_is (x.is 1 (omega arith)) p) a) (rw (x.is 4 (omega arith)) t)
      (rw (x.is 3 (omega arith), earlier_is (x.is 5 (omega arith)) q) kept) (rw (x.is 2 (omega arith), x.is 3 (omega arith)) e))) refl

  pub first_case : {cs : Cases} → ShowsCaseCells g (section w cells) h cs → 1 ≤ h → FirstCase g w h cs
  first_case (no_cases e) b = absurd (omega arith)
  first_case (case_and {ns = ns} {cs = cs} x p q a c e) b =
      case_first {ns = ns} {cs = cs} (rw (earlier_is (x.is 3 (omega arith)) q) a) (rw (earlier_is (x.is 1 (omega arith)) p) c)
      (rw (x.is 2 (omega arith)) e)

-- ---- Cases by place.
pub earlier_within : (p h : ℕ) → earlier p h ≤ h
unfolding earlier
earlier_within p h = elim (dec_lt p h) [ yes l ↦ rw (lt-ltb p h l) (omega arith) | no n ↦ rw (le-ltb p h (omega arith)) (omega arith) ]

module _ (w : List ℕ) (h : ℕ) where
  case_below : (j : ℕ) → case_cell w h j ≤ h
  unfolding case_cell
  case_below zero = omega arith
  case_below (suc j) =
      let x = case_below j in
      let y = earlier_within (cell_word w (case_cell w h j) 1) (case_cell w h j) in
      omega arith

  pub case_within : (j : ℕ) {c : ℕ} → c ≡ case_cell w h j → c ≤ h
  case_within j e = rw e (case_below j)

  pub case_step : (i : ℕ) {p q : ℕ} → p ≡ case_cell w h i → q ≡ cases_after w p → q ≡ case_cell w h (i + 1)
  unfolding case_cell
  case_step i a b = rw (add-one i) (b ∙ rw a)

  pub case_after : (i : ℕ) {j c : ℕ} → j ≡ suc i → c ≡ case_cell w h i → case_cell w h j ≡ cases_after w c
  unfolding case_cell
  case_after i z e = rw (z, e)

  pub case_some : {n c : ℕ} (j : ℕ) → CaseTotal w h n → 0 < j → j ≤ n → c ≡ case_cell w h (j - 1) → 1 ≤ c
  case_some j total some within e = rw e (total.some (j - 1) (omega arith))

  pub case_reached : (i : ℕ) {j p : ℕ} → j ≤ i → i ≤ j → p ≡ case_cell w h i → p ≡ case_cell w h j
  case_reached i {j} a b e = let z : j ≡ i = omega arith in rw z e

  pub total_turn : (n : ℕ) {p : ℕ} → p ≡ case_cell w h n → 0 < p → ((j : ℕ) → j < n → 1 ≤ case_cell w h j) → (j : ℕ) → j < n + 1
      → 1 ≤ case_cell w h j
  total_turn n e some before j l =
      elim (dec_lt j n) [ yes m ↦ before j m | no m ↦ (let z : j ≡ n = omega arith in rw (z, ← e) some) ]

  pub total_end : (n : ℕ) {p : ℕ} → p ≡ case_cell w h n → p ≤ 0 → ((j : ℕ) → j < n → 1 ≤ case_cell w h j) → CaseTotal w h n
  total_end n {p} e none some = let z : p ≡ 0 = omega arith in record { end = sym e ∙ z; some = some }
