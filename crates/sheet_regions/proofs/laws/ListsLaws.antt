-- Why numbers put from the last cell to the first are the definition's, which reads from the first: a turn puts the last of what is left in
-- front of what was put. Lists within a list are put where they stand, by the same routine.
use Rattle.std.specs.Prelude.{◌≡◌, refl, List, [], ◌∷◌, ◌++◌, ℕ, suc, ◌+◌, ◌-◌, ◌≤◌, ◌<◌, length}
use Rattle.std.proofs.Common.{sym, ◌∙◌, append_assoc, append-nil, arith}
use Rattle.meaning.specs.Lists.{numbers_from}
use Rattle.meaning.specs.Graph.{Graph, Instr, region}
use Rattle.meaning.specs.Runs.{Nodes, ⟨⟩, ◌▸◌, block, select, loop, exit}
use Rattle.meaning.specs.facts.Parts.{from_place, none_from}
use Rattle.record.specs.Stands.{Stands, OfRecord}
use Rattle.nesting.specs.Nesting.{plain, join, blocks_from}
use Rattle.nesting.specs.Sheet.{kids}
use Rattle.state_words.specs.Rows.{tag_blocks, tag_join, cell_tag, cell_node, blocks_region, join_list}
use Rattle.state_shown.specs.laws.CellSteps.{no_list}
use Rattle.state_lists.specs.CellByCell.{CellAdded, added_blocks, added_list, added_exit, added_select, added_loop, ListAppended, appends}
use Rattle.state_lists.specs.CellByCell.{list_before}
use Rattle.state_lists.specs.laws.CellByCellLaws.{appended}
use Rattle.sheet_words.specs.declared.place.Place.{Place}
use Rattle.sheet_words.specs.PutInFront.{Puts}
use Rattle.sheet_words.specs.laws.PutInFrontLaws.{puts_then}
use Rattle.sheet_regions.specs.declared.Counted.{Counted}
use Rattle.fields.specs.ByNumber.{BlocksBefore}
use Rattle.sheet_regions.specs.Numbers.{PutsNumbers}
use Rattle.sheet_regions.specs.laws.NumbersLaws.{numbers_none, numbers_then, numbers_as}
use Rattle.sheet_regions.specs.Lists.{PutsBlocks, PutsCellNumbers, PutsList, PutsKids, BlocksPut, NumbersBehindPut, ListPut}

-- ---- The numbers of nodes.
pub kids_join : (a b : Nodes) → kids (join a b) ≡ kids a ++ kids b
kids_join ⟨⟩ b = refl
kids_join (block n r k is ▸ a) b = rw (kids_join a b)
kids_join (select x cs ▸ a) b = rw (kids_join a b)
kids_join (loop x ks ▸ a) b = rw (kids_join a b)
kids_join (exit n op vs ▸ a) b = rw (kids_join a b)

pub kids_blocks : (n r k : ℕ) (bs : List (List Instr)) → kids (blocks_from n r k bs) ≡ numbers_from n bs
kids_blocks n r k [] = refl
kids_blocks n r k (b ∷ bs) = rw (kids_blocks (suc n) r (k + length b) bs)

module _ (w : List ℕ) (r first : ℕ) {n : ℕ} (size : OfRecord w (λ g. n ≡ length (region g r).blocks)) where
  pub blocks_start : (out : List ℕ) (x : Counted) → x.count ≤ 4294967295 → BlocksPut w r first n out x out x
  blocks_start out x h g s = rw (none_from (region g r).blocks [] (size g s) n (omega arith)) (numbers_none out x h)

  module _ (b : ℕ) {out₀ out : List ℕ} {x₀ x : Counted} (before : BlocksPut w r first b out₀ x₀ out x) where
    pub blocks_turn : 0 < b → b ≤ n → {out' : List ℕ} {x' : Counted} → PutsNumbers out x ((first + (b - 1)) ∷ []) out' x'
        → BlocksPut w r first (b - 1) out₀ x₀ out' x'
    blocks_turn some within p g s =
        let e : suc (first + (b - 1)) ≡ first + b = omega arith in
        let d : b - 1 + 1 ≡ b = omega arith in
        rw (from_place (region g r).blocks [] (size g s) (b - 1) (omega arith), e, d) (numbers_then (before g s) p)

    pub blocks_all : b ≤ 0 → BlocksBefore w r first → PutsBlocks w r out₀ x₀ out x
    blocks_all none f g s =
        let e : b ≡ 0 = omega arith in
        let d : first + 0 ≡ first = omega arith in
        numbers_as (rw d at (rw e at (before g s))) (rw (f.is g s) (sym (kids_blocks _ r 0 (region g r).blocks)))

-- ---- What a cell adds.
module _ (w : List ℕ) (h : ℕ) {out out' : List ℕ} {x x' : Counted} where
  pub cell_blocks : {t r : ℕ} → t ≡ cell_tag w h → t ≡ tag_blocks → r ≡ blocks_region w h → PutsBlocks w r out x out' x'
      → PutsCellNumbers w h out x out' x'
  cell_blocks is tag of p g s ks added other = go added (omega arith)
    where
      go : {m : ℕ} → CellAdded g w h ks m → m ≡ 1 → PutsNumbers out x (kids ks) out' x'
      go (added_blocks _ e) _ = rw e (rw of at (p g s))
      go (added_list e) z = absurd (omega arith)
      go (added_exit _ _) z = absurd (omega arith)
      go (added_select _ _ _ _) z = absurd (omega arith)
      go (added_loop _ _ _ _ _) z = absurd (omega arith)

  pub cell_one : {t n : ℕ} → t ≡ cell_tag w h → (t ≡ tag_blocks → ⊥) → n ≡ cell_node w h → PutsNumbers out x (n ∷ []) out' x'
      → PutsCellNumbers w h out x out' x'
  cell_one is tag of p g s ks added other = go added refl
    where
      go : {m : ℕ} → CellAdded g w h ks m → m ≡ cell_tag w h → PutsNumbers out x (kids ks) out' x'
      go (added_blocks _ e) z = absurd (tag (omega arith))
      go (added_list e) z = absurd (other (omega arith))
      go (added_exit _ e) _ = rw e (rw of at p)
      go (added_select _ _ _ e) _ = rw e (rw of at p)
      go (added_loop _ _ _ _ e) _ = rw e (rw of at p)

pub list_start : (w : List ℕ) (list : ℕ) (out : List ℕ) (x : Counted) → x.count ≤ 4294967295 → ListPut w list list out x out x
list_start w list out x h g s ks shown =
    record { left = ks; behind = []; shown = shown; whole = sym (append-nil (kids ks)); puts = numbers_none out x h }

-- By what the words, the place and the list then are.
pub list_as : {w : List ℕ} {list h h' : ℕ} {out₀ out out' : List ℕ} {x₀ x x' : Counted} → ListPut w list h out₀ x₀ out x → h' ≡ h
    → out' ≡ out → x' ≡ x → ListPut w list h' out₀ x₀ out' x'
list_as p e f d = rw (e, f, d) p

module _ (w : List ℕ) (list h : ℕ) {out₀ out : List ℕ} {x₀ x : Counted} (before : ListPut w list h out₀ x₀ out x) where
  -- What the last cell of list h adds is put.
  list_turn : 0 < h → {out' : List ℕ} {x' : Counted}
      → OfRecord w (λ g. (ms : Nodes) → CellAdded g w h ms (cell_tag w h) → PutsNumbers out x (kids ms) out' x')
      → ListPut w list (list_before w h) out₀ x₀ out' x'
  list_turn some {out'} {x'} p g s ks shown = let b = before g s ks shown in go b (appended w b.shown some)
    where
      go : (b : NumbersBehindPut g w h ks out₀ x₀ out x) → ListAppended g w h b.left
          → NumbersBehindPut g w (list_before w h) ks out₀ x₀ out' x'
      go b (appends {ns = ns} {ms = ms} rest added e) =
          record {
            left = ns;
            behind = kids ms ++ b.behind;
            shown = rest;
            whole = b.whole ∙ rw (e, kids_join ns ms) (append_assoc (kids ns) (kids ms) b.behind);
            puts = numbers_then b.puts (p g s ms added);
          }

  pub list_inner : 0 < h → {t : ℕ} → t ≡ cell_tag w h → t ≡ tag_join → {q : ℕ} → q ≡ join_list w h → {out' : List ℕ} {x' : Counted}
      → PutsList w q out x out' x' → ListPut w list (list_before w h) out₀ x₀ out' x'
  list_inner some is tag of {out'} {x'} p = list_turn some λ g s ms added. go g s added (omega arith)
    where
      go : (g : Graph) → Stands w g → {ms : Nodes} {m : ℕ} → CellAdded g w h ms m → m ≡ 2 → PutsNumbers out x (kids ms) out' x'
      go g s (added_blocks _ _) z = absurd (omega arith)
      go g s {ms} (added_list l) _ = p g s ms (rw of l)
      go g s (added_exit _ _) z = absurd (omega arith)
      go g s (added_select _ _ _ _) z = absurd (omega arith)
      go g s (added_loop _ _ _ _ _) z = absurd (omega arith)

  pub list_cell : 0 < h → {t : ℕ} → t ≡ cell_tag w h → (t ≡ tag_join → ⊥) → {out' : List ℕ} {x' : Counted}
      → PutsCellNumbers w h out x out' x' → ListPut w list (list_before w h) out₀ x₀ out' x'
  list_cell some is tag p = list_turn some λ g s ms added. p g s ms added (λ z. tag (is ∙ z))

  pub list_all : h ≤ 0 → PutsList w list out₀ x₀ out x
  list_all none g s ks shown =
      let b = before g s ks shown in
      let e : b.left ≡ ⟨⟩ = no_list b.shown (omega arith) in
      numbers_as b.puts (sym (b.whole ∙ rw e))

-- ---- The count in front.
pub kids_put : (w : List ℕ) (list : ℕ) {out out₁ out₂ : List ℕ} {at at' : Place} {x : Counted}
    → PutsList w list out (record { at = at; count = 0 }) out₁ x → Puts out₁ x.at (plain (x.count ∷ [])) out₂ at'
    → PutsKids w list out at out₂ at'
kids_put w list p q g s ks shown =
    let n = p g s ks shown in
    let e : 0 + length (kids ks) ≡ length (kids ks) = omega arith in
    puts_then n.puts (rw (n.count, e) at q)
