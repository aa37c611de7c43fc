-- A loop along the cells of kept inputs puts the last first. Turn by turn, what was put stands behind what is left; at the end the count is
-- the number of cells.
use Rattle.std.specs.Prelude.{◌≡◌, refl, List, [], ◌∷◌, ◌++◌, ℕ, ◌+◌, ◌≤◌, ◌<◌, length}
use Rattle.std.proofs.Common.{sym, ◌∙◌, append_assoc, append-nil, arith}
use Rattle.nesting.specs.Nesting.{plain}
use Rattle.state_words.specs.Rows.{cell_before}
use Rattle.sheet_words.specs.declared.place.Place.{Place}
use Rattle.sheet_words.specs.PutInFront.{Part, Puts}
use Rattle.sheet_words.specs.laws.PutInFrontLaws.{◌⊕◌, puts_then, puts_none}
use Rattle.sheet_words.specs.Parts.{each}
use Rattle.sheet_regions.specs.Kept.{Chain, no_cell, then_cell, CellsBehindPut, CellsPut}

module _ (w : List ℕ) (f : ℕ → Part) (list : ℕ) where
  pub cells_start : (out : List ℕ) (at : Place) → CellsPut w f list list 0 out at out at
  cells_start out at hs c =
      record { left = hs; behind = []; chain = c; whole = sym (append-nil hs); count = refl; puts = puts_none out at }

  module _ (h n : ℕ) {out₀ out : List ℕ} {at₀ at : Place} (before : CellsPut w f list h n out₀ at₀ out at) where
    pub cells_turn : 0 < h → {q m : ℕ} {out' : List ℕ} {at' : Place} → Puts out at (f h) out' at' → q ≡ cell_before w h → m ≡ n + 1
        → CellsPut w f list q m out₀ at₀ out' at'
    cells_turn some {q} {m} {out'} {at'} p e d hs c = let x = before hs c in go x x.chain x.whole
      where
        go : (x : CellsBehindPut w f hs h n out₀ at₀ out at) → {left : List ℕ} → Chain w h left → hs ≡ left ++ x.behind
            → CellsBehindPut w f hs q m out₀ at₀ out' at'
        go x (no_cell z) whole = absurd (omega arith)
        go x (then_cell {hs = ks} b y z) whole =
            let count = x.count in
            record {
              left = ks;
              behind = h ∷ x.behind;
              chain = rw e y;
              whole = whole ∙ rw z (append_assoc ks (h ∷ []) x.behind);
              count = omega arith;
              puts = puts_then x.puts p;
            }

    -- All are put, and then their count.
    pub cells_counted : h ≤ 0 → {hs out' : List ℕ} {at' : Place} → Chain w list hs → Puts out at (plain (n ∷ [])) out' at'
        → Puts out₀ at₀ (plain (length hs ∷ []) ⊕ each f hs) out' at'
    cells_counted none {hs} {out'} {at'} c p = let x = before hs c in go x x.chain x.whole
      where
        go : (x : CellsBehindPut w f hs h n out₀ at₀ out at) → {left : List ℕ} → Chain w h left → hs ≡ left ++ x.behind
            → Puts out₀ at₀ (plain (length hs ∷ []) ⊕ each f hs) out' at'
        go x (no_cell z) whole = rw (whole, ← x.count) (puts_then x.puts p)
        go x (then_cell b y z) whole = absurd (omega arith)
