-- The regions that a leftover gives, by ascending number: the unclaimed Ready ones, and among their sets the entry's.
use Rattle.std.specs.Prelude.{◌≡◌, ℕ, suc, ◌+◌, ◌≤◌, ◌<◌, get_or, eqb}
use Rattle.std.proofs.Math.Path.{refl}
use Rattle.std.proofs.Common.{◌∙◌, arith}
use mathlib.Core.List.{List, [], ◌∷◌}
use Rattle.std.proofs.Math.Decide.{ℕ_discrete}
use Rattle.std.proofs.Math.ListN.{length}
use borrow.Author.Tests.{le-leb, lt-leb, ne_eqb}
use Rattle.meaning.specs.Lists.{pick}
use Rattle.meaning.specs.Graph.{Graph}
use Rattle.meaning.specs.facts.Tests.{eqb_self}
use Rattle.meaning.specs.facts.Numbers.{no_further, one_further}
use Rattle.nesting.specs.Nesting.{NestState, Piece, plain, unclaimed_from, StructurizeRegionState, not_begun, in_progress, claimed}
use Rattle.nesting.specs.Nesting.{ready, DeferredEdgeBundleSet}
use Rattle.nesting.specs.Sheet as sheet
use Rattle.sheet_words.specs.PutInFront.{Part}
use Rattle.sheet_words.specs.laws.PutInFrontLaws.{◌⊕◌}
use Rattle.sheet_words.specs.Parts.{each}
use Rattle.sheet_words.specs.laws.Rows.{run}
use Rattle.sheet_nodes.specs.Pieces.{region_lines, piece_part, set_part}

module _ (g : Graph) (s : NestState) where
  -- The lines of region r, and its set, if it is Ready.
  abbrev pub ready_lines : ℕ → StructurizeRegionState → Part
  ready_lines r not_begun = plain []
  ready_lines r in_progress = plain []
  ready_lines r claimed = plain []
  ready_lines r (ready b ks d) = region_lines g s r ks []

  abbrev pub ready_set : ℕ → StructurizeRegionState → Part
  ready_set r not_begun = plain []
  ready_set r in_progress = plain []
  ready_set r claimed = plain []
  ready_set r (ready b ks d) = set_part g s r d

  -- The entry's own, with its edges d.
  abbrev pub given_set : ℕ → DeferredEdgeBundleSet → ℕ → StructurizeRegionState → Part
  given_set entry d r x = pick (eqb r entry) (set_part g s r d) (ready_set r x)

  abbrev sets_of : List Piece → Part
  sets_of ps = each (λ (p : Piece). set_part g s p.region p.deferred) ps

  -- ---- The regions from k on, whose states are xs; h has the part of each by its number.
  pub unclaimed_lines : (h : ℕ → Part) (k : ℕ) (xs : List StructurizeRegionState)
      → ((j : ℕ) → j < length xs → h (k + j) ≡ ready_lines (k + j) (get_or xs j not_begun))
      → run h k (length xs) ≡ each (piece_part g s) (unclaimed_from g k xs)
  unfolding run
  unclaimed_lines h k [] e = refl
  unclaimed_lines h k (x ∷ xs) e =
      let first : h k ≡ ready_lines k x = rw (no_further k) at (e 0 (omega arith)) in
      let rest = unclaimed_lines h (suc k) xs (λ j l. rw (one_further k j) at (e (suc j) (omega arith))) in
      rw (first, rest) (by x)
    where
      by : (x : StructurizeRegionState)
          → (ready_lines k x ⊕ each (piece_part g s) (unclaimed_from g (suc k) xs)) ≡ each (piece_part g s) (unclaimed_from g k (x ∷ xs))
      by not_begun = refl
      by in_progress = refl
      by claimed = refl
      by (ready b ks d) = refl

  unclaimed_sets : (h : ℕ → Part) (k : ℕ) (xs : List StructurizeRegionState)
      → ((j : ℕ) → j < length xs → h (k + j) ≡ ready_set (k + j) (get_or xs j not_begun))
      → run h k (length xs) ≡ sets_of (unclaimed_from g k xs)
  unfolding run
  unclaimed_sets h k [] e = refl
  unclaimed_sets h k (x ∷ xs) e =
      let first : h k ≡ ready_set k x = rw (no_further k) at (e 0 (omega arith)) in
      let rest = unclaimed_sets h (suc k) xs (λ j l. rw (one_further k j) at (e (suc j) (omega arith))) in
      rw (first, rest) (by x)
    where
      by : (x : StructurizeRegionState)
          → (ready_set k x ⊕ sets_of (unclaimed_from g (suc k) xs)) ≡ sets_of (unclaimed_from g k (x ∷ xs))
      by not_begun = refl
      by in_progress = refl
      by claimed = refl
      by (ready b ks d) = refl

  -- ---- Among the sets the entry's, where the entry is claimed.
  module _ (p : Piece) where
    -- In front of regions beyond it.
    in_front : (k : ℕ) (xs : List StructurizeRegionState) → p.region < k
        → sheet.ascending p (unclaimed_from g k xs) ≡ p ∷ unclaimed_from g k xs
    in_front k [] l = refl
    in_front k (not_begun ∷ xs) l = in_front (suc k) xs (omega arith)
    in_front k (in_progress ∷ xs) l = in_front (suc k) xs (omega arith)
    in_front k (claimed ∷ xs) l = in_front (suc k) xs (omega arith)
    in_front k (ready b ks d ∷ xs) l = rw (le-leb p.region k (omega arith))

    pub ascending_sets : (h : ℕ → Part) (k : ℕ) (xs : List StructurizeRegionState) → k ≤ p.region → p.region < k + length xs
        → ((j : ℕ) → j < length xs → k + j ≡ p.region → get_or xs j not_begun ≡ claimed)
        → ((j : ℕ) → j < length xs → h (k + j) ≡ given_set p.region p.deferred (k + j) (get_or xs j not_begun))
        → run h k (length xs) ≡ sets_of (sheet.ascending p (unclaimed_from g k xs))
    unfolding run
    ascending_sets h k [] a b c e = absurd (omega arith)
    ascending_sets h k (x ∷ xs) a b c e =
        let first : h k ≡ given_set p.region p.deferred k x = rw (no_further k) at (e 0 (omega arith)) in
        let later : (j : ℕ) → j < length xs → h (suc k + j) ≡ given_set p.region p.deferred (suc k + j) (get_or xs j not_begun) =
        λ j l. rw (one_further k j) at (e (suc j) (omega arith)) in
        elim (ℕ_discrete k p.region) [
          | yes q ↦
              let here : x ≡ claimed = c 0 (omega arith) (omega arith) in
              let rest = unclaimed_sets h (suc k) xs (λ j l. later j l ∙ rw (ne_eqb (suc k + j) p.region (λ z. omega arith))) in
              rw (first, rest, here, q, eqb_self p.region, in_front (suc p.region) xs (omega arith))
          | no q ↦
              let rest = ascending_sets h (suc k) xs (omega arith) (omega arith)
              (λ j l z. c (suc j) (omega arith) (omega arith)) later in
              rw (first, rest, ne_eqb k p.region q) (by x (omega arith))
        ]
      where
        by : (x : StructurizeRegionState) → k < p.region → (ready_set k x ⊕ sets_of (sheet.ascending p (unclaimed_from g (suc k) xs)))
            ≡ sets_of (sheet.ascending p (unclaimed_from g k (x ∷ xs)))
        by not_begun l = refl
        by in_progress l = refl
        by claimed l = refl
        by (ready b ks d) l = rw (lt-leb p.region k l)
