-- The lines of regions and of sets, as the code puts them.
use Rattle.std.specs.Prelude.{◌≡◌, List, [], ◌∷◌, ℕ, ◌-◌, ◌<◌, length, get_or}
use Rattle.meaning.specs.Graph.{Graph}
use Rattle.meaning.specs.Runs.{Nodes}
use Rattle.nesting.specs.Nesting.{NestState, Piece, piece, unclaimed_from, StructurizeRegionState, not_begun}
use Rattle.nesting.specs.Nesting.{DeferredEdgeBundle, DeferredEdgeBundleSet, region_body}
use Rattle.nesting.specs.Sheet as sheet
use Rattle.state_words.specs.Sections.{section, cells, word, children}
use Rattle.state_shown.specs.Cells.{ShowsNodes, ShowsChildren}
use Rattle.state_shown.specs.States.{ShowsBody, ShowsOwnSet}
use Rattle.sheet_words.specs.declared.place.Place.{Place}
use Rattle.sheet_words.specs.PutInFront.{Puts}
use Rattle.sheet_words.specs.laws.Rows.{run}
use Rattle.sheet_words.specs.Parts.{OfState, nodes_part, values_part, each, defer_part}
use Rattle.sheet_nodes.specs.Pieces.{region_lines, piece_part, set_part, lines_part}
use Rattle.sheet_nodes.specs.laws.Leftovers.{ready_lines, given_set}
use Rattle.state_words.specs.Rows.{kind_claimed, region_kind}

-- ---- A region without outputs; the entry of a whole form, with those of its one deferred edge.
abbrev pub PutsPiece : List ℕ → ℕ → List ℕ → Place → List ℕ → Place → Type 0
PutsPiece w r out at out' at' =
    OfState w (λ g s. (ks : Nodes) → ShowsChildren g w (word w children r) ks → Puts out at (region_lines g s r ks []) out' at')

abbrev pub PutsWhole : List ℕ → List ℕ → Place → List ℕ → Place → Type 0
PutsWhole w out at out' at' = OfState w (λ g s. (ks : Nodes) (e : DeferredEdgeBundle)
    → ShowsBody g w g.entry (region_body ks (e ∷ [])) → Puts out at (region_lines g s g.entry ks e.target_inputs) out' at')

-- The outputs of a whole form, whose body is region r.
abbrev pub PutsWholeOutputs : List ℕ → ℕ → List ℕ → Place → List ℕ → Place → Type 0
PutsWholeOutputs w r out at out' at' = OfState w (λ g s. (ks : Nodes) (e : DeferredEdgeBundle)
    → ShowsBody g w r (region_body ks (e ∷ [])) → Puts out at (values_part s e.target_inputs) out' at')

-- ---- The regions of a leftover, each by its state.
abbrev pub state_at : NestState → ℕ → StructurizeRegionState
state_at s r = get_or s.region_states r not_begun

abbrev pub PutsReady : List ℕ → ℕ → List ℕ → Place → List ℕ → Place → Type 0
PutsReady w r out at out' at' =
    OfState w (λ g s. r < length g.regions → Puts out at (ready_lines g s r (state_at s r)) out' at')

abbrev pub PutsUnclaimed : List ℕ → List ℕ → Place → List ℕ → Place → Type 0
PutsUnclaimed w out at out' at' =
    OfState w (λ g s. Puts out at (each (piece_part g s) (unclaimed_from g 0 s.region_states)) out' at')

-- The entry is claimed, and d is its set.
pub record EntrySet (g : Graph) (w : List ℕ) (d : DeferredEdgeBundleSet) : Type 0 where
  pub kind : region_kind w g.entry ≡ kind_claimed
  pub set : ShowsOwnSet g w g.entry d

abbrev pub PutsGivenSet : List ℕ → ℕ → List ℕ → Place → List ℕ → Place → Type 0
PutsGivenSet w r out at out' at' =
    OfState w (λ g s. (d : DeferredEdgeBundleSet) → EntrySet g w d → r < length g.regions
    → Puts out at (given_set g s g.entry d r (state_at s r)) out' at')

abbrev pub PutsSets : List ℕ → List ℕ → Place → List ℕ → Place → Type 0
PutsSets w out at out' at' =
    OfState w (λ g s. (ks : Nodes) (d : DeferredEdgeBundleSet) → EntrySet g w d
    → Puts out at (each (λ (p : Piece). set_part g s p.region p.deferred)
    (sheet.ascending (piece g g.entry ks [] d) (unclaimed_from g 0 s.region_states))) out' at')

abbrev pub PutsLeftover : List ℕ → List ℕ → Place → List ℕ → Place → Type 0
PutsLeftover w out at out' at' =
    OfState w (λ g s. (ks : Nodes) (d : DeferredEdgeBundleSet) → region_kind w g.entry ≡ kind_claimed
    → ShowsBody g w g.entry (region_body ks d)
    → Puts out at (lines_part g s (piece g g.entry ks [] d) (unclaimed_from g 0 s.region_states)) out' at')

-- The handle of a list, and what was put for it.
abbrev pub PutsNodes : List ℕ → ℕ → List ℕ → Place → List ℕ → Place → Type 0
PutsNodes w list out at out' at' =
    OfState w (λ g s. (ks : Nodes) → ShowsNodes g (section w cells) list ks → Puts out at (nodes_part s ks) out' at')

-- The set of region r: the entry's own, a Ready region's, or none.
abbrev pub PutsSet : List ℕ → ℕ → List ℕ → Place → List ℕ → Place → Type 0
PutsSet w r out at out' at' =
    OfState w (λ g s. (d : DeferredEdgeBundleSet) → ShowsOwnSet g w r d → Puts out at (each (defer_part s r d) d) out' at')

-- ---- From the last of n regions to the first: those from region r on are put.
abbrev pub LinesFrom : List ℕ → ℕ → ℕ → List ℕ → Place → List ℕ → Place → Type 0
LinesFrom w n r out at out' at' = OfState w (λ g s. Puts out at (run (λ q. ready_lines g s q (state_at s q)) r (n - r)) out' at')

abbrev pub SetsFrom : List ℕ → ℕ → ℕ → List ℕ → Place → List ℕ → Place → Type 0
SetsFrom w n r out at out' at' =
    OfState w (λ g s. (d : DeferredEdgeBundleSet) → EntrySet g w d
    → Puts out at (run (λ q. given_set g s g.entry d q (state_at s q)) r (n - r)) out' at')
