-- Lines of regions, by what the region's state was read to be; and the two loops over all regions for a leftover, from the last on: one for
-- the lines of regions that are Ready, one for the sets.
use Rattle.std.specs.Prelude.{◌≡◌, refl, false, ℕ, ◌+◌, ◌-◌, ◌≤◌, ◌<◌, length, eqb}
use Rattle.std.proofs.Common.{sym, subst, ◌∙◌, arith, zero-add, lt-ltb, eq-eqb, ne_eqb}
use mathlib.Core.List.{List, [], ◌∷◌}
use Rattle.meaning.specs.Graph.{Graph, Value, region}
use Rattle.meaning.specs.Runs.{Nodes}
use Rattle.nesting.specs.Nesting.{NestState, piece, plain, StructurizeRegionState, not_begun, in_progress}
use Rattle.nesting.specs.Nesting.{claimed, ready, DeferredEdgeBundle, DeferredEdgeBundleSet, region_body}
use Rattle.record.specs.Stands.{OfRecord}
use Rattle.state_words.specs.Sections.{section, cells, word, children, set_starts}
use Rattle.state_sets.specs.SetTables.{bundle_at}
use Rattle.state_shown.specs.Cells.{ShowsNodes, ShowsChildren}
use Rattle.state_shown.specs.Sets.{ShowsBundle}
use Rattle.state_shown.specs.States.{ShowsBody, ShowsOwnSet, ShowsRegion, is_not_begun, is_in_progress, is_ready, is_claimed}
use Rattle.sheet_words.specs.declared.place.Place.{Place}
use Rattle.sheet_words.specs.PutInFront.{Puts}
use Rattle.sheet_words.specs.laws.PutInFrontLaws.{puts_then, puts_none, puts_as}
use Rattle.sheet_words.specs.laws.Rows.{run_start, run_turn, run_all}
use Rattle.sheet_words.specs.Parts.{OfState, Concluded, values_part, nodes_part}
use Rattle.sheet_regions.specs.declared.region_line.RegionInputs.TheVariants.{All}
use Rattle.sheet_regions.specs.RegionLine.{region_front, all_types, PutsRegionLine}
use Rattle.sheet_regions.specs.laws.RegionLineLaws.{line_put}
use Rattle.sheet_nodes.specs.Pieces.{region_lines, set_part}
use Rattle.sheet_nodes.specs.laws.Leftovers.{ready_lines, ready_set, given_set, unclaimed_lines, ascending_sets}
use Rattle.sheet_nodes.specs.Regions.{PutsPiece, PutsWhole, PutsWholeOutputs, state_at, PutsReady, PutsUnclaimed, PutsGivenSet}
use Rattle.sheet_nodes.specs.Regions.{PutsSets, PutsNodes, PutsSet, LinesFrom, SetsFrom}
use Rattle.state_words.specs.Rows.{kind_claimed, most_bundles, region_kind, kind_ready}

-- ---- Paths of put_piece, put_whole_outputs and put_whole.
first_bundle : (start : ℕ) → start < most_bundles → bundle_at start 0 ≡ start + 0
unfolding bundle_at
first_bundle start h = rw (lt-ltb start most_bundles h)

module _ (g : Graph) (s : NestState) (r : ℕ) (ks : Nodes) (vs : List Value) where
  region_put : {out out₁ out₂ out₃ : List ℕ} {at at₁ at₂ at₃ : Place} → Puts out at (nodes_part s ks) out₁ at₁
      → Puts out₁ at₁ (values_part s vs) out₂ at₂ → Puts out₂ at₂ (plain (region_front r (region g r).inputs ks)) out₃ at₃
      → Puts out at (region_lines g s r ks vs) out₃ at₃
  region_put nodes outputs front = puts_then nodes (line_put s r (region g r).inputs ks vs outputs front)

pub outputs_put : (w : List ℕ) (r : ℕ) {start bundle : ℕ} {out out' : List ℕ} {at at' : Place} → start ≡ word w set_starts r
    → bundle ≡ bundle_at start 0
    → OfState w (λ g s. (e : DeferredEdgeBundle) → ShowsBundle g w bundle e → Puts out at (values_part s e.target_inputs) out' at')
    → PutsWholeOutputs w r out at out' at'
outputs_put w r {bundle = bundle} of_start of_bundle p g s c ks e body =
    let set = body.set in
    let room = set.room in
    let size = set.size in
    let first : ShowsBundle g w bundle e = rw (of_bundle, of_start, first_bundle (word w set_starts r) (omega arith))
    (set.each 0 (omega arith)) in
    p g s c e first

module _ (w : List ℕ) (r : ℕ) {list : ℕ} (handle : list ≡ word w children r) {out out₁ out₂ out₃ : List ℕ} {at at₁ at₂ at₃ : Place}
    (nodes : PutsNodes w list out at out₁ at₁) where
  pub piece_put : Puts out₁ at₁ (plain (0 ∷ [])) out₂ at₂ → PutsRegionLine w r All list out₂ at₂ out₃ at₃ → PutsPiece w r out at out₃ at₃
  unfolding values_part
  piece_put p q g s c ks shown =
      let here : ShowsNodes g (section w cells) list ks = rw handle shown.nodes in
      region_put g s r ks [] (nodes g s c ks here) p (q g s c (region g r).inputs ks all_types here)

  pub whole_put : OfRecord w (λ g. r ≡ g.entry) → PutsWholeOutputs w r out₁ at₁ out₂ at₂ → PutsRegionLine w r All list out₂ at₂ out₃ at₃
      → PutsWhole w out at out₃ at₃
  whole_put entry p q g s c ks e shown =
      let is : r ≡ g.entry = entry g c.state.stands in
      let body : ShowsBody g w r (region_body ks (e ∷ [])) = rw is shown in
      let here : ShowsNodes g (section w cells) list ks = rw handle body.nodes.nodes in
      rw is at (region_put g s r ks e.target_inputs (nodes g s c ks here) (p g s c ks e body)
      (q g s c (region g r).inputs ks all_types here))

-- ---- By a region's state.
module _ (g : Graph) (w : List ℕ) (s : NestState) (r : ℕ) {k : ℕ} (kind : k ≡ region_kind w r) where
  is_put : (x : StructurizeRegionState) → ShowsRegion g w r x → k ≡ kind_ready → {out out' : List ℕ} {at at' : Place}
      → ((ks : Nodes) → ShowsChildren g w (word w children r) ks → Puts out at (region_lines g s r ks []) out' at')
      → Puts out at (ready_lines g s r x) out' at'
  is_put not_begun (is_not_begun a) e p = absurd (omega arith)
  is_put in_progress (is_in_progress a) e p = absurd (omega arith)
  is_put claimed (is_claimed a) e p = absurd (omega arith)
  is_put (ready b ks d) (is_ready a _ n t) e p = p ks n

  not_put : (x : StructurizeRegionState) → ShowsRegion g w r x → (k ≡ kind_ready → ⊥) → (out : List ℕ) (at : Place)
      → Puts out at (ready_lines g s r x) out at
  not_put not_begun (is_not_begun a) e out at = puts_none out at
  not_put in_progress (is_in_progress a) e out at = puts_none out at
  not_put claimed (is_claimed a) e out at = puts_none out at
  not_put (ready b ks d) (is_ready a _ n t) e out at = absurd (e (kind ∙ a))

  set_put : (x : StructurizeRegionState) → ShowsRegion g w r x → k ≡ kind_ready → {out out' : List ℕ} {at at' : Place}
      → ((d : DeferredEdgeBundleSet) → ShowsOwnSet g w r d → Puts out at (set_part g s r d) out' at')
      → Puts out at (ready_set g s r x) out' at'
  set_put not_begun (is_not_begun a) e p = absurd (omega arith)
  set_put in_progress (is_in_progress a) e p = absurd (omega arith)
  set_put claimed (is_claimed a) e p = absurd (omega arith)
  set_put (ready b ks d) (is_ready a _ n t) e p = p d t

  no_set_put : (x : StructurizeRegionState) → ShowsRegion g w r x → (k ≡ kind_ready → ⊥) → (out : List ℕ) (at : Place)
      → Puts out at (ready_set g s r x) out at
  no_set_put not_begun (is_not_begun a) e out at = puts_none out at
  no_set_put in_progress (is_in_progress a) e out at = puts_none out at
  no_set_put claimed (is_claimed a) e out at = puts_none out at
  no_set_put (ready b ks d) (is_ready a _ n t) e out at = absurd (e (kind ∙ a))

module _ (w : List ℕ) (r : ℕ) {k : ℕ} (kind : k ≡ region_kind w r) where
  pub ready_put : {out out' : List ℕ} {at at' : Place} → k ≡ kind_ready → PutsPiece w r out at out' at' → PutsReady w r out at out' at'
  ready_put e p g s c l = is_put g w s r kind (state_at s r) (c.state.regions r l) e (p g s c)

  pub ready_not_put : (out : List ℕ) (at : Place) → (k ≡ kind_ready → ⊥) → PutsReady w r out at out at
  ready_not_put out at e g s c l = not_put g w s r kind (state_at s r) (c.state.regions r l) e out at

module _ (w : List ℕ) (r : ℕ) {entry : ℕ} (is_entry : OfRecord w (λ g. entry ≡ g.entry)) where
  pub entry_set_put : {out out' : List ℕ} {at at' : Place} → r ≡ entry → PutsSet w r out at out' at' → PutsGivenSet w r out at out' at'
  entry_set_put e p g s c d x l =
      let same : r ≡ g.entry = e ∙ is_entry g c.state.stands in
      rw (eq-eqb r g.entry same) (p g s c d (rw same x.set))

  module _ (other : r ≡ entry → ⊥) {k : ℕ} (kind : k ≡ region_kind w r) where
    not_entry : (g : Graph) (s : NestState) → Concluded g w s → eqb r g.entry ≡ false
    not_entry g s c = ne_eqb r g.entry (λ e. other (e ∙ sym (is_entry g c.state.stands)))

    pub ready_set_put : {out out' : List ℕ} {at at' : Place} → k ≡ kind_ready → PutsSet w r out at out' at'
        → PutsGivenSet w r out at out' at'
    ready_set_put e p g s c d x l =
        rw (not_entry g s c) (set_put g w s r kind (state_at s r) (c.state.regions r l) e (p g s c))

    pub no_given_set : (out : List ℕ) (at : Place) → (k ≡ kind_ready → ⊥) → PutsGivenSet w r out at out at
    no_given_set out at e g s c d x l = rw (not_entry g s c) (no_set_put g w s r kind (state_at s r) (c.state.regions r l) e out at)

module _ (w : List ℕ) {n : ℕ} (count : OfRecord w (λ g. n ≡ length g.regions)) where
  pub lines_start : (out : List ℕ) (at : Place) → LinesFrom w n n out at out at
  lines_start out at g s c = run_start (λ q. ready_lines g s q (state_at s q)) n out at

  pub lines_turn : (r : ℕ) {out out₁ out₂ : List ℕ} {at at₁ at₂ : Place} → 0 < r → r ≤ n → LinesFrom w n r out at out₁ at₁
      → PutsReady w (r - 1) out₁ at₁ out₂ at₂ → LinesFrom w n (r - 1) out at out₂ at₂
  lines_turn r some within p q g s c =
      let size = count g c.state.stands in
      run_turn (λ q. ready_lines g s q (state_at s q)) n r some within (p g s c) (q g s c (omega arith))

  pub lines_end : (r : ℕ) {out out' : List ℕ} {at at' : Place} → r ≤ 0 → LinesFrom w n r out at out' at' → PutsUnclaimed w out at out' at'
  lines_end r none p g s c =
      let size = count g c.state.stands ∙ sym c.state.size in
      puts_as (run_all (λ q. ready_lines g s q (state_at s q)) n r none (p g s c))
      (rw size (unclaimed_lines g s (λ q. ready_lines g s q (state_at s q)) 0 s.region_states (λ j l. rw (zero-add j))))

  pub sets_start : (out : List ℕ) (at : Place) → SetsFrom w n n out at out at
  sets_start out at g s c d x = run_start (λ q. given_set g s g.entry d q (state_at s q)) n out at

  pub sets_turn : (r : ℕ) {out out₁ out₂ : List ℕ} {at at₁ at₂ : Place} → 0 < r → r ≤ n → SetsFrom w n r out at out₁ at₁
      → PutsGivenSet w (r - 1) out₁ at₁ out₂ at₂ → SetsFrom w n (r - 1) out at out₂ at₂
  sets_turn r some within p q g s c d x =
      let size = count g c.state.stands in
      run_turn (λ q. given_set g s g.entry d q (state_at s q)) n r some within (p g s c d x) (q g s c d x (omega arith))

  pub sets_end : (r : ℕ) {out out' : List ℕ} {at at' : Place} → r ≤ 0 → SetsFrom w n r out at out' at' → PutsSets w out at out' at'
  sets_end r none p g s c ks d x =
      let size = count g c.state.stands ∙ sym c.state.size in
      let inside = c.valid.entry in
      let states = c.state.size in
      puts_as (run_all (λ q. given_set g s g.entry d q (state_at s q)) n r none (p g s c d x))
      (rw size (ascending_sets g s (piece g g.entry ks [] d) (λ q. given_set g s g.entry d q (state_at s q)) 0 s.region_states
      (omega arith) (omega arith)
      (λ j l e. is_claimed_state g w x.kind (state_at s j)
      (subst (λ q. ShowsRegion g w g.entry (state_at s q)) (sym (sym (zero-add j) ∙ e)) (c.state.regions g.entry inside)))
      (λ j l. rw (zero-add j))))
    where
      is_claimed_state : (g : Graph) (w : List ℕ) {r : ℕ} → region_kind w r ≡ kind_claimed → (y : StructurizeRegionState)
          → ShowsRegion g w r y
          → y ≡ claimed
      is_claimed_state g w e not_begun (is_not_begun a) = absurd (omega arith)
      is_claimed_state g w e in_progress (is_in_progress a) = absurd (omega arith)
      is_claimed_state g w e claimed (is_claimed a) = refl
      is_claimed_state g w e (ready b ks d) (is_ready a _ n t) = absurd (omega arith)
