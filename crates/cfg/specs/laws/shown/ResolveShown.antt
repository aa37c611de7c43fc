-- A bundle of a region's own set that was claimed, for every state that the words show: the definition's select over it and the others.
use Rattle.std.specs.Prelude.{◌≡◌, refl, List, [], ◌∷◌, ◌++◌, ℕ, zero, suc, ◌≤◌, ◌<◌, length, get_or, take, drop}
use Rattle.std.proofs.Common.{sym, ap, ◌∙◌, arith}
use Rattle.meaning.specs.Graph.{Graph, bool_cond}
use Rattle.meaning.specs.facts.Tests.{clash}
use Rattle.format.specs.Valid.{Valid}
use Rattle.nesting.specs.Nesting as nesting
use Rattle.nesting.specs.Nesting.{NestState, Body, SplitOut, ClaimedRegion, ok, err, to_region, structurize_select_into, lazy}
use Rattle.follows.specs.simulation.Invariant.{Inv}
use Rattle.follows.specs.counting.Totals.{edges_to, totals, edgeless}
use Rattle.state_words.specs.Sections.{word, kinds, children, set_starts}
use Rattle.state_words.specs.Totals.{Made}
use Rattle.state_shown.specs.Tables.{ShowsCondition, shape_bool}
use Rattle.state_shown.specs.Cells.{ShowsChildren}
use Rattle.state_shown.specs.Sets.{no_bundle}
use Rattle.state_shown.specs.States.{ShowsState, ShowsBody, ShowsClaimed, no_case}
use Rattle.state_shown.specs.laws.SetStores.{only_word_same}
use Rattle.state_shown.specs.laws.Finds.{bundle_in}
use Rattle.cfg_bundles.specs.EdgesAndCases.{split_filled}
use Rattle.cfg_bundles.specs.laws.shown.Targets.{condition_in_shown}
use Rattle.cfg_cases.specs.laws.SplitFilled.{SplitShown, split_filled_shown}
use Rattle.cfg_select_nodes.specs.laws.shown.SelectsShown.{shows_lazy}
use Rattle.cfg_selects.specs.laws.shown.IntoShown.{into_shown}
use Rattle.cfg_regions.specs.ByInst.{ResolvesBy, resolves, own_condition}
use Rattle.cfg_claims.proofs.laws.Left.{resolve_kinds}
use Rattle.cfg.specs.laws.shown.Shows.{BodyShows, cells_in_all, chains_of, most_cells_in_all, world}
use Rattle.cfg.specs.laws.shown.SelectBodies.{edges_bound, into_body}
use Rattle.state_words.specs.Rows.{cells_at, kind_claimed, kind_in_progress, kind_ready, largest, region_kind}

module _ (g : Graph) (valid : Valid g) (few : length g.regions ≤ 32) where
  pub resolve_shown : {w w' : List ℕ} {r i : ℕ} {a : Made} → ResolvesBy g w r i w' a → (s : NestState) (x : Body) (y : SplitOut) (t : ℕ)
      → ShowsState g w s → cells_in_all g w ≤ most_cells_in_all → r < length g.regions → region_kind w r ≡ kind_in_progress
      → ShowsBody g w r x
      → i < length x.deferred_edges → y.bundle ≡ get_or x.deferred_edges i no_bundle
      → y.others ≡ take i x.deferred_edges ++ drop (suc i) x.deferred_edges → y.bundle.target ≡ to_region t → (t ≡ r → ⊥)
      → ShowsClaimed g w y.claimed_region → y.claimed_region.origin ≡ t
      → y.claimed_region.structured_body_inputs ≡ y.bundle.target_inputs → Inv (world g valid) s
      → ((q : ℕ) → totals (edges_to q) (ok y.claimed_region ∷ err y.others ∷ []) ≤ largest)
      → totals edgeless (ok y.claimed_region ∷ err y.others ∷ []) ≡ 0
      → BodyShows g w w' r (ok y.claimed_region ∷ err y.others ∷ []) 4
      (structurize_select_into g x.children bool_cond (lazy (nesting.condition_in x.deferred_edges y.bundle))
      (ok y.claimed_region ∷ err y.others ∷ []) s) a
  resolve_shown {w} {r} {i} (resolves m) s x y t state room here busy body place bundle others target other claimed origin inputs inv most
      none =
      let c = y.claimed_region in
      let d = x.deferred_edges in
      let size = body.set.size in
      let few_bundles = body.set.few in
      let in_slots = body.set.room in
      let unready : region_kind w r ≡ kind_ready → ⊥ = λ e. omega arith in
      let not_own : c.origin ≡ r → ⊥ = λ e. other (sym origin ∙ e) in
      let cases = ok c ∷ err y.others ∷ [] in
      let w₁ = split_filled g w r i in
      let filled : SplitShown g w w₁ s r cases =
      rw others
      (split_filled_shown few here state unready body.set place claimed not_own
      (ap (λ b. b.target) (sym bundle) ∙ target ∙ ap to_region (sym origin)) (inputs ∙ ap (λ b. b.target_inputs) bundle)) in
      let same_kinds : (q : ℕ) → region_kind w₁ q ≡ region_kind w q = λ q. only_word_same filled.only kinds (omega arith) q in
      let cells = filled.only.totals cells_at (omega arith) in
      let at = bundle_in (word w set_starts r) i (omega arith) (omega arith) in
      let under : ShowsCondition w (own_condition w r i) (nesting.condition_in d y.bundle) =
      rw (at, bundle) (condition_in_shown body.set i (omega arith)) in
      let own : ShowsChildren g w₁ (word w₁ children r) x.children =
      rw (only_word_same filled.only children (omega arith) r) (filled.made_stays.nodes_stay body.nodes) in
      into_body filled.made_stays (λ q l e. filled.kept q (omega arith) e) (resolve_kinds (resolves m)) (omega arith)
      (into_shown valid here filled.state filled.cases_shown
      (record {
        parent = λ e. unready (sym (same_kinds r) ∙ e);
        claimed = λ j h z e.
            (same_kinds z.origin ∙ in_cases c y.others claimed.kind j z e, not_in_cases c y.others not_own j z e);
      })
      (chains_of g valid inv) (edges_bound s cases most none) (shows_lazy (filled.made_stays.conditions_stay under))
      (shape_bool refl refl) own (omega arith) m)
    where
      in_cases : (c : ClaimedRegion) (d : nesting.DeferredEdgeBundleSet) → region_kind w c.origin ≡ kind_claimed
          → (j : ℕ) (z : ClaimedRegion)
          → get_or (ok c ∷ err d ∷ []) j no_case ≡ ok z → region_kind w z.origin ≡ kind_claimed
      in_cases c d k zero z e = let same : c ≡ z = cc in rw (← same) k
      in_cases c d k (suc zero) z e = absurd (clash (cc))
      in_cases c d k (suc (suc j)) z e = absurd (clash (cc))

      not_in_cases : (c : ClaimedRegion) (d : nesting.DeferredEdgeBundleSet) → (c.origin ≡ r → ⊥) → (j : ℕ) (z : ClaimedRegion)
          → get_or (ok c ∷ err d ∷ []) j no_case ≡ ok z → z.origin ≡ r → ⊥
      not_in_cases c d k zero z e = let same : c ≡ z = cc in rw (← same) k
      not_in_cases c d k (suc zero) z e = absurd (clash (cc))
      not_in_cases c d k (suc (suc j)) z e = absurd (clash (cc))
