-- A select and what follows it, for every state that the words show: the definition's structurize_select_into, or its refusal.
use Rattle.std.specs.Prelude.{◌≡◌, refl, List, [], ◌∷◌, ℕ, ◌+◌, ◌≤◌, ◌<◌, length, get_or, set}
use Rattle.std.proofs.Common.{sym, ap, ◌∙◌, arith, length-set, get_or-set_same, get_or-set_other}
use Rattle.std.proofs.Math.Decide.{ℕ_discrete, dec_lt}
use Rattle.meaning.specs.Graph.{Graph, SelectionKind}
use Rattle.meaning.specs.Runs.{Nodes}
use Rattle.meaning.specs.facts.Tests.{clash}
use Rattle.format.specs.Valid.{Valid}
use Rattle.nesting.specs.Nesting as nesting
use Rattle.nesting.specs.Nesting.{MaybeClaimedRegion, ok, ClaimedRegion, DeferredTarget, NestState, StepAnswer, Body}
use Rattle.nesting.specs.Nesting.{structurize_select_into, structurize_select, convergent_cases, without_convergent}
use Rattle.nesting.specs.lookups.ChainEnds.{ChainsEnd}
use Rattle.state_regions.specs.declared.cases.CaseKind.TheVariants.{NothingDeferred}
use Rattle.state_words.specs.Sections.{word, stored, used, head, kinds, set_starts, set_lengths, children, cases}
use Rattle.state_words.specs.Sections.{bundles}
use Rattle.state_sets.specs.SetTables.{swapped}
use Rattle.state_regions.specs.RegionTables.{case_words, case_row}
use Rattle.state_shown.specs.laws.Stores.{ChangesOnly, run_changes}
use Rattle.state_shown.specs.Tables.{ShowsShape}
use Rattle.state_shown.specs.Sets.{ShowsSet}
use Rattle.state_shown.specs.Cells.{ShowsChildren}
use Rattle.state_shown.specs.States.{ShowsState, ShowsBody, ShowsCases, ShowsCase, shows_ok, shows_nothing, shows_edge, shows_others}
use Rattle.state_shown.specs.States.{no_case}
use Rattle.state_shown.specs.States.{HasSlot}
use Rattle.state_shown.specs.Kept.{PreservesMade, KeptRegion}
use Rattle.state_shown.specs.laws.RegionsKept.{preserves_then, kept_then, set_stays, same_bundle_then}
use Rattle.state_shown.specs.laws.RegionSteps.{word_concerns, concerns_states, state_stays, length_set_to, preserves_by, kept_by}
use Rattle.state_shown.specs.laws.RegionSteps.{states_by, tables_by}
use Rattle.state_shown.specs.laws.RegionSteps.{bundles_same}
use Rattle.state_shown.specs.laws.SetStores.{only_preserves, only_state, only_word_same, word_other, run_beside}
use Rattle.state_shown.specs.laws.SetSteps.{swapped_only, swapped_first, swapped_bundle, swapped_kept, swapped_slots}
use Rattle.cfg_bundles.specs.EdgesAndCases.{unclaimed_case, Appends}
use Rattle.cfg_bundles.specs.laws.shown.CaseSteps.{row_word}
use Rattle.cfg_bundles.specs.laws.shown.Appended.{append_shown}
use Rattle.cfg_merging.specs.laws.shown.RewritingShown.{NoneReady, cases_after}
use Rattle.cfg_merging.specs.laws.shown.TargetsShown.{edges_of_cases}
use Rattle.state_words.specs.Totals.{Made, Done}
use Rattle.cfg_select_nodes.specs.declared.define.Scrutinee.{Scrutinee}
use Rattle.cfg_select_nodes.specs.Cases.{convergent_case}
use Rattle.cfg_selects.specs.Into.{set_aside, spare_taken, StructurizesInto, one_follows, one_refused, all_together, all_refused}
use Rattle.cfg_selects.specs.Into.{StructurizesSelect}
use Rattle.cfg_select_nodes.specs.laws.shown.CasesShown.{ConvergesFrom, none_converges, one_converges, more_converge, convergent_shown}
use Rattle.cfg_select_nodes.specs.laws.shown.RegionsShown.{ShowsMade, shows_made, shows_refused, made_of, refused_of}
use Rattle.cfg_select_nodes.specs.laws.shown.SelectsShown.{ShowsScrutinee, scrutinee_stays}
use Rattle.cfg_selects.specs.laws.shown.Aside.{aside_shown, none_left, other_case, field, none_deferred, PartsStay, parts_then}
use Rattle.cfg_selects.specs.laws.shown.Structurized.{Structured, structurized_shown}
use Rattle.state_words.specs.Values.{parts}
use Rattle.state_words.specs.Rows.{case_claimed, case_input_at, case_kind, case_nothing, case_origin, case_row_at, case_set_start, cases_at}
use Rattle.state_words.specs.Rows.{cells_at, kind_claimed, kind_ready, largest, most_cells, region_kind, spare_slot, slot_count}

-- ---- The spare slot's set becomes region r's.
record SpareTaken (g : Graph) (r : ℕ) (w w' : List ℕ) (x : Body) (s : NestState) : Type 0 where
  state : ShowsState g w' s
  body : ShowsBody g w' r x
  made_stays : PreservesMade g w w'
  kept : (q : ℕ) → q < length g.regions → (q ≡ r → ⊥) → KeptRegion w w' q
  same_total : word w' head cells_at ≡ word w head cells_at

spare_shown : {g : Graph} → length g.regions ≤ 32 → {r : ℕ} → r < length g.regions → {w : List ℕ} {s : NestState} → ShowsState g w s
    → (region_kind w r ≡ kind_ready → ⊥) → {x : Body} → ShowsChildren g w (word w children r) x.children
    → ShowsSet g w (word w set_starts spare_slot) (word w set_lengths spare_slot) x.deferred_edges
    → SpareTaken g r w (spare_taken w r) x s
spare_shown {g} few {r} here {w} state unready {x} nodes set =
    let r_slot : r < slot_count = omega arith in
    let at : spare_slot < slot_count = omega arith in
    let room = state.tables.size in
    let n = word w set_lengths spare_slot in
    let w₁ = swapped w r spare_slot in
    let only = swapped_only w room r spare_slot r_slot at in
    let made_stays₁ = only_preserves only g in
    let state₁ = only_state only (swapped_slots w room r spare_slot r_slot at (omega arith) (omega arith) state.slots)
    (λ q k e. swapped_kept w room r spare_slot r_slot at q (λ f. unready (ap (λ b. region_kind w b) (sym f) ∙ e)) (omega arith)) state in
    let kind₁ : region_kind w₁ r ≡ kind_ready → ⊥ = λ e. unready (sym (only_word_same only kinds (omega arith) r) ∙ e) in
    let set₁ : ShowsSet g w₁ (word w₁ set_starts r) n x.deferred_edges =
    rw (swapped_first w room r spare_slot r_slot at) (set_stays made_stays₁ (λ i k. swapped_bundle w room r spare_slot r_slot at _) set) in
    let c = word_concerns g w₁ set_lengths (omega arith) r n in
    let handle : word (stored w₁ set_lengths r n) children r ≡ word w children r =
    word_other w₁ set_lengths r n children (omega arith) r ∙ only_word_same only children (omega arith) r in
    record {
      state = state_stays c.made_stays (concerns_states c few kind₁) c.tables state₁;
      body = record {
        nodes = rw handle (c.made_stays.nodes_stay (made_stays₁.nodes_stay nodes));
        set = length_set_to g w₁ state₁.tables.size r r_slot set₁;
      };
      made_stays = preserves_then made_stays₁ c.made_stays;
      kept = λ q k d. kept_then (swapped_kept w room r spare_slot r_slot at q d (omega arith)) (c.others q (omega arith) d);
      same_total = c.same_head cells_at ∙ only.totals cells_at (omega arith);
    }

-- ---- What is asked of the cases: a claimed region is claimed, and none is region r.
pub record ClaimedCases (w : List ℕ) (r : ℕ) (cs : List MaybeClaimedRegion) : Type 0 where
  pub parent : region_kind w r ≡ kind_ready → ⊥
  pub claimed : (j : ℕ) → j < length cs → (c : ClaimedRegion) → get_or cs j no_case ≡ ok c
      → (region_kind w c.origin ≡ kind_claimed) × (c.origin ≡ r → ⊥)

none_ready : {g : Graph} {w : List ℕ} {r : ℕ} {cs : List MaybeClaimedRegion} → HasSlot (length g.regions) r → ShowsCases g w r cs
    → ClaimedCases w r cs → NoneReady g w r cs
none_ready {g} {w} {r} {cs} slot shown claimed =
    record {
      parent_slot = slot;
      parent = claimed.parent;
      origins = λ j h k e. go j (shown.each j h) (claimed.claimed j h) k e;
    }
  where
    go : (j : ℕ) {c : MaybeClaimedRegion} → ShowsCase g w r j c
        → ((x : ClaimedRegion) → c ≡ ok x → (region_kind w x.origin ≡ kind_claimed) × (x.origin ≡ r → ⊥)) → case_kind w j ≡ case_claimed
        → region_kind w (case_origin w j) ≡ kind_ready → ⊥
    go j (shows_ok {c} a o b s t n u z i) f k e =
        let y = (f c refl).0 in
        let at : region_kind w (case_origin w j) ≡ region_kind w c.origin = ap (λ q. region_kind w q) o in
        omega arith
    go j (shows_nothing a z) f k e = omega arith
    go j (shows_edge a u z) f k e = omega arith
    go j (shows_others a u) f k e = omega arith

-- ---- The step whole.
pub record IntoDone (g : Graph) (r : ℕ) (cs : List MaybeClaimedRegion) (w w' : List ℕ) (x : Body) (s : NestState) : Type 0 where
  pub state : ShowsState g w' s
  pub body : ShowsBody g w' r x
  pub made_stays : PreservesMade g w w'
  pub kept : (q : ℕ) → q < length g.regions → (q ≡ r → ⊥)
      → ((j : ℕ) (c : ClaimedRegion) → j < length cs → get_or cs j no_case ≡ ok c → q ≡ c.origin → ⊥) → KeptRegion w w' q
  pub total : word w' head cells_at ≤ word w head cells_at + (length cs + 2)

-- By the words, the origin of a claimed case is the definition's.
not_origin : {g : Graph} {w : List ℕ} {r : ℕ} {cs : List MaybeClaimedRegion} → ShowsCases g w r cs → {q : ℕ}
    → ((j : ℕ) (c : ClaimedRegion) → j < length cs → get_or cs j no_case ≡ ok c → q ≡ c.origin → ⊥)
    → (j : ℕ) → j < length cs → case_kind w j ≡ case_claimed → q ≡ case_origin w j → ⊥
not_origin {g} {w} {r} shown {q} f j h k e = go (shown.each j h) (λ c. f j c h)
  where
    go : {c : MaybeClaimedRegion} → ShowsCase g w r j c → ((x : ClaimedRegion) → c ≡ ok x → q ≡ x.origin → ⊥) → ⊥
    go (shows_ok {c} a o b s t n u z i) d = d c refl (e ∙ o)
    go (shows_nothing a z) d = omega arith
    go (shows_edge a u z) d = omega arith
    go (shows_others a u) d = omega arith

module _ {g : Graph} (valid : Valid g) {r : ℕ} (below : r < length g.regions) {w : List ℕ} {s : NestState}
    (state : ShowsState g w s) {cs : List MaybeClaimedRegion} (shown : ShowsCases g w r cs) (claimed : ClaimedCases w r cs)
    (chains : (q : ℕ) → ChainsEnd s.region_input_rewrites q)
    (bound : (x : DeferredTarget) → edges_of_cases x (cases_after s cs) ≤ largest)
    {x : Scrutinee} {y : nesting.Scrutinee} (scrutinee : ShowsScrutinee w x y) {shape : ℕ} {kind : SelectionKind}
    (of_shape : ShowsShape shape (length cs) kind) {parent : Nodes} (own : ShowsChildren g w (word w children r) parent)
    (free : word w head cells_at + (length cs + 2) ≤ most_cells) where
  -- All cases together.
  together : {w₁ : List ℕ} {a : Made} → StructurizesSelect g r shape x w w₁ a
      → ShowsMade (Structured g r cs w w₁) a (structurize_select g parent kind y cs s)
  together m =
      let many = valid.count in
      structurized_shown valid below state shown (none_ready (omega arith) shown claimed) chains bound scrutinee of_shape own (omega arith)
      m

  with_spare : {w₁ : List ℕ} {b : StepAnswer Body} → ShowsMade (Structured g r cs w w₁) Done b
      → ShowsMade (IntoDone g r cs w (spare_taken w₁ r)) Done b
  with_spare (shows_made {a = z} c) =
      let many = valid.count in
      let t = spare_shown (omega arith) below c.state (λ e. claimed.parent (sym (c.same_kinds r) ∙ e)) {x = z} c.nodes c.set in
      let more = c.total in
      let same = t.same_total in
      shows_made {a = z} (record {
        state = t.state;
        body = t.body;
        made_stays = preserves_then c.made_stays t.made_stays;
        kept = λ q h d f. kept_then (c.kept q h d (not_origin shown f)) (t.kept q h d);
        total = omega arith;
      })

  -- Case j, the sole convergent one, is set aside and follows.
  module _ (j : ℕ) (inside : j < length cs) (alone : convergent_cases cs ≡ get_or cs j no_case ∷ [])
      (without : without_convergent cs ≡ set cs j no_case) where
    abbrev aside : List ℕ
    aside = set_aside w j

    abbrev rest : List MaybeClaimedRegion
    rest = set cs j no_case

    few : length g.regions ≤ 32
    few = let many = valid.count in omega arith

    room : used ≤ length w
    room = state.tables.size

    same_size : length rest ≡ length cs
    same_size = length-set cs j no_case

    changes : ChangesOnly cases cases_at w aside
    changes = run_changes cases cases_at w (omega arith) (case_row_at j) (case_words (unclaimed_case NothingDeferred 0 0))

    made_stays₀ : PreservesMade g w aside
    made_stays₀ = preserves_by changes (omega arith) g

    state₀ : ShowsState g aside s
    state₀ = state_stays made_stays₀ (states_by changes (omega arith) (omega arith) (omega arith) g)
        (tables_by changes (omega arith) (λ q a b e. omega arith)) state

    shown₀ : ShowsCases g aside r rest
    shown₀ = aside_shown few below room state.slots shown j inside

    same_kinds₀ : (q : ℕ) → region_kind aside q ≡ region_kind w q
    same_kinds₀ q = ap (λ l. get_or l q 0) (changes.others kinds (omega arith) (omega arith))

    -- A claimed case that is left was one before.
    was_claimed : (k : ℕ) (c : ClaimedRegion) → get_or rest k no_case ≡ ok c → (k ≡ j → ⊥) × (get_or cs k no_case ≡ ok c)
    was_claimed k c e =
        elim (ℕ_discrete k j) [
          | yes z ↦ absurd (clash (let at : get_or rest k no_case ≡ no_case =
              ap (λ i. get_or rest i no_case) z ∙ get_or-set_same cs j no_case no_case inside in cc))
          | no z ↦ (z, sym (get_or-set_other cs j k no_case no_case z) ∙ e)
        ]

    claimed₀ : ClaimedCases aside r rest
    claimed₀ =
        record {
          parent = λ e. claimed.parent (sym (same_kinds₀ r) ∙ e);
          claimed = λ k h c e.
              let x = claimed.claimed k (rw same_size at h) c (was_claimed k c e).1 in
              (same_kinds₀ c.origin ∙ x.0, x.1);
        }

    bound₀ : (x : DeferredTarget) → edges_of_cases x (cases_after s rest) ≤ largest
    bound₀ x = rw (← without) (let z = none_deferred s x cs in omega arith)

    own₀ : ShowsChildren g aside (word aside children r) parent
    own₀ = rw (changes.others children (omega arith) (omega arith)) (made_stays₀.nodes_stay own)

    total₀ : word aside head cells_at ≡ word w head cells_at
    total₀ = changes.totals cells_at (omega arith)

    answer : {w₁ : List ℕ} {a : Made} → StructurizesSelect g r shape x aside w₁ a
        → ShowsMade (Structured g r rest aside w₁) a (structurize_select g parent kind y rest s)
    answer m =
        let many = few in
        let size = same_size in
        let same = total₀ in
        structurized_shown valid below state₀ shown₀ (none_ready (omega arith) shown₀ claimed₀) chains bound₀
        (scrutinee_stays made_stays₀ scrutinee) (rw (← same_size) at of_shape) own₀ (omega arith) m

    -- What the select leaves of the case that follows.
    parts_stay : {w₁ : List ℕ} {z : Body} {s₁ : NestState} → Structured g r rest aside w₁ z s₁ → PartsStay g w w₁ j
    parts_stay c =
        let xs = case_words (unclaimed_case NothingDeferred 0 0) in
        let kind : case_kind aside j ≡ case_nothing = row_word w room j (let most = shown.few in omega arith) xs (omega arith) 0
        (omega arith) in
        let same_starts : (q : ℕ) → word aside set_starts q ≡ word w set_starts q =
        λ q. ap (λ l. get_or l q 0) (changes.others set_starts (omega arith) (omega arith)) in
        record {
          made_stays = preserves_then made_stays₀ c.made_stays;
          same_kinds = λ q. c.same_kinds q ∙ same_kinds₀ q;
          same_starts = λ q. c.same_starts q ∙ same_starts q;
          inputs = λ k h. c.rows j (omega arith) (none_left few below room state.slots shown j inside) (6 + k) (omega arith)
              (omega arith)
              ∙ run_beside w cases (case_row_at j) xs (case_input_at j k) (λ a b. omega arith);
          bundles = λ p h. same_bundle_then (bundles_same (changes.others bundles (omega arith) (omega arith))
              (case_set_start w j + p))
              (c.outside (case_set_start w j + p)
              (λ k i a b e.
              let d = other_case few below room state.slots shown j inside k i b in
              let start = field few below room state.slots shown j inside k 4 d (omega arith) in
              let many = field few below room state.slots shown j inside k 5 d (omega arith) in
              let in_list : k < length cs = rw same_size at a in
              elim (dec_lt k j) [
                | yes f ↦ shown.apart k j i p f inside (omega arith) h (omega arith)
                | no f ↦ shown.apart j k p i (omega arith) in_list h (omega arith) (omega arith)
              ])
              (λ i a e. let at = same_starts spare_slot in shown.not_spare j p i inside h a (omega arith)));
        }

    followed : {w₁ w' : List ℕ} {z : Body} {s₁ : NestState} → Structured g r rest aside w₁ z s₁
        → Appends w₁ w' r (case_row w j) j → ShowsMade (IntoDone g r cs w w') Done
        (nesting.append_maybe_claimed_region z.children (get_or cs j no_case) s₁)
    followed {w₁} c appends =
        let more = c.total in
        let same = total₀ in
        let size = same_size in
        let parts = parts_then state.slots (let many = few in omega arith) (parts_stay c)
        (record { case = shown.each j inside; set = shown.sets j inside }) (λ x e. claimed.claimed j inside x e) in
        let o = append_shown few below c.state (λ e. claimed.parent (sym (same_kinds₀ r) ∙ sym (c.same_kinds r) ∙ e)) c.nodes
        (omega arith) parts appends in
        let last = o.cells_to in
        rw o.is
        (shows_made {a = o.result} (record {
          state = o.state;
          body = o.body;
          made_stays = preserves_then made_stays₀ (preserves_then c.made_stays o.made_stays);
          kept = λ q h d f. kept_then (kept_by changes (omega arith) q)
              (kept_then (c.kept q h d (not_origin shown₀ (λ k x b e. f k x (rw same_size at b) (was_claimed k x e).1)))
              (o.kept q (omega arith) d (λ x e. f j x inside e)));
          total = omega arith;
        }))

  -- Where none converges, or more than one, no case is set aside.
  all_at_once : 8 ≤ convergent_case w → structurize_select_into g parent kind y cs s ≡ structurize_select g parent kind y cs s
  all_at_once h = by (convergent_shown shown)
    where
      by : ConvergesFrom 0 cs (convergent_case w) → structurize_select_into g parent kind y cs s ≡ structurize_select g parent kind y cs s
      by (none_converges e q) = rw q refl
      by (one_converges e k q p) = let most = shown.few in absurd (omega arith)
      by (more_converge e q) = rw q refl

  record Sole (j : ℕ) : Type 0 where
    inside : j < length cs
    alone : convergent_cases cs ≡ get_or cs j no_case ∷ []
    without : without_convergent cs ≡ set cs j no_case

  sole : convergent_case w < 8 → Sole (convergent_case w)
  sole h = by (convergent_shown shown)
    where
      by : ConvergesFrom 0 cs (convergent_case w) → Sole (convergent_case w)
      by (none_converges e q) = absurd (omega arith)
      by (one_converges {i} e k q p) =
          let z : convergent_case w ≡ i = omega arith in rw z (record { inside = k; alone = q; without = p })
      by (more_converge e q) = absurd (omega arith)

  pub into_shown : {w' : List ℕ} {a : Made} → StructurizesInto g r shape x w w' a
      → ShowsMade (IntoDone g r cs w w') a (structurize_select_into g parent kind y cs s)
  into_shown (all_together h m e) = rw (e, all_at_once h) (with_spare (together m))
  into_shown (all_refused h m) = rw (all_at_once h, refused_of (together m)) shows_refused
  into_shown (one_follows h m a) =
      let o = sole h in
      let c = made_of (answer (convergent_case w) o.inside o.alone o.without m) in
      rw (o.alone, o.without, c.is) (followed (convergent_case w) o.inside o.alone o.without c.shows a)
  into_shown (one_refused h m) =
      let o = sole h in
      rw (o.alone, o.without, refused_of (answer (convergent_case w) o.inside o.alone o.without m)) shows_refused
