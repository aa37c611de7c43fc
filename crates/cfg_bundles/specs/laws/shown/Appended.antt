-- A case that stands alone is appended to its parent, as the definition has it.
use Rattle.std.specs.Prelude.{◌≡◌, List, ℕ, zero, suc, ◌+◌, ◌≤◌, ◌<◌, get_or}
use Rattle.std.proofs.Math.Path.{refl, sym, ap}
use Rattle.std.proofs.Common.{◌∙◌}
use native.Mathlib.Omega.{arith}
use Rattle.std.proofs.Math.ListN.{length}
use Rattle.meaning.specs.Graph.{Graph, undef}
use Rattle.meaning.specs.Runs.{Nodes}
use Rattle.nesting.specs.Nesting.{DeferredEdgeBundleSet, ClaimedRegion, MaybeClaimedRegion, ok, err, deferred_of, NestState, Body}
use Rattle.nesting.specs.Nesting.{region_body, join, done}
use Rattle.nesting.specs.Nesting.{replace_with, append_maybe_claimed_region}
use Rattle.nesting.specs.Nesting.{most_regions}
use Rattle.state_regions.specs.declared.cases.Case.{Case}
use Rattle.state_regions.specs.declared.cases.CaseKind.{CaseKind}
use Rattle.state_regions.specs.declared.cases.CaseKind.TheVariants as case_kinds
use Rattle.state_regions.specs.RegionTables.{case_kind_of, case_kind_word}
use Rattle.state_regions.specs.laws.KindsBack.{kind_back}
use Rattle.state_words.specs.Sections.{used, word, stored, head, kinds, set_starts, set_lengths, children, bundles}
use Rattle.state_sets.specs.SetTables.{bundle_at, bundle_words, bundle_copied, swapped}
use Rattle.state_regions.specs.RegionTables.{case_row}
use Rattle.state_nodes.specs.NodeTables.{inserted, Joins}
use Rattle.state_shown.specs.Tables.{EntryWords, replace_words}
use Rattle.state_shown.specs.Values.{value}
use Rattle.state_shown.specs.laws.Elsewhere.{same_words}
use Rattle.state_shown.specs.laws.Rewrites.{insert_changes, rewrites_inserted}
use Rattle.state_shown.specs.Sets.{Names, ShowsSet}
use Rattle.state_shown.specs.Cells.{ShowsChildren}
use Rattle.state_shown.specs.States.{Slots, ShowsState, ShowsBody, ShowsCase, shows_ok, shows_nothing, shows_edge, shows_others, HasSlot}
use Rattle.state_shown.specs.Kept.{PreservesMade, KeptRegion}
use Rattle.state_shown.specs.laws.RegionsKept.{preserves_same, preserves_then, kept_same, kept_then, set_stays}
use Rattle.state_shown.specs.laws.RegionSteps.{preserves_by, kept_by, states_by, state_next, state_stays, Concerns, concerns_then}
use Rattle.state_shown.specs.laws.RegionSteps.{concerns_states}
use Rattle.state_shown.specs.laws.RegionSteps.{word_concerns, children_set, length_set_to, bundle_run, bundle_concerns}
use Rattle.state_shown.specs.laws.CellSteps.{list_joined}
use Rattle.state_shown.specs.laws.NamedSteps.{named_inserted}
use Rattle.state_shown.specs.laws.SetStores.{only_preserves, only_state, only_word_same, word_other, run_elsewhere_word, same_elsewhere}
use Rattle.state_shown.specs.laws.SetStores.{copy_moves}
use Rattle.state_shown.specs.laws.SetSteps.{set_moves, swapped_only, swapped_first_set, swapped_kept, swapped_slots}
use Rattle.state_shown.specs.laws.Finds.{bundle_in}
use Rattle.cfg_bundles.specs.EdgesAndCases.{case_inputs, Appends, appended, its_edge, its_rest}
use Rattle.cfg_bundles.specs.laws.shown.CaseSteps.{CaseAndSet}
use Rattle.state_words.specs.Rows.{bundle_row_at, case_input, case_set_length, case_set_start, cells_at}
use Rattle.state_words.specs.Rows.{entry_replace, kind_claimed, kind_ready, most_cells, region_kind, slot_size}

-- ---- A case that is to stand alone, by its parts; its inputs stand in row j.
pub data ShowsAlone (g : Graph) (w : List ℕ) (r j : ℕ) (x : Case) : MaybeClaimedRegion → Type 0 where
  claimed_parts : {c : ClaimedRegion} → x.kind ≡ case_kinds.ClaimedRegion → x.origin ≡ c.origin → c.origin < length g.regions
      → (c.origin ≡ r → ⊥)
      → region_kind w c.origin ≡ kind_claimed → x.body ≡ c.structured_body → c.structured_body < most_regions
      → ShowsChildren g w x.children.0 c.children → ShowsSet g w (word w set_starts c.origin) x.length c.deferred_edges
      → ((k : ℕ) → k < 4 → Names (case_input w j k) (get_or c.structured_body_inputs k (undef 0)))
      → ShowsAlone g w r j x (ok c)
  edge_parts : {d : DeferredEdgeBundleSet} → x.kind ≡ case_kinds.OwnEdge → x.length ≡ 1 → ShowsSet g w x.start.0 1 d
      → ShowsAlone g w r j x (err d)
  -- Nothing, or what is left of region r's own set.
  rest_parts : {d : DeferredEdgeBundleSet} → (x.kind ≡ case_kinds.ClaimedRegion → ⊥) → (x.kind ≡ case_kinds.OwnEdge → ⊥)
      → ShowsSet g w (word w set_starts r) x.length d
      → ShowsAlone g w r j x (err d)

-- A word of one kind says no other.
pub other_kind : {n m : ℕ} {k : CaseKind} → n ≡ m → (m ≡ case_kind_word k → ⊥) → case_kind_of n ≡ k → ⊥
other_kind {n} e d z = d (sym e ∙ sym (kind_back n) ∙ ap case_kind_word z)

-- Of a case that is shown, the parts are its row.
pub row_alone : {g : Graph} {w : List ℕ} {r j : ℕ} {m : MaybeClaimedRegion} → Slots (length g.regions) w
    → HasSlot (length g.regions) r → CaseAndSet g w r j m
    → ((c : ClaimedRegion) → m ≡ ok c → (region_kind w c.origin ≡ kind_claimed) × (c.origin ≡ r → ⊥))
    → ShowsAlone g w r j (case_row w j) m
row_alone {g} {w} {r} {j} slots below x claimed = go x.case x.set claimed
  where
    go : {m : MaybeClaimedRegion} → ShowsCase g w r j m
        → ShowsSet g w (case_set_start w j) (case_set_length w j) (deferred_of m)
        → ((c : ClaimedRegion) → m ≡ ok c → (region_kind w c.origin ≡ kind_claimed) × (c.origin ≡ r → ⊥))
        → ShowsAlone g w r j (case_row w j) m
    go (shows_ok {c} a b in_graph d e f start size names) s claimed =
        let y = claimed c refl in claimed_parts {c = c} (ap case_kind_of a) b in_graph y.1 y.0 d e f (rw start at s) names
    go (shows_nothing a b) s claimed =
        let at = slots.starts r below in
        let in_slot = slots.below r below in
        rest_parts (other_kind a (omega arith)) (other_kind a (omega arith))
        record {
          size = b;
          few = omega arith;
          room = omega arith;
          each = λ i h. absurd (omega arith);
          apart = λ i k p q. absurd (omega arith);
        }
    go (shows_edge a b d) s claimed = edge_parts (ap case_kind_of a) d (rw d at s)
    go (shows_others a b) s claimed = rest_parts (other_kind a (omega arith)) (other_kind a (omega arith)) (rw b at s)

concerns_same : (g : Graph) (r : ℕ) (w : List ℕ) → Concerns g r w w
concerns_same g r w =
    record {
      made_stays = preserves_same g w;
      tables = same_words w;
      others = λ q h d. kept_same w q;
      same_kinds = λ q. refl;
      same_starts = λ q. refl;
      same_head = λ q. refl;
    }

-- ---- What the words show then.
pub record AppendShown (g : Graph) (w w' : List ℕ) (s : NestState) (parent : Nodes) (m : MaybeClaimedRegion) (r : ℕ) : Type 0 where
  pub result : Body
  pub next : NestState
  pub is : append_maybe_claimed_region parent m s ≡ done result next
  pub state : ShowsState g w' next
  pub body : ShowsBody g w' r result
  pub made_stays : PreservesMade g w w'
  pub kept : (q : ℕ) → HasSlot (length g.regions) q → (q ≡ r → ⊥) → ((c : ClaimedRegion) → m ≡ ok c → q ≡ c.origin → ⊥)
      → KeptRegion w w' q
  pub cells_to : word w' head cells_at ≤ suc (word w head cells_at)

pub inputs_at : (w : List ℕ) (j k : ℕ) → k < 4 → get_or (case_inputs w j) k 0 ≡ case_input w j k
inputs_at w j zero h = refl
inputs_at w j (suc zero) h = refl
inputs_at w j (suc (suc zero)) h = refl
inputs_at w j (suc (suc (suc zero))) h = refl
inputs_at w j (suc (suc (suc (suc k)))) h = absurd (omega arith)

module _ {g : Graph} (few : length g.regions ≤ 32) {r : ℕ} (here : r < length g.regions) {w : List ℕ} {s : NestState}
    (state : ShowsState g w s) (unready : region_kind w r ≡ kind_ready → ⊥) {parent : Nodes}
    (nodes : ShowsChildren g w (word w children r) parent) where
  -- Only region r's set changes, from w to w₁ within its slot, and then in its length.
  set_appended : {w₁ : List ℕ} {d : DeferredEdgeBundleSet} {n : ℕ} → Concerns g r w w₁ → word w₁ children r ≡ word w children r
      → ShowsSet g w₁ (word w₁ set_starts r) n d
      → AppendShown g w (stored w₁ set_lengths r n) s parent (err d) r
  unfolding append_maybe_claimed_region
  set_appended {w₁} {d} {n} first same set =
      let room = state.tables.size in
      let counted = first.tables.words in
      let last = word_concerns g w₁ set_lengths (omega arith) r n in
      let both = concerns_then first last in
      record {
        result = region_body parent d;
        next = s;
        is = refl;
        state = state_stays both.made_stays (concerns_states both few unready) both.tables state;
        body =
            record {
              nodes = rw (word_other w₁ set_lengths r n children (omega arith) r, same) (both.made_stays.nodes_stay nodes);
              set = length_set_to g w₁ (omega arith) r (omega arith) set;
            };
        made_stays = both.made_stays;
        kept = λ q h e f. both.others q h e;
        cells_to = let z = both.same_head cells_at in omega arith;
      }

  -- The edge of its own is copied to the front of region r's slot.
  edge_appended : {d : DeferredEdgeBundleSet} {p : ℕ} → ShowsSet g w p 1 d
      → AppendShown g w (stored (bundle_copied w (bundle_at (word w set_starts r) 0) p) set_lengths r 1) s parent (err d) r
  edge_appended {d} {p} set =
      let slots = state.slots in
      let at = slots.starts r (omega arith) in
      let in_slot = slots.below r (omega arith) in
      let start = word w set_starts r in
      let z : start + 0 ≡ start = omega arith in
      let front : bundle_at start 0 ≡ start = bundle_in start 0 (omega arith) (omega arith) ∙ z in
      let first = bundle_concerns (bundle_run w start (bundle_words w p) (omega arith)) g r 0 slots (omega arith) (omega arith) (sym z) in
      let moved = copy_moves w start p state.tables.size (omega arith) in
      rw front
      (set_appended first (run_elsewhere_word w bundles (bundle_row_at start) (bundle_words w p) children (omega arith) r)
      (rw (first.same_starts r)
      (set_moves first.made_stays (λ k. k) set.size (omega arith) (omega arith) (λ k h. h) (λ i k a b e. omega arith)
      (λ k h. let e : k ≡ 0 = omega arith in let y : p + 0 ≡ p = omega arith in rw (e, z, y) moved) (λ k h. refl) set)))

-- ---- A claimed region: its inputs are entered, its children follow the parent's, its slot becomes the parent's.
-- Before its slot is taken: h is the list of all children, ks.
record Entered (g : Graph) (w w₂ : List ℕ) (s : NestState) (r o h : ℕ) (ks : Nodes) : Type 0 where
  state : ShowsState g w₂ s
  unready : region_kind w₂ r ≡ kind_ready → ⊥
  origin_claimed : region_kind w₂ o ≡ kind_claimed
  nodes : ShowsChildren g w₂ h ks
  made_stays : PreservesMade g w w₂
  kept : (q : ℕ) → KeptRegion w w₂ q
  cells_to : word w₂ head cells_at ≤ suc (word w head cells_at)

record SlotTaken (g : Graph) (w w' : List ℕ) (s : NestState) (r o : ℕ) (x : Body) : Type 0 where
  state : ShowsState g w' s
  body : ShowsBody g w' r x
  made_stays : PreservesMade g w w'
  kept : (q : ℕ) → HasSlot (length g.regions) q → (q ≡ r → ⊥) → (q ≡ o → ⊥) → KeptRegion w w' q
  cells_to : word w' head cells_at ≤ suc (word w head cells_at)

slot_taken : {g : Graph} → length g.regions ≤ 32 → {r o : ℕ} → r < length g.regions → o < length g.regions
    → {w w₂ : List ℕ} {s : NestState} {h : ℕ} {ks : Nodes} → Entered g w w₂ s r o h ks → {n : ℕ} {d : DeferredEdgeBundleSet}
    → ShowsSet g w (word w set_starts o) n d
    → SlotTaken g w (stored (swapped (stored w₂ children r h) r o) set_lengths r n) s r o (region_body ks d)
slot_taken {g} few {r} {o} here there {w} {w₂} {s} {h} {ks} x {n} {d} set =
    let in_slots : (q : ℕ) → q < length g.regions → q < slot_size = λ q k. omega arith in
    let r_slot = in_slots r here in
    let o_slot = in_slots o there in
    let r_32 : r < 32 = omega arith in
    let few_bundles = set.few in
    let set₂ : ShowsSet g w₂ (word w set_starts o) n d = set_stays x.made_stays (λ i k. (x.kept o).slot i (omega arith)) set in
    let w₃ = stored w₂ children r h in
    let c₃ = word_concerns g w₂ children (omega arith) r h in
    let state₃ = state_stays c₃.made_stays (concerns_states c₃ few x.unready) c₃.tables x.state in
    let nodes₃ = children_set g w₂ x.state.tables.size r r_32 x.nodes in
    let room₃ = state₃.tables.size in
    let w₄ = swapped w₃ r o in
    let only₄ = swapped_only w₃ room₃ r o r_slot o_slot in
    let made_stays₄ = only_preserves only₄ g in
    let kind_r : region_kind w₃ r ≡ kind_ready → ⊥ = λ e. x.unready (sym (c₃.same_kinds r) ∙ e) in
    let kind_o : region_kind w₃ o ≡ kind_claimed = c₃.same_kinds o ∙ x.origin_claimed in
    let state₄ = only_state only₄ (swapped_slots w₃ room₃ r o r_slot o_slot (omega arith) (omega arith) state₃.slots)
    (λ q k e. swapped_kept w₃ room₃ r o r_slot o_slot q (λ f. kind_r (ap (λ b. region_kind w₃ b) (sym f) ∙ e))
    (λ f. let z : region_kind w₃ o ≡ kind_ready = ap (λ b. region_kind w₃ b) (sym f) ∙ e in omega (arith, kind_o, z))) state₃ in
    let room₄ = state₄.tables.size in
    let kind₄ : region_kind w₄ r ≡ kind_ready → ⊥ = λ e. kind_r (sym (only_word_same only₄ kinds (omega arith) r) ∙ e) in
    let start₃ : word w₃ set_starts o ≡ word w set_starts o = c₃.same_starts o ∙ (x.kept o).set_start in
    let set₃ : ShowsSet g w₃ (word w₃ set_starts o) n d =
    rw start₃ (set_stays c₃.made_stays (λ i k. same_elsewhere w₂ children (omega arith) r h _) set₂) in
    let set₄ = swapped_first_set w₃ room₃ r o r_slot o_slot set₃ in
    let c₅ = word_concerns g w₄ set_lengths (omega arith) r n in
    let handle₄ : word w₄ children r ≡ word w₃ children r = only_word_same only₄ children (omega arith) r in
    let handle₅ : word (stored w₄ set_lengths r n) children r ≡ word w₃ children r =
    word_other w₄ set_lengths r n children (omega arith) r ∙ handle₄ in
    let total₅ = c₅.same_head cells_at ∙ only₄.totals cells_at (omega arith) ∙ c₃.same_head cells_at in
    record {
      state = state_stays c₅.made_stays (concerns_states c₅ few kind₄) c₅.tables state₄;
      body =
          record {
            nodes = rw handle₅ (c₅.made_stays.nodes_stay (made_stays₄.nodes_stay nodes₃));
            set = length_set_to g w₄ room₄ r r_slot set₄;
          };
      made_stays = preserves_then x.made_stays (preserves_then c₃.made_stays (preserves_then made_stays₄ c₅.made_stays));
      kept = λ q k a b.
          kept_then (x.kept q)
          (kept_then (c₃.others q k a) (kept_then (swapped_kept w₃ room₃ r o r_slot o_slot q a b) (c₅.others q k a)));
      cells_to = rw total₅ x.cells_to;
    }

module _ {g : Graph} (few : length g.regions ≤ 32) {r : ℕ} (here : r < length g.regions) {w : List ℕ} {s : NestState}
    (state : ShowsState g w s) (unready : region_kind w r ≡ kind_ready → ⊥) {parent : Nodes}
    (nodes : ShowsChildren g w (word w children r) parent) where
  claimed_appended : (x : Case) {j : ℕ} {c : ClaimedRegion} → word w head cells_at < most_cells → ShowsAlone g w r j x (ok c)
      → {w₂ w' : List ℕ} {h : ℕ}
      → Joins (inserted w x.body entry_replace (case_inputs w j)) w₂
      (word (inserted w x.body entry_replace (case_inputs w j)) children r) x.children.0 h
      → w' ≡ stored (swapped (stored w₂ children r h) r x.origin) set_lengths r x.length
      → AppendShown g w w' s parent (ok c) r
  unfolding append_maybe_claimed_region
  claimed_appended x {j} {c} free (claimed_parts kind is_origin in_graph other is_claimed is_IsBody body_Below inner set names) {w₂} {w'} {h}
      joins stores =
      let o = c.origin in
      let room = state.tables.size in
      let body_in : x.body < most_regions = omega arith in
      let vs = case_inputs w j in
      let changes = insert_changes w x.body 1 vs 0 in
      let made_stays₁ = preserves_by changes (omega arith) g in
      let states₁ = states_by changes (omega arith) (omega arith) (omega arith) g in
      let kept₁ = kept_by changes (omega arith) in
      let room₁ : used ≤ length (inserted w x.body entry_replace vs) = rw changes.words room in
      let total₁ = changes.totals cells_at (omega arith) in
      let entry : EntryWords x.body 1 vs (replace_with c.structured_body_inputs) =
      replace_words refl (λ k b. ap value (inputs_at w j k b) ∙ (names k b).is) in
      let tables₁ = rewrites_inserted state.tables body_in refl entry refl in
      let named₁ = named_inserted w x.body entry_replace vs room body_in refl (λ k b. rw (inputs_at w j k b) (names k b).below)
      state.named in
      let state₁ = state_next made_stays₁ states₁ tables₁ named₁ refl state in
      let w₁ = inserted w x.body entry_replace vs in
      let free₁ : word w₁ head cells_at < most_cells = rw total₁ free in
      let outer : ShowsChildren g w₁ (word w₁ children r) parent = rw (kept₁ r).handle (made_stays₁.nodes_stay nodes) in
      let y = list_joined free₁ room₁ joins outer (made_stays₁.nodes_stay inner) in
      let state₂ = state_stays y.made_stays y.states y.tables state₁ in
      let taken = slot_taken few here in_graph
      record {
        state = rw is_IsBody at state₂;
        unready = λ e. unready (sym (states₁.same_kinds r here) ∙ sym (y.states.same_kinds r here) ∙ e);
        origin_claimed = y.states.same_kinds o in_graph ∙ states₁.same_kinds o in_graph ∙ is_claimed;
        nodes = y.nodes;
        made_stays = preserves_then made_stays₁ y.made_stays;
        kept = λ q. kept_then (kept₁ q) (y.regions q);
        cells_to = rw (← total₁) y.total_to;
      } set in
      rw (stores, is_origin)
      record {
        result = region_body (join parent c.children) c.deferred_edges;
        next = _;
        is = refl;
        state = taken.state;
        body = taken.body;
        made_stays = taken.made_stays;
        kept = λ q k a b. taken.kept q k a (b c refl);
        cells_to = taken.cells_to;
      }

  -- Code and definition append the same.
  pub append_shown : {x : Case} {j : ℕ} {m : MaybeClaimedRegion} {w' : List ℕ} → word w head cells_at < most_cells → ShowsAlone g w r j x m
      → Appends w w' r x j → AppendShown g w w' s parent m r
  append_shown {x} free (claimed_parts a b c d e f h k l n) (appended p joins stores) =
      claimed_appended x free (claimed_parts a b c d e f h k l n) joins stores
  append_shown free (claimed_parts a b c d e f h k l n) (its_edge p stores) =
      let z = ap case_kind_word (sym a ∙ p) in absurd (omega arith)
  append_shown free (claimed_parts a b c d e f h k l n) (its_rest p q stores) = absurd (p a)
  append_shown free (edge_parts a b c) (appended p joins stores) =
      let z = ap case_kind_word (sym a ∙ p) in absurd (omega arith)
  append_shown free (edge_parts a b c) (its_edge p stores) = rw (stores, b) (edge_appended few here state unready nodes c)
  append_shown free (edge_parts a b c) (its_rest p q stores) = absurd (q a)
  append_shown free (rest_parts a b c) (appended p joins stores) = absurd (a p)
  append_shown free (rest_parts a b c) (its_edge p stores) = absurd (b p)
  append_shown free (rest_parts a b c) (its_rest p q stores) =
      rw stores (set_appended few here state unready nodes (concerns_same g r w) refl c)
