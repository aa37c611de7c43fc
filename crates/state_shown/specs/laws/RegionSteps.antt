-- Stores into the regions' fixed lists, into cases and into bundles: what stays shown, and what is shown then.
use Rattle.std.specs.Prelude.{◌≡◌, refl, List, ℕ, ◌+◌, ◌≤◌, ◌<◌, length, get_or, set}
use Rattle.std.proofs.Common.{sym, ap, ◌∙◌, subst, arith, length-set, get_or-set_same, get_or-set_other}
use Rattle.std.proofs.Math.Decide.{ℕ_discrete, dec_lt}
use Rattle.meaning.specs.Graph.{Graph}
use Rattle.meaning.specs.Runs.{Nodes}
use Rattle.nesting.specs.Nesting.{DeferredEdgeBundleSet, StructurizeRegionState, not_begun, NestState, with_tables}
use Rattle.state_words.specs.Sections as sections
use Rattle.state_words.specs.Sections.{Section, number, size, used, section, word, stored, stored_all, head, kinds, backedges, set_starts}
use Rattle.state_words.specs.Sections.{set_lengths, children, bodies, levels, rewrites, conditions, cells, outputs, bundles}
use Rattle.state_nodes.specs.NodeTables.{entry_kind}
use Rattle.state_words.specs.laws.Apart.{section_other}
use Rattle.state_shown.specs.laws.Stores.{ChangesOnly, word_changes, run_changes, nothing_changes, section_run}
use Rattle.state_shown.specs.laws.Stores.{run_other, word_there, word_apart}
use Rattle.state_shown.specs.Tables.{ShowsTables}
use Rattle.state_shown.specs.laws.Elsewhere.{SameTables, tables_stay, Elsewhere, same_then}
use Rattle.state_shown.specs.laws.Conditions.{condition_same}
use Rattle.state_shown.specs.laws.FrontKept.{stands_on, front_by}
use Rattle.state_shown.specs.Sets.{ShowsSet, SameBundle}
use Rattle.state_shown.specs.Cells.{ShowsChildren}
use Rattle.state_shown.specs.States.{ShowsOwnSet, ShowsRegion, is_not_begun, is_in_progress, is_ready, is_claimed, ShowsState}
use Rattle.state_shown.specs.States.{NamedRewrites, HasSlot, Slots}
use Rattle.state_shown.specs.Kept.{PreservesMade, KeptRegion}
use Rattle.state_shown.specs.laws.RegionsKept.{preserves_same, preserves_then, kept_same, kept_then, region_stays, set_stays}
use Rattle.state_shown.specs.laws.RegionsKept.{same_bundle}
use Rattle.meaning.specs.facts.Parts.{run_before, run_behind}
use Rattle.state_words.specs.Rows.{bundle_row_at, bundle_word_at, cases_at, cells_at, kind_ready, level_at, merges_at, no_total, slot_count}
use Rattle.state_words.specs.Rows.{region_kind, bundle_row_size}
use Rattle.state_words.specs.Rows.{regions_at, returned_at, slot_size, types_at}

-- ---- Steps that change one section and one word of the head, by which they are.
-- Neither the record, nor the conditions, nor the cells, nor the totals of these: of a section by its name, `omega arith` proves it.
pub record MakesNothing (k : Section) (i : ℕ) : Type 0 where
  pub not_front : number sections.front ≡ number k → ⊥
  pub not_conditions : number sections.conditions ≡ number k → ⊥
  pub not_cells : number sections.cells ≡ number k → ⊥
  pub not_merges : merges_at ≡ i → ⊥
  pub not_cell_total : cells_at ≡ i → ⊥

-- No list of the regions' own, and no bundles.
pub record OfNoRegion (k : Section) : Type 0 where
  pub not_backedges : number sections.backedges ≡ number k → ⊥
  pub not_starts : number sections.set_starts ≡ number k → ⊥
  pub not_lengths : number sections.set_lengths ≡ number k → ⊥
  pub not_children : number sections.children ≡ number k → ⊥
  pub not_bodies : number sections.bodies ≡ number k → ⊥
  pub not_levels : number sections.levels ≡ number k → ⊥
  pub not_bundles : number sections.bundles ≡ number k → ⊥

pub bundles_same : {w w' : List ℕ} → section w' bundles ≡ section w bundles → (p : ℕ) → SameBundle w w' p
bundles_same e p = record { words = λ i h. ap (λ l. get_or l (bundle_word_at p i) 0) e }

module _ {k : Section} {i : ℕ} {w w' : List ℕ} (changes : ChangesOnly k i w w') where
  pub preserves_by : MakesNothing k i → (g : Graph) → PreservesMade g w w'
  preserves_by d g =
      record {
        front = front_by changes d.not_front;
        conditions_stay = condition_same (changes.others conditions d.not_conditions (omega arith))
            (changes.others cells d.not_cells (omega arith)) (changes.totals cells_at d.not_cell_total)
            (changes.totals merges_at d.not_merges);
        nodes_stay = λ n. record {
          nodes = rw (changes.others cells d.not_cells (omega arith)) n.nodes;
          made = rw (changes.totals cells_at d.not_cell_total) n.made;
        };
      }

  pub kept_by : OfNoRegion k → (q : ℕ) → KeptRegion w w' q
  kept_by d q =
      record {
        set_start = ap (λ l. get_or l q 0) (changes.others set_starts d.not_starts (omega arith));
        set_length = ap (λ l. get_or l q 0) (changes.others set_lengths d.not_lengths (omega arith));
        handle = ap (λ l. get_or l q 0) (changes.others children d.not_children (omega arith));
        body = ap (λ l. get_or l q 0) (changes.others bodies d.not_bodies (omega arith));
        backedge = ap (λ l. get_or l q 0) (changes.others backedges d.not_backedges (omega arith));
        target_answers = λ j h. ap (λ l. get_or l (level_at q j) 0) (changes.others levels d.not_levels (omega arith));
        slot = λ j h. bundles_same (changes.others bundles d.not_bundles (omega arith)) (word w set_starts q + j);
      }

  pub tables_by : Elsewhere k → ((q : ℕ) → q < cases_at → (q ≡ cells_at → ⊥) → q ≡ i → ⊥) → SameTables w w'
  tables_by d t =
      record {
        words = changes.words;
        same_rewrites = changes.others rewrites d.not_rewrites (omega arith);
        same_outputs = changes.others outputs d.not_outputs (omega arith);
        totals = λ q a b. changes.totals q (t q a b);
      }

-- ---- What the regions' states have besides the tables: where nothing of it changes, the words show the same states.
pub record StatesStay (g : Graph) (w w' : List ℕ) : Type 0 where
  pub same_kinds : (q : ℕ) → q < length g.regions → region_kind w' q ≡ region_kind w q
  pub same_starts : (a : ℕ) → a < slot_count → word w' set_starts a ≡ word w set_starts a
  pub same_returned : (k : ℕ) → returned_at ≤ k → word w' head k ≡ word w head k
  pub ready_kept : (q : ℕ) → q < length g.regions → region_kind w q ≡ kind_ready → KeptRegion w w' q

pub states_then : {g : Graph} {w w₁ w₂ : List ℕ} → StatesStay g w w₁ → StatesStay g w₁ w₂ → StatesStay g w w₂
states_then a b =
    record {
      same_kinds = λ q h. b.same_kinds q h ∙ a.same_kinds q h;
      same_starts = λ q h. b.same_starts q h ∙ a.same_starts q h;
      same_returned = λ k h. b.same_returned k h ∙ a.same_returned k h;
      ready_kept = λ q h e. kept_then (a.ready_kept q h e) (b.ready_kept q h (a.same_kinds q h ∙ e));
    }

pub states_by : {k : Section} {i : ℕ} {w w' : List ℕ} → ChangesOnly k i w w' → OfNoRegion k → (number sections.kinds ≡ number k → ⊥)
    → i < 8 → (g : Graph)
    → StatesStay g w w'
states_by changes d e h g =
    record {
      same_kinds = λ q a. ap (λ l. get_or l q 0) (changes.others kinds e (omega arith));
      same_starts = λ a b. ap (λ l. get_or l a 0) (changes.others set_starts d.not_starts (omega arith));
      same_returned = λ k a. changes.totals k (omega arith);
      ready_kept = λ q a b. kept_by changes d q;
    }

pub slots_stay : {n : ℕ} {w w' : List ℕ} → ((a : ℕ) → a < slot_count → word w' set_starts a ≡ word w set_starts a) → Slots n w → Slots n w'
slots_stay e y =
    record { slot_number = y.slot_number; starts = λ a h. e a h.below ∙ y.starts a h; below = y.below; own = y.own }

pub named_by : {w w' : List ℕ} → section w' rewrites ≡ section w rewrites → NamedRewrites w → NamedRewrites w'
named_by e n = record { below = λ r k a b d. rw e (n.below r k a b (λ z. d (ap (λ l. entry_kind l r) e ∙ z))) }

pub named_stay : {w w' : List ℕ} → SameTables w w' → NamedRewrites w → NamedRewrites w'
named_stay t n = named_by t.same_rewrites n

module _ {g : Graph} {w w' : List ℕ} (made_stays : PreservesMade g w w') (stay : StatesStay g w w') where
  region_next : (q : ℕ) → q < length g.regions → {x : StructurizeRegionState} → ShowsRegion g w q x → ShowsRegion g w' q x
  region_next q h (is_not_begun a) = is_not_begun (stay.same_kinds q h ∙ a)
  region_next q h (is_in_progress a) = is_in_progress (stay.same_kinds q h ∙ a)
  region_next q h (is_ready a b n d) = region_stays made_stays (stay.ready_kept q h a) (stay.same_kinds q h) (is_ready a b n d)
  region_next q h (is_claimed a) = is_claimed (stay.same_kinds q h ∙ a)

  -- The tables may have changed, the states of regions not.
  pub state_next : {s s' : NestState} → ShowsTables w' s' → NamedRewrites w' → s'.region_states ≡ s.region_states → ShowsState g w s
      → ShowsState g w' s'
  state_next {s} {s'} t n e x =
      record {
        stands = stands_on made_stays.front x.stands;
        tables = t;
        named = n;
        size = rw e x.size;
        regions = λ q h. subst (λ z. ShowsRegion g w' q (get_or z q not_begun)) (sym e) (region_next q h (x.regions q h));
        slots = slots_stay (λ a h. stay.same_starts a h) x.slots;
        returned = (let y = x.returned in record {
          size = stay.same_returned returned_at (omega arith) ∙ y.size;
          types = λ k h. stay.same_returned (types_at + k) (omega arith) ∙ y.types k h;
        });
      }

  pub state_stays : {s : NestState} → SameTables w w' → ShowsState g w s → ShowsState g w' s
  state_stays t x = state_next (tables_stay t x.tables) (named_stay t x.named) refl x

-- A step that stores nothing of any region's own.
pub record Aside (g : Graph) (w w' : List ℕ) : Type 0 where
  pub made_stays : PreservesMade g w w'
  pub states : StatesStay g w w'
  pub regions : (q : ℕ) → KeptRegion w w' q

pub aside_same : (g : Graph) (w : List ℕ) → Aside g w w
aside_same g w =
    record {
      made_stays = preserves_same g w;
      states = states_by (nothing_changes head regions_at w) (omega arith) (omega arith) (omega arith) g;
      regions = kept_same w;
    }

pub aside_then : {g : Graph} {w w₁ w₂ : List ℕ} → Aside g w w₁ → Aside g w₁ w₂ → Aside g w w₂
aside_then a b =
    record {
      made_stays = preserves_then a.made_stays b.made_stays;
      states = states_then a.states b.states;
      regions = λ q. kept_then (a.regions q) (b.regions q);
    }

pub aside_by : {k : Section} {i : ℕ} {w w' : List ℕ} → ChangesOnly k i w w' → MakesNothing k i → OfNoRegion k
    → (number sections.kinds ≡ number k → ⊥) → i < 8
    → (g : Graph) → Aside g w w'
aside_by changes m d e h g =
    record { made_stays = preserves_by changes m g; states = states_by changes d e h g; regions = kept_by changes d }

-- The tables have nothing of the regions' states.
pub tables_of_states : {w : List ℕ} {s : NestState} (xs : List StructurizeRegionState) → ShowsTables w s
    → ShowsTables w (with_tables xs s.region_input_rewrites s.node_outputs s)
tables_of_states xs t =
    record {
      size = t.size;
      region_total = t.region_total;
      node_total = t.node_total;
      merge_total = t.merge_total;
      output_total = t.output_total;
      attempts = t.attempts;
      twice = t.twice;
      few_regions = t.few_regions;
      few_nodes = t.few_nodes;
      few_merges = t.few_merges;
      few_outputs = t.few_outputs;
      rewritten = t.rewritten;
      outputs_shown = t.outputs_shown;
    }

-- ---- A word of region r: its back edge count, the length of its set, its children, its structured body. Nothing else changes.
pub record OfOneRegion (k : Section) : Type 0 where
  pub behind_kinds : number sections.backedges ≤ number k
  pub before_levels : number k ≤ number sections.bodies
  pub no_start : number sections.set_starts ≡ number k → ⊥

pub record Concerns (g : Graph) (r : ℕ) (w w' : List ℕ) : Type 0 where
  pub made_stays : PreservesMade g w w'
  pub tables : SameTables w w'
  pub others : (q : ℕ) → HasSlot (length g.regions) q → (q ≡ r → ⊥) → KeptRegion w w' q
  pub same_kinds : (q : ℕ) → region_kind w' q ≡ region_kind w q
  pub same_starts : (q : ℕ) → word w' set_starts q ≡ word w set_starts q
  pub same_head : (q : ℕ) → word w' head q ≡ word w head q

pub concerns_then : {g : Graph} {r : ℕ} {w w₁ w₂ : List ℕ} → Concerns g r w w₁ → Concerns g r w₁ w₂ → Concerns g r w w₂
concerns_then a b =
    record {
      made_stays = preserves_then a.made_stays b.made_stays;
      tables = same_then a.tables b.tables;
      others = λ q h d. kept_then (a.others q h d) (b.others q h d);
      same_kinds = λ q. b.same_kinds q ∙ a.same_kinds q;
      same_starts = λ q. b.same_starts q ∙ a.same_starts q;
      same_head = λ q. b.same_head q ∙ a.same_head q;
    }

module _ (g : Graph) (w : List ℕ) where
  -- A slot given to region r too.
  pub kept_word : (k : Section) → number sections.backedges ≤ number k → number k ≤ number sections.bodies → (r x q : ℕ) → (q ≡ r → ⊥)
      → KeptRegion w (stored w k r x) q
  kept_word k a b r x q n =
      record {
        set_start = word_apart w k r x set_starts q n;
        set_length = word_apart w k r x set_lengths q n;
        handle = word_apart w k r x children q n;
        body = word_apart w k r x bodies q n;
        backedge = word_apart w k r x backedges q n;
        target_answers = λ j h. ap (λ l. get_or l (level_at q j) 0) (section_other w k r x levels (omega arith));
        slot = λ j h. bundles_same (section_other w k r x bundles (omega arith)) (word w set_starts q + j);
      }

  pub word_concerns : (k : Section) → OfOneRegion k → (r x : ℕ) → Concerns g r w (stored w k r x)
  word_concerns k d r x =
      let a = d.behind_kinds in
      let b = d.before_levels in
      let changes = word_changes k no_total w (omega arith) r x in
      record {
        made_stays = preserves_by changes (omega arith) g;
        tables = tables_by changes (omega arith) (omega arith);
        others = λ q h n. kept_word k a b r x q n;
        same_kinds = λ q. ap (λ l. get_or l q 0) (changes.others kinds (omega arith) (omega arith));
        same_starts = λ q. ap (λ l. get_or l q 0) (changes.others set_starts d.no_start (omega arith));
        same_head = λ q. ap (λ l. get_or l q 0) (section_other w k r x head (omega arith));
      }

  module _ (room : used ≤ length w) (r : ℕ) where
    pub children_set : r < 32 → {h : ℕ} {ks : Nodes} → ShowsChildren g w h ks
        → ShowsChildren g (stored w children r h) (word (stored w children r h) children r) ks
    children_set b {h} n = rw (word_there w children r h (omega arith) b) ((word_concerns children
        (omega arith) r h).made_stays.nodes_stay n)

    pub body_set : r < 32 → (x : ℕ) → word (stored w bodies r x) bodies r ≡ x
    body_set b x = word_there w bodies r x (omega arith) b

    pub length_set_to : r < slot_count → {n : ℕ} {d : DeferredEdgeBundleSet} → ShowsSet g w (word w set_starts r) n d
        → ShowsOwnSet g (stored w set_lengths r n) r d
    length_set_to b {n} s =
        let c = word_concerns set_lengths (omega arith) r n in
        rw (c.same_starts r, word_there w set_lengths r n (omega arith) b)
        (set_stays c.made_stays (λ i h. bundles_same (section_other w set_lengths r n bundles (omega arith))
        (word w set_starts r + i)) s)

    -- The state of region r: the others' stay, and its own is as it is shown then.
    pub kind_set : {s : NestState} → r < 32 → (x : ℕ) {y : StructurizeRegionState} → ShowsState g w s → r < length g.regions
        → ShowsRegion g (stored w kinds r x) r y
        → ShowsState g (stored w kinds r x)
        (with_tables (set s.region_states r y) s.region_input_rewrites s.node_outputs s)
    kind_set {s} b x {y} shown below own =
        let w' = stored w kinds r x in
        let changes = word_changes kinds no_total w (omega arith) r x in
        let made_stays = preserves_by changes (omega arith) g in
        let t = tables_by changes (omega arith) (omega arith) in
        let n = shown.size in
        record {
          stands = stands_on made_stays.front shown.stands;
          tables = tables_of_states _ (tables_stay t shown.tables);
          named = named_stay t shown.named;
          size = length-set s.region_states r y ∙ shown.size;
          regions = λ q h. elim (ℕ_discrete q r) [
            | yes e ↦ rw (e, get_or-set_same s.region_states r y not_begun (omega arith)) own
            | no d ↦ rw (get_or-set_other s.region_states r q y not_begun d)
                (region_stays made_stays (kept_by changes (omega arith) q) (word_apart w kinds r x kinds q d) (shown.regions q h))
          ];
          slots = slots_stay (λ a h. ap (λ l. get_or l a 0) (changes.others set_starts (omega arith) (omega arith))) shown.slots;
          returned = (let z = shown.returned in record {
            size = changes.totals returned_at (omega arith) ∙ z.size;
            types = λ k h. ap (λ l. get_or l (types_at + k) 0) (section_other w kinds r x head (omega arith)) ∙ z.types k h;
          });
        }

-- ---- How a target was answered. (A case of the select under way is of no region: `preserves_by`, `tables_by`, `kept_by` and `states_by`.)
module _ (g : Graph) (w : List ℕ) where
  pub target_answer_concerns : (r j x : ℕ) → j < 8 → Concerns g r w (stored w levels (level_at r j) x)
  target_answer_concerns r j x b =
      let i = level_at r j in
      let changes = word_changes levels no_total w (omega arith) i x in
      record {
        made_stays = preserves_by changes (omega arith) g;
        tables = tables_by changes (omega arith) (omega arith);
        others = λ q h n. record {
          set_start = ap (λ l. get_or l q 0) (changes.others set_starts (omega arith) (omega arith));
          set_length = ap (λ l. get_or l q 0) (changes.others set_lengths (omega arith) (omega arith));
          handle = ap (λ l. get_or l q 0) (changes.others children (omega arith) (omega arith));
          body = ap (λ l. get_or l q 0) (changes.others bodies (omega arith) (omega arith));
          backedge = ap (λ l. get_or l q 0) (changes.others backedges (omega arith) (omega arith));
          target_answers = λ k h. word_apart w levels i x levels (level_at q k) (omega arith);
          slot = λ k h. bundles_same (changes.others bundles (omega arith) (omega arith)) (word w set_starts q + k);
        };
        same_kinds = λ q. ap (λ l. get_or l q 0) (changes.others kinds (omega arith) (omega arith));
        same_starts = λ q. ap (λ l. get_or l q 0) (changes.others set_starts (omega arith) (omega arith));
        same_head = λ q. ap (λ l. get_or l q 0) (section_other w levels i x head (omega arith));
      }

-- ---- Words of bundle p: no other bundle changes, and no region whose slot has it not.
pub record OnlyBundle (p : ℕ) (w w' : List ℕ) : Type 0 where
  pub changes : ChangesOnly bundles cases_at w w'
  pub same_head : section w' head ≡ section w head
  pub others : (q : ℕ) → (q ≡ p → ⊥) → SameBundle w w' q

module _ (w : List ℕ) (p : ℕ) where
  pub bundle_same : OnlyBundle p w w
  bundle_same = record { changes = nothing_changes bundles cases_at w; same_head = refl; others = λ q d. same_bundle w q }

  pub bundle_word_concerns : (i x : ℕ) → i < bundle_row_size → OnlyBundle p w (stored w bundles (bundle_word_at p i) x)
  bundle_word_concerns i x h =
      record {
        changes = word_changes bundles cases_at w (omega arith) (bundle_word_at p i) x;
        same_head = section_other w bundles (bundle_word_at p i) x head (omega arith);
        others = λ q d. record { words = λ j a. word_apart w bundles (bundle_word_at p i) x bundles (bundle_word_at q j) (omega arith) };
      }

  -- Up to seven words from its first on.
  pub bundle_run : (xs : List ℕ) → length xs ≤ 7 → OnlyBundle p w (stored_all w bundles (bundle_row_at p) xs)
  bundle_run xs h =
      record {
        changes = run_changes bundles cases_at w (omega arith) (bundle_row_at p) xs;
        same_head = run_other w bundles (bundle_row_at p) xs head (omega arith);
        others = λ q d. record {
          words = λ j a. rw (section_run w bundles (bundle_row_at p) xs) (elim (dec_lt q p) [
            | yes b ↦ run_before (section w bundles) (bundle_row_at p) xs (bundle_word_at q j) (omega arith)
            | no b ↦ run_behind (section w bundles) (bundle_row_at p) xs (bundle_word_at q j) (omega arith)
          ]);
        };
      }

module _ {p : ℕ} {w w' : List ℕ} (only : OnlyBundle p w w') where
  pub kept_bundle : (q : ℕ) → ((i : ℕ) → i < slot_size → word w set_starts q + i ≡ p → ⊥) → KeptRegion w w' q
  kept_bundle q d =
      let changes = only.changes in
      record {
        set_start = ap (λ l. get_or l q 0) (changes.others set_starts (omega arith) (omega arith));
        set_length = ap (λ l. get_or l q 0) (changes.others set_lengths (omega arith) (omega arith));
        handle = ap (λ l. get_or l q 0) (changes.others children (omega arith) (omega arith));
        body = ap (λ l. get_or l q 0) (changes.others bodies (omega arith) (omega arith));
        backedge = ap (λ l. get_or l q 0) (changes.others backedges (omega arith) (omega arith));
        target_answers = λ j h. ap (λ l. get_or l (level_at q j) 0) (changes.others levels (omega arith) (omega arith));
        slot = λ j h. only.others (word w set_starts q + j) (d j h);
      }

  -- A bundle of region r's own slot.
  pub bundle_concerns : (g : Graph) (r i : ℕ) → Slots (length g.regions) w → HasSlot (length g.regions) r → i < slot_size
      → p ≡ word w set_starts r + i → Concerns g r w w'
  bundle_concerns g r i slots a b e =
      let changes = only.changes in
      record {
        made_stays = preserves_by changes (omega arith) g;
        tables = tables_by changes (omega arith) (omega arith);
        others = λ q h d. kept_bundle q (λ j c z.
            let x = slots.starts q h in
            let y = slots.starts r a in
            d (slots.own q r h a (omega arith)));
        same_kinds = λ q. ap (λ l. get_or l q 0) (changes.others kinds (omega arith) (omega arith));
        same_starts = λ q. ap (λ l. get_or l q 0) (changes.others set_starts (omega arith) (omega arith));
        same_head = λ q. ap (λ l. get_or l q 0) only.same_head;
      }

-- ---- Steps together, of which region r alone is concerned; the tables may change.
pub record OnlyRegion (g : Graph) (r : ℕ) (w w' : List ℕ) : Type 0 where
  pub made_stays : PreservesMade g w w'
  pub others : (q : ℕ) → HasSlot (length g.regions) q → (q ≡ r → ⊥) → KeptRegion w w' q
  pub same_kinds : (q : ℕ) → q < length g.regions → region_kind w' q ≡ region_kind w q
  pub same_starts : (a : ℕ) → a < slot_count → word w' set_starts a ≡ word w set_starts a
  pub same_returned : (k : ℕ) → returned_at ≤ k → word w' head k ≡ word w head k

pub only_region_then : {g : Graph} {r : ℕ} {w w₁ w₂ : List ℕ} → OnlyRegion g r w w₁ → OnlyRegion g r w₁ w₂ → OnlyRegion g r w w₂
only_region_then a b =
    record {
      made_stays = preserves_then a.made_stays b.made_stays;
      others = λ q h d. kept_then (a.others q h d) (b.others q h d);
      same_kinds = λ q h. b.same_kinds q h ∙ a.same_kinds q h;
      same_starts = λ q h. b.same_starts q h ∙ a.same_starts q h;
      same_returned = λ k h. b.same_returned k h ∙ a.same_returned k h;
    }

pub only_region_aside : {g : Graph} (r : ℕ) {w w' : List ℕ} → Aside g w w' → OnlyRegion g r w w'
only_region_aside r a =
    record {
      made_stays = a.made_stays;
      others = λ q h d. a.regions q;
      same_kinds = a.states.same_kinds;
      same_starts = a.states.same_starts;
      same_returned = a.states.same_returned;
    }

pub only_region_concerns : {g : Graph} {r : ℕ} {w w' : List ℕ} → Concerns g r w w' → OnlyRegion g r w w'
only_region_concerns c =
    record {
      made_stays = c.made_stays;
      others = c.others;
      same_kinds = λ q h. c.same_kinds q;
      same_starts = λ q h. c.same_starts q;
      same_returned = λ k h. c.same_head k;
    }

-- A region that is not Ready shows nothing of its own.
pub only_region_states : {g : Graph} {r : ℕ} {w w' : List ℕ} → OnlyRegion g r w w' → length g.regions ≤ 32
    → (region_kind w r ≡ kind_ready → ⊥)
    → StatesStay g w w'
only_region_states {w} c few d =
    record {
      same_kinds = c.same_kinds;
      same_starts = c.same_starts;
      same_returned = c.same_returned;
      ready_kept = λ q h e. c.others q (omega arith) (λ z. d (ap (λ p. region_kind w p) (sym z) ∙ e));
    }

pub concerns_states : {g : Graph} {r : ℕ} {w w' : List ℕ} → Concerns g r w w' → length g.regions ≤ 32
    → (region_kind w r ≡ kind_ready → ⊥) → StatesStay g w w'
concerns_states c few d = only_region_states (only_region_concerns c) few d
