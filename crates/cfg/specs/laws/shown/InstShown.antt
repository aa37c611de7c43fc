-- What a terminator makes of its targets, for every state that the words show: the definition's by_control_inst, or its refusal.
use Rattle.std.specs.Prelude.{◌≡◌, Bool, true, false, List, [], ◌∷◌, ℕ, zero, suc, ◌+◌, ◌≤◌, ◌<◌, length, ltb}
use Rattle.std.proofs.Math.Path.{refl, ap}
use Rattle.std.proofs.Common.{sym, subst, ◌∙◌, arith}
use Rattle.std.proofs.Math.ListN.{get_or}
use Rattle.meaning.specs.Graph.{Graph, Value, Edge, Instr, region, edges_of, no_value, SelectionKind, bool_cond, number, exit_invocation}
use Rattle.meaning.specs.Graph.{branch, select_branch, return}
use Rattle.meaning.specs.Runs.{⟨⟩, ◌▸◌, exit}
use Rattle.meaning.specs.Lists.{All}
use Rattle.meaning.specs.facts.Tests.{clash}
use Rattle.format.specs.Valid.{Valid, ValidEnd}
use Rattle.fields.specs.ByNumber.{edge_of, end_values}
use Rattle.fields.specs.Shape.{value_is}
use Rattle.fields.specs.declared.shape.Value as shape
use Rattle.nesting.specs.Nesting.{NestState, Body, region_body, ClaimedRegion, MaybeClaimedRegion, ok, StepAnswer, done, turned_away}
use Rattle.nesting.specs.Nesting.{by_control_inst, blocks_of, blocks_from, append_maybe_claimed_region, define_node, add_node, most_nodes}
use Rattle.nesting.specs.Nesting.{join, edge_bundle, to_return, true_cond, most_nodes}
use Rattle.follows.specs.simulation.Invariant.{Inv}
use Rattle.follows.specs.counting.Totals.{edges_to, totals, edgeless}
use Rattle.state_words.specs.Sections.{word, stored, used, head, kinds, children, set_starts, set_lengths, bundles, levels, rewrites}
use Rattle.state_words.specs.laws.Apart.{section_other}
use Rattle.state_regions.specs.RegionTables.{target_answer}
use Rattle.state_words.specs.Totals.{Defines, defined}
use Rattle.state_words.specs.Values.{value_word}
use Rattle.std.specs.Prelude.{Ok}
use Rattle.state_words.specs.Totals.{Made, Done}
use Rattle.state_shown.specs.Front.{SameKinds}
use Rattle.state_shown.specs.laws.Stores.{ChangesOnly, head_changes}
use Rattle.state_shown.specs.laws.Steps.{node_defined}
use Rattle.state_shown.specs.Values as shown_values
use Rattle.state_shown.specs.Tables.{ShowsShape, shape_bool, shape_number}
use Rattle.state_shown.specs.laws.DefinedShown.{done_of, full_of}
use Rattle.state_shown.specs.Cells.{ShowsNodes, no_nodes, ShowsChildren}
use Rattle.state_shown.specs.States.{ShowsState, ShowsBody, no_case, HasSlot}
use Rattle.state_shown.specs.Kept.{PreservesMade, KeptRegion}
use Rattle.state_shown.specs.laws.RegionsKept.{preserves_same, preserves_then, kept_same, kept_then, claimed_stays, body_stays, set_stays}
use Rattle.state_shown.specs.laws.RegionSteps.{word_concerns, concerns_then, concerns_states, state_stays, state_next, children_set}
use Rattle.state_shown.specs.laws.RegionSteps.{named_by}
use Rattle.state_shown.specs.laws.RegionSteps.{length_set_to, aside_by, bundles_same}
use Rattle.state_shown.specs.laws.CellSteps.{blocks_added, exit_added, cell_aside, cell_tables, cell_handle, cell_total, cell_changes}
use Rattle.state_shown.specs.laws.SetStores.{OnlySets, only_same, only_then, only_total, only_preserves, only_word_same, word_other}
use Rattle.cfg_bundles.specs.EdgesAndCases.{cases_filled, filled_from, case_filled, padded_by, record_word, return_deferred}
use Rattle.cfg_bundles.specs.laws.paths.Paths.{padded_in}
use Rattle.format.proofs.laws.UndefinedTypes.{TypeRead}
use Rattle.fields.specs.laws.UndefinedTypes.{end_types_read}
use Rattle.cfg_bundles.specs.laws.shown.RecordValues.{usable_names, few_edges}
use Rattle.cfg_bundles.specs.laws.shown.Deferred.{return_deferred_only, return_deferred_kept, return_deferred_state, return_deferred_shown}
use Rattle.cfg_cases.specs.laws.CasesFilled as filling
use Rattle.cfg_cases.specs.laws.CasesFilled.{ShowsTargetRegion, filled_one, FilledCases, cases_filled_shown}
use Rattle.cfg_bundles.specs.laws.shown.Appended.{row_alone, append_shown}
use Rattle.cfg_select_nodes.specs.laws.shown.SelectsShown.{shows_value}
use Rattle.cfg_selects.specs.laws.shown.IntoShown.{into_shown}
use Rattle.cfg_regions.specs.ByInst as by_inst
use Rattle.cfg_regions.specs.ByInst.{AddsBlocks, no_blocks, some_blocks, AddsExit, exit_full, Branches, branches, Selects, selects}
use Rattle.cfg_regions.specs.ByInst.{ByTerminator, at_unreachable, at_return, at_exit, at_branch, at_bool, at_number, ByControlInst}
use Rattle.cfg_claims.proofs.laws.Left.{inst_kinds}
use Rattle.cfg.specs.laws.shown.Shows.{AnsweredAs, BodyShows, cells_in_all, chains_of, most_cells_in_all, owed_stays, refuses_body}
use Rattle.cfg.specs.laws.shown.Shows.{shows_body, was_claimed, was_deferred, was_nothing, world}
use Rattle.cfg.specs.laws.shown.SelectBodies.{edges_bound, into_body}
use Rattle.state_words.specs.Rows.{cases_at, cells_at, kind_claimed, kind_in_progress, kind_ready, largest, most_cells, nodes_at}
use Rattle.state_words.specs.Rows.{region_kind}
use Rattle.format.specs.Refusals.{too_many}

no_blocks_of : {g : Graph} {l : List ℕ} (n r k : ℕ) (bs : List (List Instr)) → length bs ≡ 0 → ShowsNodes g l 0 (blocks_from n r k bs)
no_blocks_of n r k [] e = no_nodes refl
no_blocks_of n r k (b ∷ bs) e = absurd (omega arith)

node_states : (s : NestState) {n : ℕ} {s₁ : NestState} → define_node s ≡ done n s₁ → s₁.region_states ≡ s.region_states
unfolding define_node
node_states s {n} {s₁} e = go (ltb s.node_count most_nodes) e
  where
    go : (b : Bool) → elim b [ true ↦ done s.node_count (add_node s) | false ↦ turned_away too_many 0 ] ≡ done n s₁
        → s₁.region_states ≡ s.region_states
    go true p = let z : add_node s ≡ s₁ = cc in rw (← z)
    go false p = absurd (clash (cc))

node_changes : {w w₁ : List ℕ} {n : ℕ} → Defines 1 most_nodes w w₁ (Ok n) → ChangesOnly head nodes_at w w₁
node_changes {w} (defined {n} p h e) = rw e (head_changes head nodes_at w (n + 1))

-- The cases filled: nothing but sets and the cases.
filled_only : (g : Graph) (r m j : ℕ) → j + m ≤ 8 → (w : List ℕ) → OnlySets w (filled_from g w r m j)
unfolding filled_from
filled_only g r zero j h w = only_same w
filled_only g r (suc m) j h w =
    only_then (filled_one g w r j (omega arith)).only (filled_only g r m (suc j) (omega arith) (case_filled g w r j))

cases_only : {g : Graph} → Valid g → {r : ℕ} → r < length g.regions → (w : List ℕ) → OnlySets w (cases_filled g w r)
cases_only {g} valid {r} here w =
    let n = length (edges_of (region g r).terminator) in
    only_then (only_total w n) (filled_only g r n 0 (let z = few_edges valid here in omega arith) (stored w head cases_at n))

-- How many edges a select has.
bool_edges : {g : Graph} → Valid g → {r : ℕ} → r < length g.regions → {v : Value} {es : List Edge}
    → (region g r).terminator ≡ select_branch bool_cond v es → length (edges_of (region g r).terminator) ≡ 2
bool_edges {g} valid {r} here {v} {es} is =
    let end : ValidEnd g r (select_branch bool_cond v es) = rw is at (valid.regions r here).terminator in
    ap (λ t. length (edges_of t)) is ∙ end.1.1

number_edges : {g : Graph} → Valid g → {r : ℕ} → r < length g.regions → {v : Value} {es : List Edge}
    → (region g r).terminator ≡ select_branch number v es → 1 ≤ length (edges_of (region g r).terminator)
number_edges {g} valid {r} here {v} {es} is =
    let end : ValidEnd g r (select_branch number v es) = rw is at (valid.regions r here).terminator in
    let same = ap (λ t. length (edges_of t)) is in
    let some = end.1.0 in
    omega arith

-- ---- Region r's blocks are its children, and its set is empty.
record PreparedInst (g : Graph) (r : ℕ) (w w₂ : List ℕ) (s : NestState) : Type 0 where
  state : ShowsState g w₂ s
  body : ShowsBody g w₂ r (region_body (blocks_of g r) [])
  made_stays : PreservesMade g w w₂
  kept : (q : ℕ) → HasSlot (length g.regions) q → (q ≡ r → ⊥) → KeptRegion w w₂ q
  same_kinds : (q : ℕ) → region_kind w₂ q ≡ region_kind w q
  target_answers : (j : ℕ) → target_answer w₂ r j ≡ target_answer w r j
  total : word w₂ head cells_at ≤ word w head cells_at + 1

module _ {g : Graph} (few : length g.regions ≤ 32) {r : ℕ} (here : r < length g.regions) where
  list_stored : {w : List ℕ} {s : NestState} → ShowsState g w s → (region_kind w r ≡ kind_ready → ⊥) → {h : ℕ}
      → ShowsChildren g w h (blocks_of g r) → PreparedInst g r w (stored (stored w children r h) set_lengths r 0) s
  unfolding target_answer
  list_stored {w} {s} state unready {h} list =
      let room = state.tables.size in
      let w₁ = stored w children r h in
      let a = word_concerns g w children (omega arith) r h in
      let b = word_concerns g w₁ set_lengths (omega arith) r 0 in
      let c = concerns_then a b in
      let room₁ = a.tables.words in
      let at = state.slots.starts r (omega arith) in
      let in_slots = state.slots.below r (omega arith) in
      let start = a.same_starts r in
      let cells = c.same_head cells_at in
      record {
        state = state_stays c.made_stays (concerns_states c few unready) c.tables state;
        body = record {
          nodes = rw (word_other w₁ set_lengths r 0 children (omega arith) r)
              (b.made_stays.nodes_stay (children_set g w room r (omega arith) list));
          set = length_set_to g w₁ (omega arith) r (omega arith)
              record {
                size = refl;
                few = omega arith;
                room = omega arith;
                each = λ i l. absurd (omega arith);
                apart = λ i k p q. absurd (omega arith);
              };
        };
        made_stays = c.made_stays;
        kept = c.others;
        same_kinds = c.same_kinds;
        target_answers = λ j. rw (section_other w₁ set_lengths r 0 levels (omega arith), section_other w children r h levels (omega arith));
        total = omega arith;
      }

  prepared : {w w₁ w₂ : List ℕ} {s : NestState} → AddsBlocks g w r w₁ → w₂ ≡ stored w₁ set_lengths r 0 → ShowsState g w s
      → (region_kind w r ≡ kind_ready → ⊥) → 1 ≤ word w head cells_at → word w head cells_at < most_cells → PreparedInst g r w w₂ s
  unfolding target_answer
  prepared (no_blocks z e) f state unready one free =
      rw (f, e) (list_stored state unready (record { nodes = no_blocks_of _ r 0 (region g r).blocks z; made = one }))
  prepared (some_blocks {w₁} {h} d x e) f state unready one free =
      let room = state.tables.size in
      let c = cell_aside x free room g in
      let st = state_stays c.made_stays c.states (cell_tables x free room) state in
      let p = list_stored st (λ k. unready (sym (c.states.same_kinds r here) ∙ k)) (blocks_added free room x one (omega arith)) in
      let handle = cell_handle x free room in
      let cells = cell_total x free room in
      let first = (word_concerns g w₁ children (omega arith) r h).same_head cells_at in
      let last = (word_concerns g (stored w₁ children r h) set_lengths (omega arith) r 0).same_head cells_at in
      let changes = cell_changes x free room in
      rw (f, e)
      record {
        state = p.state;
        body = p.body;
        made_stays = preserves_then c.made_stays p.made_stays;
        kept = λ q l k. kept_then (c.regions q) (p.kept q l k);
        same_kinds = λ q. p.same_kinds q ∙ ap (λ l. get_or l q 0) (changes.others kinds (omega arith) (omega arith));
        target_answers = λ j. p.target_answers j ∙ rw (changes.others levels (omega arith) (omega arith));
        total = omega arith;
      }

  -- How the targets were answered, then.
  target_region_on : {w w₂ : List ℕ} {s : NestState} → PreparedInst g r w w₂ s → {j : ℕ} {m : MaybeClaimedRegion}
      → ((c : ClaimedRegion) → m ≡ ok c → c.origin ≡ r → ⊥) → AnsweredAs g w r j (edge_of g r j) m → ShowsTargetRegion g w₂ r j m
  target_region_on p {j} other (was_claimed {c} e t cl o i) =
      let in_graph = cl.in_graph in
      rw e
      (filling.was_claimed (p.target_answers j ∙ t)
      (claimed_stays p.made_stays (p.kept c.origin (omega arith) (other c e)) (p.same_kinds c.origin) cl) o i)
  target_region_on p {j} other (was_deferred e t) = filling.was_deferred (p.target_answers j ∙ t) e
  target_region_on p {j} other (was_nothing e t) = rw e (filling.was_nothing (p.target_answers j ∙ t))

  was_three : {w : List ℕ} {j : ℕ} {m : MaybeClaimedRegion} → AnsweredAs g w r j (edge_of g r j) m → (c : ClaimedRegion) → m ≡ ok c
      → region_kind w c.origin ≡ kind_claimed
  was_three (was_claimed {c} e t cl o i) d f = let same : c ≡ d = cc in rw (← same) cl.kind
  was_three (was_deferred e t) d f = absurd (clash (cc))
  was_three (was_nothing e t) d f = absurd (clash (cc))

  done_body : {w w₂ w' : List ℕ} {s s' : NestState} {cs : List MaybeClaimedRegion} {b : StepAnswer Body} {x : Body}
      → PreparedInst g r w w₂ s
      → b ≡ done x s' → ShowsState g w' s' → ShowsBody g w' r x → PreservesMade g w₂ w'
      → ((q : ℕ) → q < length g.regions → (q ≡ r → ⊥)
      → ((j : ℕ) (c : ClaimedRegion) → j < length cs → get_or cs j no_case ≡ ok c → q ≡ c.origin → ⊥) → KeptRegion w₂ w' q)
      → SameKinds w w' → word w' head cells_at ≤ word w head cells_at + 11 → BodyShows g w w' r cs 11 b Done
  done_body {w} {w'} {s'} {x} p is state body made_stays kept same room =
      let owed = owed_stays g w w' (λ q h. ap (λ l. get_or l q 0) same.kinds_words) in
      shows_body {x = x} {s' = s'} is state body
      (record {
        made_stays = preserves_then p.made_stays made_stays;
        kinds_stay = λ q h. ap (λ l. get_or l q 0) same.kinds_words;
        regions_stay = λ q l d f h. kept_then (p.kept q (omega arith) d) (kept q l d f);
      }) (omega arith)

  -- ---- By the terminator's kind.
  module _ {w w₂ : List ℕ} {s : NestState} (p : PreparedInst g r w w₂ s) (busy : region_kind w r ≡ kind_in_progress)
      (most : word w head cells_at ≤ most_cells_in_all) where
    unready : region_kind w₂ r ≡ kind_ready → ⊥
    unready e = let z = p.same_kinds r in omega arith

    room : used ≤ length w₂
    room = p.state.tables.size

    at_return_shown : Valid g → {cs : List MaybeClaimedRegion} {vs : List Value} → (region g r).terminator ≡ return vs
        → SameKinds w (return_deferred g w₂ r)
        → BodyShows g w (return_deferred g w₂ r) r cs 11 (by_control_inst g (blocks_of g r) (region g r).terminator cs s) Done
    at_return_shown valid {cs} {vs} e same =
        let slots = p.state.slots in
        let only = return_deferred_only g w₂ r room (omega arith) slots in
        let cells = only.totals cells_at (omega arith) in
        let more = p.total in
        done_body {x = region_body (blocks_of g r) (edge_bundle to_return 0 vs true_cond ∷ [])} p
        (ap (λ t. by_control_inst g (blocks_of g r) t cs s) e)
        (return_deferred_state g w₂ r room (omega arith) slots few unready p.state)
        (record {
          nodes = rw (only_word_same only children (omega arith) r) ((only_preserves only g).nodes_stay p.body.nodes);
          set = return_deferred_shown g w₂ r room (omega arith) slots valid p.state.stands here e;
        })
        (only_preserves only g) (λ q l d f. return_deferred_kept g w₂ r room (omega arith) slots q (omega arith) d) same (omega arith)

    exit_of : (op : ℕ) (vs : List Value) (cs : List MaybeClaimedRegion) {n : ℕ} {s₁ : NestState} → define_node s ≡ done n s₁
        → by_control_inst g (blocks_of g r) (exit_invocation op vs) cs s ≡
        done (region_body (join (blocks_of g r) (exit n op vs ▸ ⟨⟩)) []) s₁
    exit_of op vs cs e = rw e

    exit_refused : (op : ℕ) (vs : List Value) (cs : List MaybeClaimedRegion) → define_node s ≡ turned_away too_many 0
        → by_control_inst g (blocks_of g r) (exit_invocation op vs) cs s ≡ turned_away too_many 0
    exit_refused op vs cs e = rw e

    at_exit_shown : {w' : List ℕ} {a : Made} {cs : List MaybeClaimedRegion} {op : ℕ} {vs : List Value}
        → (region g r).terminator ≡ exit_invocation op vs → AddsExit w₂ r w' a → SameKinds w w'
        → BodyShows g w w' r cs 11 (by_control_inst g (blocks_of g r) (region g r).terminator cs s) a
    at_exit_shown {cs} {op} {vs} e (exit_full d) same =
        refuses_body (ap (λ t. by_control_inst g (blocks_of g r) t cs s) e
        ∙ exit_refused op vs cs (full_of (node_defined p.state.tables d) refl))
    at_exit_shown {cs} {op} {vs} e (by_inst.exit_added {w₁} {w₂ = w₄} {node} {h} d x f) same =
        let u = done_of (node_defined p.state.tables d) refl in
        let changes = node_changes d in
        let c₃ = aside_by changes (omega arith) (omega arith) (omega arith) (omega arith) g in
        let re = changes.others rewrites (omega arith) (omega arith) in
        let st₃ : ShowsState g w₁ u.state = state_next c₃.made_stays c₃.states u.tables
        (named_by re p.state.named)
        (node_states s u.is) p.state in
        let body₃ = body_stays c₃.made_stays (c₃.regions r) p.body in
        let room₃ = st₃.tables.size in
        let cells₃ = changes.totals cells_at (omega arith) in
        let more = p.total in
        let free₃ : word w₁ head cells_at < most_cells = omega arith in
        let c₄ = cell_aside x free₃ room₃ g in
        let st₄ = state_stays c₄.made_stays c₄.states (cell_tables x free₃ room₃) st₃ in
        let list = exit_added free₃ room₃ x body₃.nodes e in
        let body₄ = body_stays c₄.made_stays (c₄.regions r) body₃ in
        let room₄ = st₄.tables.size in
        let handle₄ = cell_handle x free₃ room₃ in
        let cells₄ = cell_total x free₃ room₃ in
        let c₅ = word_concerns g w₄ children (omega arith) r h in
        let cells₅ = c₅.same_head cells_at in
        let unready₄ : region_kind w₄ r ≡ kind_ready → ⊥ =
        λ z. unready (sym (c₃.states.same_kinds r here) ∙ sym (c₄.states.same_kinds r here) ∙ z) in
        let node_is : node ≡ u.value = u.shows in
        rw f
        (done_body {x = region_body (join (blocks_of g r) (exit u.value op vs ▸ ⟨⟩)) []} p
        (ap (λ t. by_control_inst g (blocks_of g r) t cs s) e ∙ exit_of op vs cs u.is)
        (state_stays c₅.made_stays (concerns_states c₅ few unready₄) c₅.tables st₄)
        (record {
          nodes = rw (← node_is) (children_set g w₄ room₄ r (omega arith) list);
          set = rw (word_other w₄ children r h set_starts (omega arith) r, word_other w₄ children r h set_lengths (omega arith) r)
              (set_stays c₅.made_stays (λ i b. bundles_same (section_other w₄ children r h bundles (omega arith)) _) body₄.set);
        })
        (preserves_then c₃.made_stays (preserves_then c₄.made_stays c₅.made_stays))
        (λ q l d f. kept_then (c₃.regions q) (kept_then (c₄.regions q) (c₅.others q (omega arith) d))) (rw f at same) (omega arith))

    -- With the cases filled.
    module _ (valid : Valid g) (cs : List MaybeClaimedRegion) (size : length cs ≡ length (edges_of (region g r).terminator))
        (each : (k : ℕ) → k < length (edges_of (region g r).terminator) → AnsweredAs g w r k (edge_of g r k) (get_or cs k no_case))
        (other : (k : ℕ) (c : ClaimedRegion) → get_or cs k no_case ≡ ok c → c.origin ≡ r → ⊥)
        (apart : (i j : ℕ) (c d : ClaimedRegion) → i < j → get_or cs i no_case ≡ ok c → get_or cs j no_case ≡ ok d → c.origin ≡ d.origin → ⊥)
      where
        abbrev w₃ : List ℕ
        w₃ = cases_filled g w₂ r

        filled : FilledCases g w₂ w₃ s r cs
        filled = cases_filled_shown valid here cs size p.state (λ k h. target_region_on p (other k) (each k (omega arith)))
            (λ i j l h c d. apart i j c d l)

        same_kinds₃ : (q : ℕ) → region_kind w₃ q ≡ region_kind w q
        same_kinds₃ q = only_word_same (cases_only valid here w₂) kinds (omega arith) q ∙ p.same_kinds q

        cells₃ : word w₃ head cells_at ≡ word w₂ head cells_at
        cells₃ = (cases_only valid here w₂).totals cells_at (omega arith)

        unready₃ : region_kind w₃ r ≡ kind_ready → ⊥
        unready₃ e = let z = same_kinds₃ r in omega arith

        nodes₃ : ShowsChildren g w₃ (word w₃ children r) (blocks_of g r)
        nodes₃ = (body_stays filled.made_stays (filled.kept r (omega arith)) p.body).nodes

        claimed₃ : (j : ℕ) → j < length cs → (c : ClaimedRegion) → get_or cs j no_case ≡ ok c
            → (region_kind w₃ c.origin ≡ kind_claimed) × (c.origin ≡ r → ⊥)
        claimed₃ j h c e = (same_kinds₃ c.origin ∙ was_three (each j (omega arith)) c e, other j c e)

        first_case : (e : Edge) (xs : List MaybeClaimedRegion) → length xs ≡ 1
            → by_control_inst g (blocks_of g r) (branch e) xs s ≡ append_maybe_claimed_region (blocks_of g r) (get_or xs 0 no_case) s
        first_case e [] h = absurd (omega arith)
        first_case e (x ∷ xs) h = refl

        at_branch_shown : {w' : List ℕ} {a : Made} {e : Edge} → (region g r).terminator ≡ branch e → Branches g w₂ r w' a → SameKinds w w'
            → BodyShows g w w' r cs 11 (by_control_inst g (blocks_of g r) (region g r).terminator cs s) a
        at_branch_shown {e} is (branches x) same =
            let one : length cs ≡ 1 = size ∙ ap (λ t. length (edges_of t)) is in
            let in_list : 0 < length cs = omega arith in
            let shown = filled.cases_shown in
            let same_cells = cells₃ in
            let more = p.total in
            let o = append_shown few here filled.state unready₃ nodes₃ (omega arith)
            (row_alone filled.state.slots (omega arith) (record { case = shown.each 0 in_list; set = shown.sets 0 in_list })
            (λ c f. claimed₃ 0 in_list c f)) x in
            let last = o.cells_to in
            done_body {x = o.result} p (ap (λ t. by_control_inst g (blocks_of g r) t cs s) is ∙ first_case e cs one ∙ o.is) o.state
            o.body
            (preserves_then filled.made_stays o.made_stays)
            (λ q l d f. kept_then (filled.kept q (omega arith)) (o.kept q (omega arith) d (λ c h. f 0 c in_list h))) same (omega arith)

        module _ (inv : Inv (world g valid) s) (bound : (q : ℕ) → totals (edges_to q) cs ≤ largest)
            (none : totals edgeless cs ≡ 0) {kind : SelectionKind} {v : Value} {es : List Edge}
            (is : (region g r).terminator ≡ select_branch kind v es) where
          value_shown : (x : shape.Value) → value_is x ≡ get_or (end_values g r) 0 no_value → shown_values.value (value_word x) ≡ v
          unfolding padded_by
          value_shown x e =
              let end : ValidEnd g r (select_branch kind v es) = rw is at (valid.regions r here).terminator in
              let types : All TypeRead (v ∷ []) = rw is at (end_types_read p.state.stands r) in
              let same : value_word x ≡ record_word v = padded_in 1 (v ∷ []) 0 (omega arith) x refl (rw is at e) in
              rw same (usable_names valid here v end.0 types.0).is

          at_select_shown : {k : ℕ} → ShowsShape k (length cs) kind → {w' : List ℕ} {a : Made} → Selects g w₂ r k w' a → SameKinds w w'
              → BodyShows g w w' r cs 11 (by_control_inst g (blocks_of g r) (region g r).terminator cs s) a
          at_select_shown shape {w'} {a} (selects x e m) same =
              let eight = few_edges valid here in
              let same_cells = cells₃ in
              let more = p.total in
              subst (λ t. BodyShows g w w' r cs 11 (by_control_inst g (blocks_of g r) t cs s) a) (sym is)
              (into_body (preserves_then p.made_stays filled.made_stays)
              (λ q l d. kept_then (p.kept q (omega arith) d) (filled.kept q (omega arith))) same
              (omega arith)
              (into_shown valid here filled.state filled.cases_shown (record { parent = unready₃; claimed = claimed₃ })
              (chains_of g valid inv) (edges_bound s cs bound none) (shows_value (value_shown x e)) shape nodes₃ (omega arith) m))

module _ (g : Graph) (valid : Valid g) (few : length g.regions ≤ 32) where
  pub inst_shown : {w w' : List ℕ} {r : ℕ} {a : Made} → ByControlInst g w r w' a → (s : NestState) (cs : List MaybeClaimedRegion)
      → ShowsState g w s → cells_in_all g w ≤ most_cells_in_all → r < length g.regions → region_kind w r ≡ kind_in_progress
      → length cs ≡ length (edges_of (region g r).terminator)
      → ((k : ℕ) → k < length (edges_of (region g r).terminator) → AnsweredAs g w r k (edge_of g r k) (get_or cs k no_case))
      → ((k : ℕ) (c : ClaimedRegion) → get_or cs k no_case ≡ ok c → c.origin ≡ r → ⊥)
      → ((i j : ℕ) (c d : ClaimedRegion) → i < j → get_or cs i no_case ≡ ok c → get_or cs j no_case ≡ ok d → c.origin ≡ d.origin → ⊥)
      → Inv (world g valid) s → ((q : ℕ) → totals (edges_to q) cs ≤ largest) → totals edgeless cs ≡ 0
      → BodyShows g w w' r cs 11 (by_control_inst g (blocks_of g r) (region g r).terminator cs s) a
  inst_shown {w} {w'} {r} (by_inst.by_inst {w₂} blocks empty end) s cs state room here busy size each other apart inv bound none =
      let p = prepared few here blocks empty state (omega arith) (omega arith) (omega arith) in
      by p end (inst_kinds (by_inst.by_inst blocks empty end))
    where
      by : {a : Made} → PreparedInst g r w w₂ s → ByTerminator g w₂ r w' a → SameKinds w w'
          → BodyShows g w w' r cs 11 (by_control_inst g (blocks_of g r) (region g r).terminator cs s) a
      by p (at_unreachable e f) same =
          let more = p.total in
          rw f
          (done_body few here {x = region_body (blocks_of g r) []} p (ap (λ t. by_control_inst g (blocks_of g r) t cs s) (sym e)) p.state
          p.body (preserves_same g w₂) (λ q l d h. kept_same w₂ q) (rw f at same) (omega arith))
      by p (at_return e f) same = rw f (at_return_shown few here p busy (omega arith) valid (sym e) (rw f at same))
      by p (at_exit e x) same = at_exit_shown few here p busy (omega arith) (sym e) x same
      by p (at_branch e x) same = at_branch_shown few here p busy (omega arith) valid cs size each other apart (sym e) x same
      by p (at_bool e x) same =
          at_select_shown few here p busy (omega arith) valid cs size each other apart inv bound none (sym e)
          (shape_bool refl (size ∙ bool_edges valid here (sym e))) x same
      by p (at_number e x) same =
          at_select_shown few here p busy (omega arith) valid cs size each other apart inv bound none (sym e)
          (shape_number (number_edges valid here (sym e)) (few_edges valid here) size) x same
