-- A claimed region with a back edge, made a loop by the code: the answer and the words show what the definition's structurize_loop gives.
use Rattle.std.specs.Prelude.{◌≡◌, refl, Bool, true, false, List, [], ◌∷◌, ℕ, zero, suc, ◌+◌, ◌-◌, ◌≤◌, ◌<◌, length, get_or, ltb}
use Rattle.std.proofs.Common.{sym, ap, ◌∙◌, subst, arith, eq-eqb, ne_eqb}
use Rattle.std.proofs.Math.Option.{Option, some}
use Rattle.std.proofs.Math.Decide.{ℕ_discrete}
use Rattle.meaning.specs.Graph.{Value, Graph, region, undef}
use Rattle.meaning.specs.Runs.{Nodes, ⟨⟩, ◌▸◌, loop}
use Rattle.meaning.specs.Lists.{All, is_in, pick}
use Rattle.meaning.specs.facts.Elements.{all_at, all_take, all_get_d}
use Rattle.meaning.specs.facts.Tests.{clash}
use Rattle.nesting.specs.Nesting as nesting
use Rattle.nesting.specs.Nesting.{DeferredEdgeBundle, DeferredEdgeBundleSet, DeferredTarget, to_region, same_target, fill_gap}
use Rattle.nesting.specs.Nesting.{split_out_target, LazyCond, NestState, StepAnswer, done, turned_away, define_region, rewrite_values}
use Rattle.nesting.specs.Nesting.{ClaimedRegion, LoopInputs, no_inputs, take_inputs, loop_node, structurize_loop, most_regions}
use Rattle.nesting.specs.Nesting.{most_regions, exit_targets}
use Rattle.nesting.proofs.steps.Keeps.{loop_claimed, claim_body_keeps}
use Rattle.nesting.specs.steps.Post.{Post}
use Rattle.nesting.specs.steps.StatesKept.{KeepsStates}
use Rattle.nesting.proofs.steps.StatesSteady.{states_kept_steady, states_kept_log}
use Rattle.nesting.specs.lookups.ChainEnds.{ChainsEnd}
use Rattle.record.specs.Stands.{OfRecord}
use Rattle.std.specs.Prelude.{Ok}
use Rattle.state_words.specs.Totals.{Defined, Made, Done, Full}
use Rattle.state_words.specs.Sections as sections
use Rattle.state_words.specs.Sections.{Section, number, used, word, stored, head, children, bodies, rewrites, set_starts}
use Rattle.state_words.specs.Sections.{set_lengths}
use Rattle.state_words.specs.laws.Apart.{section_other}
use Rattle.state_words.specs.Totals.{Defines, defined, full}
use Rattle.state_sets.specs.SetTables.{bundle_at, bundle_words, bundle_copied, swap_removed, input_word}
use Rattle.state_shown.specs.Values.{value}
use Rattle.state_shown.specs.Tables.{ShowsCondition, shows_true, ShowsTables, Done as Defines_done}
use Rattle.state_shown.specs.laws.DefinedShown.{done_of, full_of}
use Rattle.state_shown.specs.laws.Steps.{region_defined}
use Rattle.state_shown.specs.laws.Elsewhere.{tables_stay}
use Rattle.state_shown.specs.laws.FrontKept.{stands_on}
use Rattle.state_shown.specs.Sets.{ShowsBundle, ShowsSet, no_bundle, target_size}
use Rattle.state_shown.specs.Cells.{ShowsChildren}
use Rattle.state_shown.specs.States.{ShowsOwnSet, Slots, NamedRewrites, ShowsState, ShowsClaimed, HasSlot}
use Rattle.state_shown.specs.laws.RegionsKept.{own_set_stays, children_stay}
use Rattle.state_shown.specs.laws.SetSteps.{swap_removed_only, swap_removed_set}
use Rattle.state_shown.specs.laws.Finds.{targets_tell}
use Rattle.state_shown.specs.laws.SetStores.{only_word_same}
use Rattle.state_shown.specs.laws.RegionSteps.{Concerns, concerns_then, word_concerns, bundle_same, bundle_run, bundle_concerns, aside_by}
use Rattle.state_shown.specs.laws.RegionSteps.{named_by, named_stay, slots_stay, OnlyRegion, only_region_then, only_region_aside}
use Rattle.state_shown.specs.laws.RegionSteps.{only_region_concerns, only_region_states, state_next, body_set}
use Rattle.cfg_bundles.specs.EdgesAndCases.{condition_in}
use Rattle.cfg_loops.specs.Inputs.{backedge_inputs}
use Rattle.cfg_loops.specs.Exits.{exits_added}
use Rattle.cfg_loops.specs.Loops.{EntersInputs, LoopDefined, StructurizesLoop, looped, no_wrapper, no_loop}
use Rattle.cfg_loops.specs.laws.shown.ExitsShown.{ExitsCounted, exits_shown}
use Rattle.cfg_loops.specs.laws.shown.LoopsShown.{InputsEntered, inputs_entered, entered_state, LoopWithin, ShowsLoopMade, made_done}
use Rattle.cfg_loops.specs.laws.shown.LoopsShown.{made_refused, loop_step, loop_made_shown, defines_changes, set_beside}
use Rattle.format.specs.Refusals.{too_many}
use Rattle.state_words.specs.Rows.{bundle_input, cells_at, kind_claimed, largest, most_cells, region_kind, slot_size, return_word}

-- ---- The back edge leaves region r's set: nothing of another region changes.
pub removed_concerns : (g : Graph) (w : List ℕ) (r i p : ℕ) → Slots (length g.regions) w → HasSlot (length g.regions) r
    → i < slot_size
    → p ≡ word w set_starts r + i → Concerns g r w (swap_removed w r p)
unfolding swap_removed
removed_concerns g w r i p slots a b e =
    let n = word w set_lengths r in
    let last = bundle_at (word w set_starts r) (n - 1) in
    elim (ℕ_discrete n 0) [
      | yes f ↦ rw (eq-eqb n 0 f) (bundle_concerns (bundle_same w p) g r i slots a b e)
      | no f ↦ rw (ne_eqb n 0 f)
          (concerns_then (bundle_concerns (bundle_run w p (bundle_words w last) (omega arith)) g r i slots a b e)
          (word_concerns g (bundle_copied w p last) set_lengths (omega arith) r (n - 1)))
    ]

-- ---- What is left of a set has no other bundles.
module _ (P : DeferredEdgeBundle → Type 0) where
  all_fill : (es : DeferredEdgeBundleSet) → All P es → All P (fill_gap es)
  all_fill [] a = a
  all_fill (x ∷ xs) a = (all_get_d P x a.0 (x ∷ xs) a (length xs), all_take P (length xs) (x ∷ xs) a)

  all_split : (t : DeferredTarget) (d : DeferredEdgeBundleSet) → All P d → All P (split_out_target t d)
  all_split t [] a = a
  all_split t (e ∷ es) a = go (same_target t e.target) (all_split t es a.1)
    where
      go : (b : Bool) → All P (split_out_target t es) → All P (pick b (fill_gap es) (e ∷ split_out_target t es))
      go true rest = all_fill es a.1
      go false rest = (a.0, rest)

-- No bundle before another goes to its target.
other_target : {g : Graph} {w : List ℕ} {start n : ℕ} {d : DeferredEdgeBundleSet} {i j : ℕ} → length g.regions ≤ 32
    → ShowsSet g w start n d → i < n → j < i → same_target (get_or d i no_bundle).target (get_or d j no_bundle).target ≡ false
other_target {i} {j} few x h b =
    sym (targets_tell few (x.each i h).target (x.each j (omega arith)).target) ∙ ne_eqb _ _ (x.apart j i b h)

-- A word of Return is in no exit list.
no_return_exit : (n : ℕ) (xs : List ℕ) → n ≤ 32 → All (λ t. t < n) xs → is_in return_word xs ≡ false
no_return_exit n [] h a = refl
no_return_exit n (t ∷ xs) h a = let b = a.0 in rw (ne_eqb return_word t (omega arith)) (no_return_exit n xs h a.1)

-- ---- The condition of the back edge in its set, and the values that it passes.
condition_shown : {g : Graph} {w : List ℕ} {p n : ℕ} (d : DeferredEdgeBundleSet) {e : DeferredEdgeBundle} → n ≡ length d
    → ShowsBundle g w p e → ShowsCondition w (condition_in w p n) (nesting.condition_in d e)
unfolding condition_in
condition_shown {w} {p} {n} d {e} size x =
    elim (ℕ_discrete n 1) [
      | yes one ↦ rw (eq-eqb n 1 one, eq-eqb (length d) 1 (sym size ∙ one)) (record { tree = shows_true refl; made = omega arith })
      | no more ↦ rw (ne_eqb n 1 more, ne_eqb (length d) 1 (λ z. more (size ∙ z))) x.condition
    ]

passed_word : (w : List ℕ) (p j : ℕ) → j < 4 → get_or (backedge_inputs w p) j 0 ≡ bundle_input w p j
unfolding input_word
passed_word w p zero h = refl
passed_word w p (suc zero) h = refl
passed_word w p (suc (suc zero)) h = refl
passed_word w p (suc (suc (suc zero))) h = refl
passed_word w p (suc (suc (suc (suc j)))) h = absurd (omega arith)

-- ---- What a definition leaves of the state.
abbrev log_of : {A : Type 0} → StepAnswer A → NestState → NestState
log_of (done a s) z = s
log_of (turned_away n w) z = z

region_log : (s : NestState) {n : ℕ} {s₁ : NestState} → define_region s ≡ done n s₁ → s₁.region_input_rewrites ≡ s.region_input_rewrites
unfolding define_region
region_log s {n} {s₁} e = go (ltb s.region_count most_regions) e
  where
    go : (b : Bool) → elim b [ true ↦ done s.region_count (nesting.add_region s) | false ↦ turned_away too_many 0 ] ≡ done n s₁
        → s₁.region_input_rewrites ≡ s.region_input_rewrites
    go true q = ap (λ z. (log_of z s).region_input_rewrites) (sym q)
    go false q = absurd (clash (cc))

defined_below : {i limit n : ℕ} {l l' : List ℕ} {a : Defined} → Defines i limit l l' a → a ≡ Ok n → n < limit
defined_below {n} (defined {n = m} p h e) q = let same : m ≡ n = cc in rw same at h
defined_below (full h e) q = absurd (clash (cc))

-- ---- The definition's steps, as far as the wrapper and the look-ups.
loop_steps : (g : Graph) (r : ℕ) (ks : Nodes) (e : DeferredEdgeBundle) (t : LazyCond) (exits : DeferredEdgeBundleSet) (inputs : List Value)
    (s : NestState) {wrapper : ℕ} {s₁ s₂ : NestState} {vs : List Value} → define_region s ≡ done wrapper s₁
    → rewrite_values e.target_inputs s₁ ≡ done vs s₂
    → structurize_loop g r ks e t exits inputs s
    ≡ loop_step t (λ v n. some (loop_claimed g r ks exits inputs wrapper vs v n)) (entered_state g r wrapper vs s₂)
unfolding structurize_loop
loop_steps g r ks e t exits inputs s p q = rw (p, q)

-- ---- What the code answers, and what the definition gives.
pub data ShowsLoop (g : Graph) (w : List ℕ) (r : ℕ) (inputs : List Value) (s : NestState) : Made → StepAnswer (Option ClaimedRegion)
    → Type 0 where
  shows_loop : {c : ClaimedRegion} {s' : NestState} → ShowsState g w s' → s'.region_states ≡ s.region_states → ShowsClaimed g w c
      → c.origin ≡ r → c.structured_body_inputs ≡ inputs → ShowsLoop g w r inputs s Done (done (some c) s')
  loop_refused : ShowsLoop g w r inputs s Full (turned_away too_many 0)

pub record LoopShown (g : Graph) (r : ℕ) (inputs : List Value) (w w' : List ℕ) (s : NestState) (a : Made)
    (b : StepAnswer (Option ClaimedRegion)) : Type 0 where
  pub answer : ShowsLoop g w' r inputs s a b
  pub within : OnlyRegion g r w w'
  pub total_from : word w head cells_at ≤ word w' head cells_at
  pub total_to : word w' head cells_at ≤ word w head cells_at + 5

-- A made loop taken apart by what the code answered.
record LoopMade {A : Type 0} (F : Value → ℕ → A) (g : Graph) (r : ℕ) (l : List ℕ) (y : LoopInputs) (ks : Nodes) (b : StepAnswer A)
    : Type 0 where
  v : Value
  n : ℕ
  state : NestState
  is : b ≡ done (F v n) state
  tables : ShowsTables l state
  nodes : ShowsChildren g l (word l children r) (loop (loop_node g n r y v) ks ▸ ⟨⟩)

made_of : {A : Type 0} {F : Value → ℕ → A} {g : Graph} {r : ℕ} {l : List ℕ} {y : LoopInputs} {ks : Nodes} {a : Made} {b : StepAnswer A}
    → ShowsLoopMade F g r l y ks a b → a ≡ Done → LoopMade F g r l y ks b
made_of (made_done {v} {n} {s} t k) e = record { v = v; n = n; state = s; is = refl; tables = t; nodes = k }
made_of made_refused e = absurd (clash (cc))

refused_of : {A : Type 0} {F : Value → ℕ → A} {g : Graph} {r : ℕ} {l : List ℕ} {y : LoopInputs} {ks : Nodes} {a : Made} {b : StepAnswer A}
    → ShowsLoopMade F g r l y ks a b → a ≡ Full → b ≡ turned_away too_many 0
refused_of (made_done t k) e = absurd (clash (cc))
refused_of made_refused e = refl

-- Region r is claimed, with these children and this set, and its set has the back edge e at place i, bundle p.
pub record ClaimedLoop (g : Graph) (w : List ℕ) (s : NestState) (r p i : ℕ) (ks : Nodes) (d : DeferredEdgeBundleSet)
    (e : DeferredEdgeBundle) (inputs : List Value) : Type 0 where
  pub few : length g.regions ≤ 32
  pub shown : ShowsState g w s
  pub in_graph : r < length g.regions
  pub claimed : region_kind w r ≡ kind_claimed
  pub nodes : ShowsChildren g w (word w children r) ks
  pub set : ShowsOwnSet g w r d
  pub place : i < length d
  pub bundle_at_place : p ≡ word w set_starts r + i
  pub backedge : get_or d i no_bundle ≡ e
  pub target : e.target ≡ to_region r
  pub free : word w head cells_at + 5 ≤ most_cells
  pub cell_zero : 1 ≤ word w head cells_at
  pub chains : (q : ℕ) → ChainsEnd s.region_input_rewrites q
  pub counts : All (λ y. y.accumulated_count < largest) d
  pub exits_below : All (λ t. t < length g.regions) (exit_targets g r)
  pub given : length inputs ≡ length (region g r).inputs

module _ {g : Graph} {w : List ℕ} {s : NestState} {r p i : ℕ} {ks : Nodes} {d : DeferredEdgeBundleSet} {e : DeferredEdgeBundle}
    {inputs : List Value} (x : ClaimedLoop g w s r p i ks d e inputs) where
  abbrev w₀ : List ℕ
  w₀ = swap_removed w r p

  abbrev repeat : LazyCond
  repeat = nesting.condition_in d e

  abbrev exits : DeferredEdgeBundleSet
  exits = split_out_target (to_region r) d

  abbrev gives : StepAnswer (Option ClaimedRegion)
  gives = structurize_loop g r ks e repeat exits inputs s

  concerns₀ : Concerns g r w w₀
  concerns₀ =
      let n = x.set.size in
      let m = x.set.few in
      removed_concerns g w r i p x.shown.slots (let a = x.in_graph in let b = x.few in omega arith) (let a = x.place in omega arith)
      x.bundle_at_place

  tables₀ : ShowsTables w₀ s
  tables₀ = tables_stay concerns₀.tables x.shown.tables

  bundle : ShowsBundle g w p e
  bundle =
      let n = x.set.size in
      let h = x.place in
      subst (λ z. ShowsBundle g w z e) (sym x.bundle_at_place)
      (subst (λ z. ShowsBundle g w (word w set_starts r + i) z) x.backedge (x.set.each i (omega arith)))

  same_size : length e.target_inputs ≡ length (region g r).inputs
  same_size = bundle.size ∙ ap (target_size g) x.target

  passed : (j : ℕ) → j < length e.target_inputs → value (get_or (backedge_inputs w p) j 0) ≡ get_or e.target_inputs j (undef 0)
  passed j h = let four = bundle.few in ap value (passed_word w p j (omega arith)) ∙ (bundle.inputs j h).is

  -- The set without the back edge.
  removed : ShowsOwnSet g w₀ r exits
  removed =
      let n = x.set.size in
      let h = x.place in
      let few = x.few in
      let below = x.in_graph in
      let target_is : (get_or d i no_bundle).target ≡ to_region r = ap (λ y. y.target) x.backedge ∙ x.target in
      subst (λ z. ShowsOwnSet g (swap_removed w r z) r exits) (sym x.bundle_at_place)
      (swap_removed_set x.shown.tables.size (omega arith) x.set (to_region r) i h (rw target_is (eq-eqb r r refl))
      (λ j b. ap (λ y. same_target y (get_or d j no_bundle).target) (sym target_is) ∙ other_target few x.set (omega arith) b))

  low_exits : (j : ℕ) → j < length exits → (get_or exits j no_bundle).accumulated_count < largest
  low_exits j h =
      let low : DeferredEdgeBundle → Type 0 = λ y. y.accumulated_count < largest in
      all_at low no_bundle exits (all_split low (to_region r) d x.counts) j h

  within_region : {a : Defined} {l₁ : List ℕ} → Defines 0 most_regions w₀ l₁ a → OnlyRegion g r w l₁
  within_region y =
      only_region_then (only_region_concerns concerns₀)
      (only_region_aside r (aside_by (defines_changes y) (omega arith) (omega arith) (omega arith) (omega arith) g))

  refused_wrapper : {w' : List ℕ} → Defines 0 most_regions w₀ w' Full → LoopShown g r inputs w w' s Full gives
  unfolding structurize_loop
  refused_wrapper y =
      let total = concerns₀.same_head cells_at in
      let total₁ = (defines_changes y).totals cells_at (omega arith) in
      record {
        answer = rw (full_of (region_defined tables₀ y) refl) loop_refused;
        within = within_region y;
        total_from = omega arith;
        total_to = omega arith;
      }

  -- As far as the loop: the wrapper defined, the inputs entered, the loop made or refused.
  module _ {n wrapper h : ℕ} {l₁ l₂ l₃ : List ℕ} {a : Made} (count : n ≡ length (region g r).inputs)
      (wraps : Defines 0 most_regions w₀ l₁ (Ok wrapper)) (enter : EntersInputs r wrapper n l₁ (backedge_inputs w p) l₂ h)
      (make : LoopDefined r (condition_in w p (word w set_lengths r)) h l₂ l₃ a) where
    region₁ : Defines_done (λ k m. k ≡ m) l₁ wrapper (define_region s)
    region₁ = done_of (region_defined tables₀ wraps) refl

    is₁ : define_region s ≡ done wrapper region₁.state
    is₁ = region₁.is ∙ ap (λ z. done z region₁.state) (sym region₁.shows)

    small : wrapper < most_regions
    small = defined_below wraps refl

    total₁ : word l₁ head cells_at ≡ word w head cells_at
    total₁ = (defines_changes wraps).totals cells_at (omega arith) ∙ concerns₀.same_head cells_at

    named₁ : NamedRewrites l₁
    named₁ = named_by ((defines_changes wraps).others rewrites (omega arith) (omega arith))
        (named_stay concerns₀.tables x.shown.named)

    entered : InputsEntered g r wrapper l₁ l₂ h e.target_inputs region₁.state
    entered =
        let four = bundle.few in
        let same = same_size in
        let total = total₁ in
        let a = x.in_graph in
        let b = x.few in
        let f = x.free in
        let one = x.cell_zero in
        inputs_entered g region₁.tables named₁ (rw (region_log s is₁) x.chains) (omega arith) (omega arith) refl
        (λ j c. passed j (omega arith)) (omega arith) small (omega arith) (omega arith) enter

    within₂ : OnlyRegion g r w l₂
    within₂ = only_region_then (within_region wraps) (only_region_aside r entered.aside)

    abbrev F : Value → ℕ → Option ClaimedRegion
    F v m = some (loop_claimed g r ks exits inputs wrapper entered.values v m)

    made : LoopWithin g r l₂ l₃ × ShowsLoopMade F g r l₃ (take_inputs g r wrapper 0 entered.values no_inputs) ks a
        (loop_step repeat F (entered_state g r wrapper entered.values entered.between))
    made =
        let below = x.in_graph in
        let few = x.few in
        let free = x.free in
        let total = total₁ in
        let to = entered.total_to in
        loop_made_shown F g entered.tables (within₂.made_stays.conditions_stay (condition_shown d x.set.size bundle))
        nodes₂ entered.kept (omega arith) (omega arith) make
      where
        nodes₂ : ShowsChildren g l₂ (word l₂ children r) ks
        nodes₂ =
            let region_kept = aside_by (defines_changes wraps) (omega arith) (omega arith) (omega arith) (omega arith) g in
            children_stay entered.aside.made_stays (entered.aside.regions r)
            (children_stay region_kept.made_stays (region_kept.regions r) nodes₀)
          where
            nodes₀ : ShowsChildren g w₀ (word w₀ children r) ks
            nodes₀ = rw (only_word_same (swap_removed_only w r p) children (omega arith) r) (concerns₀.made_stays.nodes_stay x.nodes)

    gives_so : gives ≡ loop_step repeat F (entered_state g r wrapper entered.values entered.between)
    gives_so = loop_steps g r ks e repeat exits inputs s is₁ entered.looked_up

    within₃ : OnlyRegion g r w l₃
    within₃ = only_region_then within₂ made.0.within

    total_from₃ : word w head cells_at ≤ word l₃ head cells_at
    total_from₃ = let a = total₁ in let b = entered.total_from in let c = made.0.total_from in omega arith

    total_to₃ : word l₃ head cells_at ≤ word w head cells_at + 5
    total_to₃ = let a = total₁ in let b = entered.total_to in let c = made.0.total_to in omega arith

    refused_loop : a ≡ Full → LoopShown g r inputs w l₃ s Full gives
    refused_loop refused =
        record {
          answer = rw (gives_so, refused_of made.1 refused) loop_refused;
          within = within₃;
          total_from = total_from₃;
          total_to = total_to₃;
        }

    -- The wrapper entered as the structured body, and ONE for each exit.
    module _ (is_done : a ≡ Done) {w' : List ℕ} (count_exits : OfRecord (stored l₃ bodies r wrapper)
        (λ z. w' ≡ exits_added z r (stored l₃ bodies r wrapper))) where
      abbrev l₄ : List ℕ
      l₄ = stored l₃ bodies r wrapper

      loop₃ : LoopMade F g r l₃ (take_inputs g r wrapper 0 entered.values no_inputs) ks
          (loop_step repeat F (entered_state g r wrapper entered.values entered.between))
      loop₃ = made_of made.1 is_done

      body₄ : Concerns g r l₃ l₄
      body₄ = word_concerns g l₃ bodies (omega arith) r wrapper

      within₄ : OnlyRegion g r w l₄
      within₄ = only_region_then within₃ (only_region_concerns body₄)

      fits₃ : used ≤ length l₃
      fits₃ = loop₃.tables.size

      set₂ : ShowsOwnSet g l₂ r exits
      set₂ =
          let kept = aside_by (defines_changes wraps) (omega arith) (omega arith) (omega arith) (omega arith) g in
          own_set_stays entered.aside.made_stays (entered.aside.regions r) (own_set_stays kept.made_stays
          (kept.regions r) removed)

      set₄ : ShowsOwnSet g l₄ r exits
      set₄ = set_beside g l₃ bodies (omega arith) (omega arith) r wrapper (made.0.own_set set₂)

      exits₄ : ExitsCounted g r l₄ (exits_added g r l₄) exits
      exits₄ =
          let below = x.in_graph in
          let few = x.few in
          let words = body₄.made_stays.front.words in
          let fits = fits₃ in
          let never = no_return_exit (length g.regions) (exit_targets g r) few x.exits_below in
          exits_shown g r l₄ exits never (omega arith) (slots_stay within₄.same_starts x.shown.slots) (omega arith) set₄ low_exits

      counted : w' ≡ exits_added g r l₄
      counted = count_exits g (stands_on within₄.made_stays.front x.shown.stands)

      within₅ : OnlyRegion g r w (exits_added g r l₄)
      within₅ = only_region_then within₄ (only_region_concerns exits₄.concerns)

      abbrev claims : ClaimedRegion
      claims = loop_claimed g r ks exits inputs wrapper entered.values loop₃.v loop₃.n

      gives_done : gives ≡ done (some claims) loop₃.state
      gives_done = gives_so ∙ loop₃.is

      same_states : loop₃.state.region_states ≡ s.region_states
      same_states =
          let kept : Post (λ m n. Unit) (λ o t. KeepsStates s t) gives =
          claim_body_keeps states_kept_steady (λ m n. Unit) tt states_kept_log g r inputs ks d (some e) s in
          (rw gives_done at kept).post.states

      own_word : (k : Section) → (number sections.bundles ≡ number k → ⊥) → (number sections.head ≡ number k → ⊥)
          → word (exits_added g r l₄) k r ≡ word l₄ k r
      own_word k b h = ap (λ l. get_or l r 0) (exits₄.changes.others k (λ z. b (sym z)) (λ z. h (sym z)))

      state₅ : ShowsState g (exits_added g r l₄) loop₃.state
      state₅ =
          let three = x.claimed in
          state_next within₅.made_stays (only_region_states within₅ x.few (omega arith))
          (tables_stay exits₄.concerns.tables (tables_stay body₄.tables loop₃.tables))
          (named_stay exits₄.concerns.tables (named_stay body₄.tables (made.0.named entered.named))) same_states x.shown

      claimed₅ : ShowsClaimed g (exits_added g r l₄) claims
      claimed₅ =
          let below = x.in_graph in
          let few = x.few in
          let beside = ap (λ l. get_or l r 0) (section_other l₃ bodies r wrapper children (omega arith)) in
          record {
            in_graph = x.in_graph;
            kind = within₅.same_kinds r below ∙ x.claimed;
            body = own_word bodies (omega arith) (omega arith) ∙ body_set g l₃ fits₃ r (omega arith) wrapper;
            body_below = small;
            nodes = rw (own_word children (omega arith) (omega arith), beside)
                (exits₄.concerns.made_stays.nodes_stay (body₄.made_stays.nodes_stay loop₃.nodes));
            set = exits₄.set;
            size = x.given;
          }

      looped_shown : LoopShown g r inputs w w' s Done gives
      looped_shown =
          let same = body₄.same_head cells_at in
          let same₅ = exits₄.concerns.same_head cells_at in
          let from = total_from₃ in
          let to = total_to₃ in
          rw (counted, gives_done)
          record {
            answer = shows_loop state₅ same_states claimed₅ refl refl;
            within = within₅;
            total_from = omega arith;
            total_to = omega arith;
          }

  -- All paths of the code.
  pub structurize_loop_shown : {w' : List ℕ} {a : Made} → StructurizesLoop r p w w' a
      → LoopShown g r inputs w w' s a (structurize_loop g r ks e (nesting.condition_in d e) (split_out_target (to_region r) d) inputs s)
  structurize_loop_shown (no_wrapper wraps) = refused_wrapper wraps
  structurize_loop_shown (no_loop count wraps enter make) = refused_loop (count g x.shown.stands) wraps enter make refl
  structurize_loop_shown (looped count wraps enter make exit_edges) =
      looped_shown (count g x.shown.stands) wraps enter make refl exit_edges
