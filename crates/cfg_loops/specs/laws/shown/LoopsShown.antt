-- A loop made of a claimed region: for every state that the words show, as the definition makes it.
use Rattle.std.specs.Prelude.{◌≡◌, refl, List, [], ◌∷◌, ◌++◌, ℕ, suc, ◌+◌, ◌≤◌, ◌<◌, length, get_or, take}
use Rattle.std.proofs.Common.{sym, ap, ◌∙◌, subst, arith, take_all}
use Rattle.meaning.specs.Graph.{Value, Graph, undef}
use Rattle.meaning.specs.Runs.{Nodes, ⟨⟩, ◌▸◌, loop}
use Rattle.nesting.specs.Nesting.{NestState, RewriteEntry, done, rewrite_values, renumber_to, renumber_or_replace_with, with_tables}
use Rattle.nesting.specs.Nesting.{take_inputs, no_inputs, DeferredEdgeBundleSet, LazyCond, StepAnswer, turned_away, Step, ◌>>=◌, give}
use Rattle.nesting.specs.Nesting.{materialize_lazy_cond, define_node, LoopInputs, loop_node, most_regions, most_nodes}
use Rattle.nesting.specs.lookups.ChainEnds.{ChainsEnd}
use Rattle.state_words.specs.Totals.{Defined, Made, Done, Full}
use Rattle.state_words.specs.Sections as sections
use Rattle.state_words.specs.Sections.{Section, number, used, section, word, stored, head, rewrites, children, bundles, set_starts}
use Rattle.state_words.specs.Sections.{set_lengths}
use Rattle.state_words.specs.laws.Apart.{section_other}
use Rattle.state_words.specs.Totals.{Defines, defined, full}
use Rattle.state_nodes.specs.NodeTables.{inserted}
use Rattle.state_shown.specs.Values.{value}
use Rattle.state_shown.specs.laws.Stores.{ChangesOnly, head_changes, nothing_changes}
use Rattle.state_shown.specs.Tables.{ShowsInput, renumber_words, ShowsCondition, ShowsTables}
use Rattle.state_shown.specs.laws.DefinedShown.{done_of, full_of}
use Rattle.state_shown.specs.laws.Steps.{node_defined}
use Rattle.state_shown.specs.laws.Elsewhere.{SameTables, tables_stay, same_then}
use Rattle.state_shown.specs.laws.Rewrites.{rewrites_inserted, insert_changes}
use Rattle.state_shown.specs.Cells.{ShowsChildren}
use Rattle.state_shown.specs.States.{NamedRewrites, ShowsOwnSet}
use Rattle.state_shown.specs.laws.RegionsKept.{own_set_stays, set_stays, children_stay}
use Rattle.state_shown.specs.laws.RegionSteps.{Aside, aside_then, aside_by, named_by, named_stay, OfOneRegion, word_concerns, bundles_same}
use Rattle.state_shown.specs.laws.RegionSteps.{OnlyRegion, only_region_then, only_region_aside, only_region_concerns, children_set}
use Rattle.state_shown.specs.laws.CellSteps.{ShowsKeptList, kept_list_by, cell_aside, cell_tables, cell_total, cell_handle, loop_added}
use Rattle.state_shown.specs.laws.NamedSteps.{named_inserted}
use Rattle.cfg_lookups.specs.Materialized.{Materializes}
use Rattle.cfg_lookups.specs.laws.shown.ConditionsShown.{materialize_shown}
use Rattle.cfg_loops.specs.Loops.{AddsLoop, adds_loop, LoopDefined, loop_defined, no_value, no_node, EntersInputs, enters}
use Rattle.cfg_loops.specs.laws.shown.RewritesShown.{Rewritten, rewritten_to}
use Rattle.cfg_loops.specs.laws.shown.InputsShown.{InputsTaken, taken_to}
use Rattle.format.specs.Refusals.{too_many}
use Rattle.state_words.specs.Rows.{cells_at, entry_renumber, most_cells}

-- ---- The header's inputs looked up, taken and entered.
abbrev pub entered_state : Graph → ℕ → ℕ → List Value → NestState → NestState
entered_state g r wrapper vs s =
    let taken = take_inputs g r wrapper 0 vs no_inputs in
    let entry : RewriteEntry = record { region = r; rewrites = renumber_or_replace_with taken.rewrites } in
    with_tables s.region_states (s.region_input_rewrites ++ (entry ∷ [])) s.node_outputs s

pub record InputsEntered (g : Graph) (r wrapper : ℕ) (l l' : List ℕ) (h : ℕ) (vals : List Value) (s : NestState) : Type 0 where
  pub values : List Value
  pub between : NestState
  pub looked_up : rewrite_values vals s ≡ done values between
  pub kept : ShowsKeptList g l' r h (take_inputs g r wrapper 0 values no_inputs)
  pub tables : ShowsTables l' (entered_state g r wrapper values between)
  pub named : NamedRewrites l'
  pub aside : Aside g l l'
  pub total_from : word l head cells_at ≤ word l' head cells_at
  pub total_to : word l' head cells_at ≤ word l head cells_at + 4

pub inputs_entered : (g : Graph) {r wrapper n h : ℕ} {l vs l' : List ℕ} {vals : List Value} {s : NestState} → ShowsTables l s
    → NamedRewrites l → ((q : ℕ) → ChainsEnd s.region_input_rewrites q) → n ≡ length vals → n ≤ 4 → length vs ≡ 4
    → ((j : ℕ) → j < n → value (get_or vs j 0) ≡ get_or vals j (undef 0)) → r < most_regions → wrapper < most_regions
    → word l head cells_at + 4 ≤ most_cells
    → 1 ≤ word l head cells_at → EntersInputs r wrapper n l vs l' h → InputsEntered g r wrapper l l' h vals s
inputs_entered g {r} {wrapper} {n} {h} {l} {vs} {l'} {vals} {s} t named all size few four is header wraps free one
    (enters {l₁} {l₂} {us} {ws} made taken e) =
    let x : Rewritten 4 l vs l₁ us vals s = rewritten_to {vals = vals} size all t (omega arith) is made in
    let whole : take 4 vals ≡ vals = take_all 4 vals (omega arith) in
    let count : length x.values ≡ n = x.count ∙ ap length whole ∙ sym size in
    let fits = t.size in
    let words = x.changes.words in
    let len = x.len in
    let total = x.changes.totals cells_at (omega arith) in
    let so : InputsTaken g r wrapper 4 l₁ us l₂ ws taken.last x.values = taken_to g r wrapper n l₁ us x.values (sym count)
    (omega arith) few (λ j b. x.each j (omega arith)) header wraps
    (omega arith) (omega arith) (omega arith) (omega arith) taken.taken in
    let are : so.inputs ≡ take_inputs g r wrapper 0 x.values no_inputs =
    so.are ∙ ap (λ z. take_inputs g r wrapper 0 z no_inputs) (take_all 4 x.values (omega arith)) in
    let from = so.total_from in
    let to = so.total_to in
    let mid = so.aside.made_stays.front.words in
    let wlen = so.len in
    let changes = insert_changes l₂ r 2 ws 7 in
    let after = changes.totals cells_at (omega arith) in
    let kept : ShowsKeptList g (inserted l₂ r entry_renumber ws) r h so.inputs =
    kept_list_by changes (omega arith) (omega arith) (subst (λ z. ShowsKeptList g l₂ r z so.inputs) (sym taken.cells) so.kept) in
    let known : NamedRewrites l₁ = named_by (x.changes.others rewrites (omega arith) (omega arith)) named in
    let aside = aside_then (aside_by x.changes (omega arith) (omega arith) (omega arith) (omega arith) g)
    (aside_then so.aside (aside_by changes (omega arith) (omega arith) (omega arith) (omega arith) g)) in
    record {
      values = x.values;
      between = x.state;
      looked_up = subst (λ z. rewrite_values z s ≡ done x.values x.state) whole x.step;
      kept = subst (λ z. ShowsKeptList g z r h (take_inputs g r wrapper 0 x.values no_inputs)) (sym e)
          (subst (λ z. ShowsKeptList g (inserted l₂ r entry_renumber ws) r h z) are kept);
      tables = rewrites_inserted (tables_stay so.tables x.tables) header (omega arith)
          (renumber_words refl
          (λ k b. subst (λ z. ShowsInput r (get_or ws k 0) (get_or z.rewrites k (renumber_to k))) are (so.entries k b))) e;
      named = subst (λ z. NamedRewrites z) (sym e)
          (named_inserted l₂ r entry_renumber ws (omega arith) header (omega arith) so.named (named_stay so.tables known));
      aside = subst (λ z. Aside g l z) (sym e) aside;
      total_from = subst (λ z. word l head cells_at ≤ word z head cells_at) (sym e) (omega arith);
      total_to = subst (λ z. word z head cells_at ≤ word l head cells_at + 4) (sym e) (omega arith);
    }

-- ---- The repeat value, the node, and the loop's cell in the place of region r's children.
pub defines_changes : {i limit : ℕ} {l l' : List ℕ} {a : Defined} → Defines i limit l l' a → ChangesOnly head i l l'
defines_changes {i} {l} (defined {n} p h e) = rw e (head_changes head i l (n + 1))
defines_changes {i} {l} (full h e) = rw e (nothing_changes head i l)

-- Region r's own set stays, where another of its words is stored.
pub set_beside : (g : Graph) (w : List ℕ) (k : Section) → OfOneRegion k → (number sections.set_lengths ≡ number k → ⊥)
    → (r x : ℕ) {d : DeferredEdgeBundleSet}
    → ShowsOwnSet g w r d
    → ShowsOwnSet g (stored w k r x) r d
set_beside g w k o five r x s =
    let a = o.behind_kinds in
    let b = o.before_levels in
    let c = word_concerns g w k o r x in
    let lengths = ap (λ l. get_or l r 0) (section_other w k r x set_lengths five) in
    rw (c.same_starts r, lengths)
    (set_stays c.made_stays (λ i h. bundles_same (section_other w k r x bundles (omega arith)) (word w set_starts r + i)) s)

pub record LoopWithin (g : Graph) (r : ℕ) (l l' : List ℕ) : Type 0 where
  pub within : OnlyRegion g r l l'
  pub own_set : {d : DeferredEdgeBundleSet} → ShowsOwnSet g l r d → ShowsOwnSet g l' r d
  pub named : NamedRewrites l → NamedRewrites l'
  pub total_from : word l head cells_at ≤ word l' head cells_at
  pub total_to : word l' head cells_at ≤ suc (word l head cells_at)

-- What the code answers, and the definition, for whatever is given with the value and the node.
pub data ShowsLoopMade {A : Type 0} (F : Value → ℕ → A) (g : Graph) (r : ℕ) (l : List ℕ) (y : LoopInputs) (ks : Nodes)
    : Made → StepAnswer A → Type 0 where
  made_done : {v : Value} {n : ℕ} {s : NestState} → ShowsTables l s
      → ShowsChildren g l (word l children r) (loop (loop_node g n r y v) ks ▸ ⟨⟩) → ShowsLoopMade F g r l y ks Done (done (F v n) s)
  made_refused : ShowsLoopMade F g r l y ks Full (turned_away too_many 0)

abbrev pub loop_step : {A : Type 0} → LazyCond → (Value → ℕ → A) → Step A
loop_step t F = materialize_lazy_cond t >>= λ v. define_node >>= λ n. give (F v n)

aside_within : {g : Graph} (r : ℕ) {l l' : List ℕ} → Aside g l l' → section l' rewrites ≡ section l rewrites
    → word l' head cells_at ≡ word l head cells_at → LoopWithin g r l l'
aside_within r a e f =
    record {
      within = only_region_aside r a;
      own_set = λ s. own_set_stays a.made_stays (a.regions r) s;
      named = λ n. named_by e n;
      total_from = omega arith;
      total_to = omega arith;
    }

loop_within_then : {g : Graph} {r : ℕ} {l l₁ l₂ : List ℕ} → LoopWithin g r l l₁ → word l₁ head cells_at ≡ word l head cells_at
    → LoopWithin g r l₁ l₂
    → LoopWithin g r l l₂
loop_within_then a e b =
    let z = b.total_to in
    let y = b.total_from in
    record {
      within = only_region_then a.within b.within;
      own_set = λ s. b.own_set (a.own_set s);
      named = λ n. b.named (a.named n);
      total_from = omega arith;
      total_to = omega arith;
    }

module _ {g : Graph} {r n x kept : ℕ} {l l' : List ℕ} {y : LoopInputs} {ks : Nodes} {v : Value} (free : word l head cells_at < most_cells)
    (room : used ≤ length l) (low : r < 32) where
  loop_cell_added : AddsLoop r n x kept l l' → ShowsChildren g l (word l children r) ks → value x ≡ v → ShowsKeptList g l r kept y
      → LoopWithin g r l l' × SameTables l l' × ShowsChildren g l' (word l' children r) (loop (loop_node g n r y v) ks ▸ ⟨⟩)
  loop_cell_added (adds_loop {h} {l₁} cell e) nodes is keeps =
      let aside = cell_aside cell free room g in
      let tables = cell_tables cell free room in
      let c = word_concerns g l₁ children (omega arith) r h in
      let words = aside.made_stays.front.words in
      let total = cell_total cell free room in
      let handle = cell_handle cell free room in
      let same = c.same_head cells_at in
      let made = loop_added free room y cell nodes is keeps in
      let looped : Nodes = loop (loop_node g n r y v) ks ▸ ⟨⟩ in
      subst (λ z. LoopWithin g r l z × SameTables l z × ShowsChildren g z (word z children r) looped) (sym e) (
        record {
          within = only_region_then (only_region_aside r aside) (only_region_concerns c);
          own_set = λ s. set_beside g l₁ children (omega arith) (omega arith) r h (own_set_stays aside.made_stays (aside.regions r) s);
          named = λ q. named_stay c.tables (named_stay tables q);
          total_from = omega arith;
          total_to = omega arith;
        },
        same_then tables c.tables,
        children_set g l₁ (omega arith) r low made,
      )

module _ {A : Type 0} (F : Value → ℕ → A) (g : Graph) {r c kept : ℕ} {l : List ℕ} {t : LazyCond} {y : LoopInputs} {ks : Nodes}
    {s : NestState} (tables : ShowsTables l s) (condition : ShowsCondition l c t) (nodes : ShowsChildren g l (word l children r) ks)
    (keeps : ShowsKeptList g l r kept y) (free : word l head cells_at < most_cells) (low : r < 32) where
  value_within : {a : Defined} {l₁ : List ℕ} → Materializes l c l₁ a → LoopWithin g r l l₁
  value_within m =
      let z = (materialize_shown m condition tables).changes in
      aside_within r (aside_by z (omega arith) (omega arith) (omega arith) (omega arith) g) (z.others rewrites (omega arith) (omega arith))
      (z.totals cells_at (omega arith))

  node_within : {a : Defined} {l₁ l₂ : List ℕ} → Defines 1 most_nodes l₁ l₂ a → LoopWithin g r l₁ l₂
  node_within d =
      let z = defines_changes d in
      aside_within r (aside_by z (omega arith) (omega arith) (omega arith) (omega arith) g) (z.others rewrites (omega arith) (omega arith))
      (z.totals cells_at (omega arith))

  pub loop_made_shown : {l' : List ℕ} {a : Made} → LoopDefined r c kept l l' a
      → LoopWithin g r l l' × ShowsLoopMade F g r l' y ks a (loop_step t F s)
  loop_made_shown (no_value m) =
      (value_within m, rw (full_of (materialize_shown m condition tables).answer refl) made_refused)
  loop_made_shown (no_node m d) =
      let x = done_of (materialize_shown m condition tables).answer refl in
      let total = (materialize_shown m condition tables).changes.totals cells_at (omega arith) in (
        loop_within_then (value_within m) total (node_within d),
        rw (x.is, full_of (node_defined x.tables d) refl) made_refused,
      )
  loop_made_shown {l'} (loop_defined {x} {n} {l₁} {l₂} m d added) =
      let z = materialize_shown m condition tables in
      let v = done_of z.answer refl in
      let u = done_of (node_defined v.tables d) refl in
      let first = z.changes in
      let second = defines_changes d in
      let fits = tables.size in
      let words = first.words in
      let words₂ = second.words in
      let total = first.totals cells_at (omega arith) in
      let total₂ = second.totals cells_at (omega arith) in
      let aside = aside_then (aside_by first (omega arith) (omega arith) (omega arith) (omega arith) g)
      (aside_by second (omega arith) (omega arith) (omega arith) (omega arith) g) in
      let there : ShowsChildren g l₂ (word l₂ children r) ks = children_stay aside.made_stays (aside.regions r) nodes in
      let listed : ShowsKeptList g l₂ r kept y =
      kept_list_by second (omega arith) (omega arith) (kept_list_by first (omega arith) (omega arith) keeps) in
      let end = loop_cell_added {y = y} {ks = ks} {v = v.value} (omega arith) (omega arith) low added there v.shows listed in (
        loop_within_then (value_within m) total (loop_within_then (node_within d) total₂ end.0),
        rw (v.is, u.is)
            (made_done {n = u.value} (tables_stay end.1 u.tables)
            (subst (λ q. ShowsChildren g l' (word l' children r) (loop (loop_node g q r y v.value) ks ▸ ⟨⟩)) u.shows end.2)),
      )
