-- A cell more: every list that was made stays, and the new one is shown. A list of nodes is empty if and only if its handle is 0.
use Rattle.std.specs.Prelude.{◌≡◌, refl, true, not, List, [], ◌∷◌, ◌++◌, ℕ, suc, ◌+◌, ◌≤◌, ◌<◌, length, get_or, eqb}
use Rattle.std.proofs.Common.{ap, ◌∙◌, arith, eq-eqb, ne_eqb}
use Rattle.std.proofs.Math.Decide.{ℕ_discrete}
use Rattle.std.proofs.lemmas.List.Edits.{sets}
use Rattle.meaning.specs.Graph.{Value, SelectionKind, Instr, Graph, region, input, exit_invocation}
use Rattle.meaning.specs.Runs.{Nodes, ⟨⟩, ◌▸◌, Cases, ∅, loop, exit, case_count}
use Rattle.meaning.specs.facts.Tests.{clash}
use Rattle.nesting.specs.Nesting.{join, has_children, blocks_of, blocks_from, new_case, new_select, LoopInputs, loop_node, most_regions}
use Rattle.state_nodes.specs.declared.cells.Cell.{Cell}
use Rattle.state_nodes.specs.declared.cells.Cell.TheVariants as cell
use Rattle.state_nodes.specs.NodeTables.{Blocks, Exit, Select, Loop, Case, Kept}
use Rattle.state_words.specs.Sections as sections
use Rattle.state_words.specs.Sections.{Section, number, start, size, used, section, word, stored, stored_all, head, conditions, cells}
use Rattle.state_words.specs.laws.Apart.{section_other}
use Rattle.state_nodes.specs.NodeTables.{cell_words}
use Rattle.state_nodes.specs.NodeTables.{Adds, added, no_room, Joins, first_empty, second_empty, joined}
use Rattle.state_shown.specs.Values.{value}
use Rattle.state_shown.specs.laws.FrontKept.{front_by}
use Rattle.state_shown.specs.laws.Stores.{section_run, part_length, head_same, ChangesOnly, head_changes, run_changes, changes_then}
use Rattle.state_shown.specs.laws.Stores.{nothing_changes}
use Rattle.state_shown.specs.Tables.{ShowsShape}
use Rattle.state_shown.specs.laws.Conditions.{ConditionsStay, cond_stays}
use Rattle.state_shown.specs.laws.Elsewhere.{SameTables, same_words}
use Rattle.state_shown.specs.Cells.{CellIs, ShowsKept, none_kept, one_kept, ShowsNodes, no_nodes, all_blocks, two_lists, then_exit}
use Rattle.state_shown.specs.Cells.{then_select, the_loop, ShowsCaseCells, no_cases, case_and, ShowsChildren}
use Rattle.state_shown.specs.Kept.{PreservesMade, KeptRegion}
use Rattle.state_shown.specs.laws.RegionsKept.{preserves_same, kept_same}
use Rattle.state_shown.specs.laws.RegionSteps.{Aside, kept_by, tables_by, states_by, StatesStay}
use Rattle.meaning.specs.facts.Parts.{run_before, run_in}
use Rattle.state_words.specs.Rows.{cell_row_at, cell_row_size, cell_word_at, cells_at, merges_at, merges_from, most_cells}

-- ---- Lists before a run of words stay.
module _ (g : Graph) (l : List ℕ) (i : ℕ) (xs : List ℕ) where
  cell_before : {h : ℕ} {x : Cell} → CellIs l h x → cell_row_at h + cell_row_size ≤ i → CellIs (sets l i xs) h x
  cell_before {h} x n = record { is = λ k b. run_before l i xs (cell_word_at h k) (omega arith) ∙ x.is k b }

  kept_before : {r h : ℕ} {is os : List Value} {ts : List ℕ} → ShowsKept g l r h is ts os → cell_row_at h + cell_row_size ≤ i
      → ShowsKept g (sets l i xs) r h is ts os
  kept_before (none_kept e) n = none_kept e
  kept_before (one_kept x p few low k v a b c) n = one_kept (cell_before x n) p few low (kept_before k (omega arith)) v a b c

  mutual
    nodes_before : {h : ℕ} {ks : Nodes} → ShowsNodes g l h ks → cell_row_at h + cell_row_size ≤ i → ShowsNodes g (sets l i xs) h ks
    nodes_before (no_nodes e) n = no_nodes e
    nodes_before (all_blocks x a b e) n = all_blocks (cell_before x n) a b e
    nodes_before (two_lists x a b c d ns ms e) n =
        two_lists (cell_before x n) a b c d (nodes_before ns (omega arith)) (nodes_before ms (omega arith)) e
    nodes_before (then_exit x p ns t e) n = then_exit (cell_before x n) p (nodes_before ns (omega arith)) t e
    nodes_before (then_select x p q ns s v cs e) n =
        then_select (cell_before x n) p q (nodes_before ns (omega arith)) s v (cases_before cs (omega arith)) e
    nodes_before (the_loop y x p q ns v k e) n =
        the_loop y (cell_before x n) p q (nodes_before ns (omega arith)) v (kept_before k (omega arith)) e

    cases_before : {h : ℕ} {cs : Cases} → ShowsCaseCells g l h cs → cell_row_at h + cell_row_size ≤ i → ShowsCaseCells g (sets l i xs) h cs
    cases_before (no_cases e) n = no_cases e
    cases_before (case_and x p q ns cs e) n =
        case_and (cell_before x n) p q (nodes_before ns (omega arith)) (cases_before cs (omega arith)) e

-- ---- A cell more, where there is room.
six_words : (x : Cell) → length (cell_words x) ≡ cell_row_size
six_words (cell.Blocks r) = refl
six_words (cell.Join p q) = refl
six_words (cell.Exit p n r) = refl
six_words (cell.Select p n shape x q) = refl
six_words (cell.Loop p n r x q) = refl
six_words (cell.Case p r q) = refl
six_words (cell.Kept p k wrapper x) = refl

module _ {w w' : List ℕ} {x : Cell} {h : ℕ} (step : Adds w w' x h) (free : word w head cells_at < most_cells) (room : used ≤ length w) where
  abbrev with_cell : List ℕ
  with_cell = stored_all w cells (cell_row_at h) (cell_words x)

  -- What the step is, as there is room.
  record Added : Type 0 where
    handle : h ≡ word w head cells_at
    below : h < most_cells
    words : w' ≡ stored with_cell head cells_at (h + 1)

  is_added : Added
  is_added = go step
    where
      go : Adds w w' x h → Added
      go (added a b e) = record { handle = a; below = b; words = e }
      go (no_room a b e) = absurd (omega arith)

  pub cell_handle : h ≡ word w head cells_at
  cell_handle = is_added.handle

  pub cell_changes : ChangesOnly cells cells_at w w'
  cell_changes = rw is_added.words
      (changes_then (run_changes cells cells_at w (omega arith) (cell_row_at h) (cell_words x))
      (head_changes cells cells_at with_cell (h + 1)))

  pub cell_total : word w' head cells_at ≡ suc h
  cell_total = ap (λ l. word l head cells_at) is_added.words
      ∙ head_same with_cell cells_at (h + 1) (rw (run_changes cells cells_at w (omega arith) (cell_row_at h) (cell_words x)).words room)
      (omega arith)
      ∙ omega arith

  cells_after : section w' cells ≡ sets (section w cells) (cell_row_at h) (cell_words x)
  cells_after = ap (λ l. section l cells) is_added.words ∙ section_other with_cell head cells_at (h + 1) cells (omega arith)
      ∙ section_run w cells (cell_row_at h) (cell_words x)

  pub cell_there : CellIs (section w' cells) h x
  cell_there =
      let six = six_words x in
      let l = section w cells in
      let z = part_length (start cells) (size cells) w (omega arith) in
      let b = is_added.below in
      let at : (k : ℕ) → k < 6 → get_or (sets l (cell_row_at h) (cell_words x)) (cell_word_at h k) 0 ≡ get_or (cell_words x) k 0 =
      λ k i. run_in l (cell_row_at h) (cell_words x) k (omega arith) (rw six i) in
      rw cells_after (record { is = at })

  conditions_after : (m : ℕ) → ConditionsStay m w w'
  conditions_after m =
      let e = cell_handle in
      let t = cell_total in
      record {
        record_words = λ i b. ap (λ l. get_or l i 0) (cell_changes.others conditions (omega arith) (omega arith));
        made_cells = λ i b. ap (λ l. get_or l i 0) cells_after ∙ run_before (section w cells) (cell_row_at h) (cell_words x) i (omega arith);
        as_many = omega arith;
      }

  pub cell_preserves : (g : Graph) → PreservesMade g w w'
  cell_preserves g =
      let c = cell_changes in
      record {
        front = front_by c (omega arith);
        conditions_stay = λ y. record {
          tree = cond_stays (conditions_after (merges_from + word w head merges_at)) y.tree y.made;
          made = rw (c.totals merges_at (omega arith)) y.made;
        };
        nodes_stay = λ y.
            let m = y.made in
            let e = cell_handle in
            record {
              nodes = rw cells_after (nodes_before g (section w cells) (cell_row_at h) (cell_words x) y.nodes (omega arith));
              made = rw cell_total (omega arith);
            };
      }

  pub cell_tables : SameTables w w'
  cell_tables = tables_by cell_changes (omega arith) (λ q a b e. b e)

  pub cell_regions : (q : ℕ) → KeptRegion w w' q
  cell_regions = kept_by cell_changes (omega arith)

  pub cell_states : (g : Graph) → StatesStay g w w'
  cell_states = states_by cell_changes (omega arith) (omega arith) (omega arith)

  pub cell_aside : (g : Graph) → Aside g w w'
  cell_aside g = record { made_stays = cell_preserves g; states = cell_states g; regions = cell_regions }

  before_handle : {p : ℕ} → p < word w head cells_at → p < h
  before_handle m = let e = cell_handle in omega arith

  new_made : h < word w' head cells_at
  new_made = rw cell_total (omega arith)

-- ---- Lists of cases and of kept inputs that were made, by their handles.
pub record ShowsCaseList (g : Graph) (w : List ℕ) (h : ℕ) (cs : Cases) : Type 0 where
  pub cases : ShowsCaseCells g (section w cells) h cs
  pub made : h < word w head cells_at

-- Of a loop of header r.
pub record ShowsKeptList (g : Graph) (w : List ℕ) (r h : ℕ) (x : LoopInputs) : Type 0 where
  pub kept : ShowsKept g (section w cells) r h x.initial_inputs x.types x.outputs
  pub made : h < word w head cells_at

pub no_case_list : {g : Graph} {w : List ℕ} → 1 ≤ word w head cells_at → ShowsCaseList g w 0 ∅
no_case_list one = record { cases = no_cases refl; made = one }

-- They stay where the cells and their total do.
module _ {k : Section} {i : ℕ} {w w' : List ℕ} (changes : ChangesOnly k i w w')
    (d : number sections.cells ≡ number k → ⊥) (e : cells_at ≡ i → ⊥) {g : Graph} where
  pub kept_list_by : {r h : ℕ} {x : LoopInputs} → ShowsKeptList g w r h x → ShowsKeptList g w' r h x
  kept_list_by y = record { kept = rw (changes.others cells d (omega arith)) y.kept; made = rw (changes.totals cells_at e) y.made }

module _ {w w' : List ℕ} {x : Cell} {h : ℕ} (step : Adds w w' x h) (free : word w head cells_at < most_cells) (room : used ≤ length w)
    {g : Graph} where
  pub case_list_stays : {p : ℕ} {cs : Cases} → ShowsCaseList g w p cs → ShowsCaseList g w' p cs
  case_list_stays y =
      let m = y.made in
      let e = cell_handle step free room in
      record {
        cases = rw (cells_after step free room)
            (cases_before g (section w cells) (cell_row_at h) (cell_words x) y.cases (omega arith));
        made = rw (cell_total step free room) (omega arith);
      }

  pub kept_list_stays : {r p : ℕ} {y : LoopInputs} → ShowsKeptList g w r p y → ShowsKeptList g w' r p y
  kept_list_stays y =
      let m = y.made in
      let e = cell_handle step free room in
      record {
        kept = rw (cells_after step free room)
            (kept_before g (section w cells) (cell_row_at h) (cell_words x) y.kept (omega arith));
        made = rw (cell_total step free room) (omega arith);
      }

-- ---- The cells, by kind.
module _ {w w' : List ℕ} {h : ℕ} (free : word w head cells_at < most_cells) (room : used ≤ length w) {g : Graph} where
  pub blocks_added : {r : ℕ} → Adds w w' (Blocks r) h → 1 ≤ word w head cells_at → 1 ≤ length (region g r).blocks
      → ShowsChildren g w' h (blocks_of g r)
  blocks_added step one some =
      let e = cell_handle step free room in
      record { nodes = all_blocks (cell_there step free room) (omega arith) some refl; made = new_made step free room }

  pub exit_added : {p n r op : ℕ} {vs : List Value} {ns : Nodes} → Adds w w' (Exit p n r) h → ShowsChildren g w p ns
      → (region g r).terminator ≡ exit_invocation op vs → ShowsChildren g w' h (join ns (exit n op vs ▸ ⟨⟩))
  exit_added step ns e =
      record {
        nodes = then_exit (cell_there step free room) (before_handle step free room ns.made)
            ((cell_preserves step free room g).nodes_stay ns).nodes e refl;
        made = new_made step free room;
      }

  pub select_added : {p n shape x q : ℕ} {kind : SelectionKind} {v : Value} {cs : Cases} {ns : Nodes}
      → Adds w w' (Select p n shape x q) h → ShowsChildren g w p ns → ShowsShape shape (case_count cs) kind → value x ≡ v
      → ShowsCaseList g w q cs
      → ShowsChildren g w' h (join ns (new_select n kind v cs ▸ ⟨⟩))
  select_added step ns s v cs =
      record {
        nodes = then_select (cell_there step free room) (before_handle step free room ns.made)
            (before_handle step free room cs.made) ((cell_preserves step free room g).nodes_stay ns).nodes s v
            (case_list_stays step free room cs).cases refl;
        made = new_made step free room;
      }

  pub loop_added : {p n r x q : ℕ} {v : Value} {ns : Nodes} (y : LoopInputs) → Adds w w' (Loop p n r x q) h → ShowsChildren g w p ns
      → value x ≡ v → ShowsKeptList g w r q y → ShowsChildren g w' h (loop (loop_node g n r y v) ns ▸ ⟨⟩)
  loop_added y step ns v k =
      record {
        nodes = the_loop y (cell_there step free room) (before_handle step free room ns.made)
            (before_handle step free room k.made) ((cell_preserves step free room g).nodes_stay ns).nodes v
            (kept_list_stays step free room k).kept refl;
        made = new_made step free room;
      }

  pub case_added : {p r q : ℕ} {ns : Nodes} {cs : Cases} → Adds w w' (Case p r q) h → ShowsChildren g w q ns → ShowsCaseList g w p cs
      → ShowsCaseList g w' h (new_case r ns cs)
  case_added step ns cs =
      record {
        cases = case_and (cell_there step free room) (before_handle step free room cs.made)
            (before_handle step free room ns.made) ((cell_preserves step free room g).nodes_stay ns).nodes
            (case_list_stays step free room cs).cases refl;
        made = new_made step free room;
      }

  pub kept_added : {r p k wrapper x : ℕ} {v : Value} (y z : LoopInputs) → Adds w w' (Kept p k wrapper x) h → k < 4
      → wrapper < most_regions → ShowsKeptList g w r p y → value x ≡ v → z.initial_inputs ≡ y.initial_inputs ++ (input wrapper k ∷ [])
      → z.types ≡ y.types ++ (get_or (region g r).inputs k 0 ∷ []) → z.outputs ≡ y.outputs ++ (v ∷ [])
      → ShowsKeptList g w' r h z
  kept_added y z step few low ks v a b c =
      record {
        kept = one_kept (cell_there step free room) (before_handle step free room ks.made) few low
            (kept_list_stays step free room ks).kept v a b c;
        made = new_made step free room;
      }

-- ---- A list of nodes is empty if and only if its handle is 0.
some_blocks : (n r k : ℕ) (bs : List (List Instr)) → 1 ≤ length bs → has_children (blocks_from n r k bs) ≡ true
some_blocks n r k [] h = absurd (omega arith)
some_blocks n r k (b ∷ bs) h = refl

join_first : (ns ms : Nodes) → has_children ns ≡ true → has_children (join ns ms) ≡ true
join_first ⟨⟩ ms e = absurd (clash (cc))
join_first (n ▸ ns) ms e = refl

join_second : (ns ms : Nodes) → has_children ms ≡ true → has_children (join ns ms) ≡ true
join_second ⟨⟩ ms e = e
join_second (n ▸ ns) ms e = refl

made_nodes : {g : Graph} {l : List ℕ} {h : ℕ} {ks : Nodes} → ShowsNodes g l h ks → 1 ≤ h → has_children ks ≡ true
made_nodes (no_nodes e) b = absurd (omega arith)
made_nodes {g} (all_blocks {r} x a some e) b = rw e (some_blocks _ r 0 (region g r).blocks some)
made_nodes (two_lists {ns} {ms} x a p c d n m e) b = rw e (join_first ns ms (made_nodes n a))
made_nodes (then_exit {ns} x p n t e) b = rw e (join_second ns _ refl)
made_nodes (then_select {ns} x p q n s v cs e) b = rw e (join_second ns _ refl)
made_nodes (the_loop y x p q n v k e) b = rw e refl

pub no_list : {g : Graph} {l : List ℕ} {h : ℕ} {ks : Nodes} → ShowsNodes g l h ks → h ≡ 0 → ks ≡ ⟨⟩
no_list (no_nodes e) b = refl
no_list (all_blocks x a some e) b = absurd (omega arith)
no_list (two_lists x a p c d n m e) b = absurd (omega arith)
no_list (then_exit x p n t e) b = absurd (omega arith)
no_list (then_select x p q n s v cs e) b = absurd (omega arith)
no_list (the_loop y x p q n v k e) b = absurd (omega arith)

module _ {g : Graph} {w : List ℕ} {h : ℕ} {ks : Nodes} (n : ShowsChildren g w h ks) where
  pub empty_list : h ≡ 0 → ks ≡ ⟨⟩
  empty_list e = no_list n.nodes e

  pub filled_list : (h ≡ 0 → ⊥) → has_children ks ≡ true
  filled_list d = made_nodes n.nodes (omega arith)

  pub has_list : has_children ks ≡ not (eqb h 0)
  has_list =
      elim (ℕ_discrete h 0) [
        | yes e ↦ rw (eq-eqb h 0 e, empty_list e)
        | no d ↦ rw (ne_eqb h 0 d) (filled_list d)
      ]

-- ---- A list behind another.
pub join_none : (ns : Nodes) → join ns ⟨⟩ ≡ ns
join_none ⟨⟩ = refl
join_none (n ▸ ns) = ap (λ m. n ▸ m) (join_none ns)

pub record Joined (g : Graph) (w w' : List ℕ) (h : ℕ) (ks : Nodes) : Type 0 where
  pub nodes : ShowsChildren g w' h ks
  pub made_stays : PreservesMade g w w'
  pub tables : SameTables w w'
  pub states : StatesStay g w w'
  pub regions : (q : ℕ) → KeptRegion w w' q
  pub changes : ChangesOnly cells cells_at w w'
  pub total_from : word w head cells_at ≤ word w' head cells_at
  pub total_to : word w' head cells_at ≤ suc (word w head cells_at)

pub list_joined : {w w' : List ℕ} {a b h : ℕ} {g : Graph} {ns ms : Nodes} → word w head cells_at < most_cells → used ≤ length w
    → Joins w w' a b h
    → ShowsChildren g w a ns → ShowsChildren g w b ms → Joined g w w' h (join ns ms)
list_joined {w} {w'} {a} {b} {h} {g} {ns} {ms} free room step n m = go step
  where
    unchanged : {c : ℕ} {ks : Nodes} → w' ≡ w → h ≡ c → ShowsChildren g w c ks → Joined g w w' h ks
    unchanged same e x =
        let changes = nothing_changes cells cells_at w in
        rw (same, e)
        record {
          nodes = x;
          made_stays = preserves_same g w;
          tables = same_words w;
          states = states_by changes (omega arith) (omega arith) (omega arith) g;
          regions = kept_same w;
          changes = changes;
          total_from = omega arith;
          total_to = omega arith;
        }

    go : Joins w w' a b h → Joined g w w' h (join ns ms)
    go (first_empty e same f) = unchanged same f (rw (empty_list n e) m)
    go (second_empty d e same f) = unchanged same f (rw (empty_list m e, join_none ns) n)
    go (joined d e step) =
        let t = cell_total step free room in
        let q = cell_handle step free room in
        let made_stays = cell_preserves step free room g in
        record {
          nodes = record {
            nodes = two_lists (cell_there step free room) (omega arith) (before_handle step free room n.made) (omega arith)
                (before_handle step free room m.made) (made_stays.nodes_stay n).nodes (made_stays.nodes_stay m).nodes refl;
            made = new_made step free room;
          };
          made_stays = made_stays;
          tables = cell_tables step free room;
          states = cell_states step free room g;
          regions = cell_regions step free room;
          changes = cell_changes step free room;
          total_from = omega arith;
          total_to = omega arith;
        }
