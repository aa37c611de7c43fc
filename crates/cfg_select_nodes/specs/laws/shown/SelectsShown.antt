-- A select that is defined, for every state that the words show: the same regions, value, node and cell, or the same refusal.
use Rattle.std.specs.Prelude.{◌≡◌, List, [], ℕ, ◌+◌, ◌≤◌, ◌<◌, length, drop}
use Rattle.std.proofs.Math.Path.{refl, ap}
use Rattle.std.proofs.Common.{sym, ◌∙◌, arith, drop_of_length-le, drop-cons}
use Rattle.std.proofs.Math.ListN.{get_or}
use Rattle.meaning.specs.Graph.{Graph, SelectionKind}
use Rattle.meaning.specs.Graph as graph
use Rattle.meaning.specs.Runs.{Nodes, ⟨⟩, ◌▸◌, Cases, case_count}
use Rattle.nesting.specs.Nesting as nesting
use Rattle.nesting.specs.Nesting.{MaybeClaimedRegion, LazyCond, NestState, StepAnswer, done, turned_away, join, new_select, DefinedSelect}
use Rattle.nesting.specs.Nesting.{define_select, scrutinee_value, case_regions, most_nodes}
use Rattle.std.specs.Prelude.{Ok}
use Rattle.state_words.specs.Totals.{Defined, Made, Done, Full}
use Rattle.state_words.specs.Sections as sections
use Rattle.state_words.specs.Sections.{Section, number, section, word, used, head, children, cases, outputs, cells}
use Rattle.state_words.specs.laws.Apart.{section_other}
use Rattle.state_regions.specs.RegionTables.{case_total}
use Rattle.state_words.specs.Totals.{Defines, defined}
use Rattle.state_shown.specs.Values.{value}
use Rattle.state_shown.specs.laws.Stores.{ChangesOnly, nothing_changes, head_changes, changes_then}
use Rattle.state_shown.specs.Tables.{ShowsTables, ShowsShape, ShowsCondition, shows_done}
use Rattle.state_shown.specs.laws.DefinedShown.{done_of, full_of}
use Rattle.state_shown.specs.laws.Elsewhere.{SameTables, tables_stay, same_then}
use Rattle.state_shown.specs.laws.Steps.{node_defined}
use Rattle.state_shown.specs.Cells.{ShowsChildren}
use Rattle.state_shown.specs.States.{ShowsCases, no_case}
use Rattle.state_shown.specs.Kept.{PreservesMade}
use Rattle.state_shown.specs.laws.RegionsKept.{preserves_same, preserves_then}
use Rattle.state_shown.specs.laws.CellSteps.{ShowsCaseList, no_case_list, case_added, select_added, cell_changes, cell_preserves}
use Rattle.state_shown.specs.laws.CellSteps.{cell_total}
use Rattle.state_shown.specs.laws.CellSteps.{cell_there, cell_handle, cell_tables}
use Rattle.state_shown.specs.laws.RegionSteps.{preserves_by, word_concerns, children_set, tables_by}
use Rattle.cfg_lookups.specs.laws.shown.ConditionsShown.{ShowsValue, materialize_shown}
use Rattle.cfg_select_nodes.specs.declared.define.Scrutinee.{Scrutinee}
use Rattle.cfg_select_nodes.specs.declared.define.Scrutinee.TheVariants.{Value, Lazy}
use Rattle.cfg_select_nodes.specs.Turns.{Turns}
use Rattle.cfg_select_nodes.specs.Cases.{children_of, GetsRegion}
use Rattle.cfg_select_nodes.specs.laws.shown.CasesShown.{children_shown}
use Rattle.cfg_select_nodes.specs.Selects as words
use Rattle.cfg_select_nodes.specs.Selects.{CaseCells, cells_over, cell_more}
use Rattle.cfg_select_nodes.specs.laws.shown.RegionsShown.{cases_from, count_from, body_at, KeepsCases, regions_keep, ShowsKind}
use Rattle.cfg_select_nodes.specs.laws.shown.RegionsShown.{kind_shown}
use Rattle.cfg_select_nodes.specs.laws.shown.RegionsShown.{RegionsDone, ShowsMade, made_of, refused_of, regions_shown}
use Rattle.cfg_select_nodes.specs.laws.shown.Places.{from_start}
use Rattle.cfg_select_nodes.specs.laws.shown.StepsShown.{SelectStep, step_then, step_by, step_regions, step_children, cases_stay}
use Rattle.nesting.specs.steps.TargetsAndCases.{children_in}
use Rattle.format.specs.Refusals.{too_many}
use Rattle.state_words.specs.Rows.{case_body_at, cell_word_at, cells_at, most_cells, nodes_at, outputs_at, select_node, select_scrutinee}
use Rattle.state_words.specs.Rows.{select_shape}

children_same : (w w' : List ℕ) → section w' cases ≡ section w cases → (j : ℕ) → children_of w' j ≡ children_of w j
unfolding children_of
children_same w w' e j = rw e

-- ---- The cells of the cases.
module _ (g : Graph) (cs : List MaybeClaimedRegion) (body : ℕ → ℕ) where
  record CellsShown (w w' : List ℕ) (h n : ℕ) : Type 0 where
    list : ShowsCaseList g w' h (cases_from body 0 cs)
    changes : ChangesOnly cells cells_at w w'
    made_stays : PreservesMade g w w'
    total : word w' head cells_at ≡ word w head cells_at + n

  -- The cases from place n on have their cells.
  cells_shown : {n h h' : ℕ} {w w' : List ℕ} → CaseCells n h w w' h' → n ≤ length cs → word w head cells_at + n ≤ most_cells
      → used ≤ length w
      → ((j : ℕ) → j < length cs → ShowsChildren g w (children_of w j) (children_in (get_or cs j no_case)))
      → ((j : ℕ) → j < length cs → body_at w j ≡ body j) → ShowsCaseList g w h (cases_from body n (drop n cs))
      → CellsShown w w' h' n
  cells_shown {w} (cells_over n e q) few free room kids own list =
      rw (e, q)
      record {
        list = rw n at list;
        changes = nothing_changes cells cells_at w;
        made_stays = preserves_same g w;
        total = omega arith;
      }
  cells_shown {n} {w} (cell_more {m} {l₁} e x y) few free room kids own list =
      let free₁ : word w head cells_at < most_cells = omega arith in
      let handle = cell_handle x free₁ room in
      let total = cell_total x free₁ room in
      let changes = cell_changes x free₁ room in
      let made_stays = cell_preserves x free₁ room g in
      let same = changes.others cases (omega arith) (omega arith) in
      let below : m < length cs = omega arith in
      let added = case_added free₁ room x (kids m below) (rw e at list) in
      let rest = cells_shown {n = m} y (omega arith) (omega arith) (rw changes.words room)
      (λ j h. rw (children_same w l₁ same j) (made_stays.nodes_stay (kids j h)))
      (λ j h. ap (λ l. get_or l (case_body_at j) 0) same ∙ own j h)
      (rw (drop-cons cs m no_case below, ← own m below) added) in
      let more = rest.total in
      record {
        list = rest.list;
        changes = changes_then changes rest.changes;
        made_stays = preserves_then made_stays rest.made_stays;
        total = omega arith;
      }

-- ---- The select behind region r's children.
pub record SelectPlaced (g : Graph) (r : ℕ) (w w' : List ℕ) (h node shape x many : ℕ) (ks : Nodes) : Type 0 where
  pub nodes : ShowsChildren g w' (word w' children r) ks
  pub is_node : select_node w' h ≡ node
  pub is_shape : select_shape w' h ≡ shape
  pub is_scrutinee : select_scrutinee w' h ≡ x
  pub is_made : h < word w' head cells_at
  pub tables : SameTables w w'
  pub step : SelectStep g r w w'
  pub total : word w' head cells_at ≡ word w head cells_at + (many + 1)
  pub same : (k : Section) → (number k ≡ number sections.head → ⊥) → (number k ≡ number sections.children → ⊥)
      → (number k ≡ number sections.cells → ⊥) → section w' k ≡ section w k

module _ (g : Graph) (cs : List MaybeClaimedRegion) (r : ℕ) (below : r < 32) where
  placed : {node shape x h : ℕ} {w w' : List ℕ} {parent : Nodes} {kind : SelectionKind} {v : graph.Value}
      → words.SelectAdded r node shape x w w' h → case_total w ≡ length cs → word w head cells_at + (length cs + 1) ≤ most_cells
      → used ≤ length w
      → ((j : ℕ) → j < length cs → ShowsChildren g w (children_of w j) (children_in (get_or cs j no_case)))
      → ShowsChildren g w (word w children r) parent → ShowsShape shape (length cs) kind → value x ≡ v
      → SelectPlaced g r w w' h node shape x (length cs) (join parent (new_select node kind v (cases_from (body_at w) 0 cs) ▸ ⟨⟩))
  placed {node} {shape} {x} {h} {w} {parent} {kind} {v} (words.select_added {l₁} {l₂} {cs = q} {before} cells_made b y e) size free room
      kids p k of_value =
      let one = p.made in
      let none : drop (length cs) cs ≡ [] = drop_of_length-le cs {i = length cs} (omega arith) in
      let first : ShowsCaseList g w 0 (cases_from (body_at w) (length cs) (drop (length cs) cs)) = rw none (no_case_list (omega arith)) in
      let m = cells_shown g cs (body_at w) (rw size at cells_made) (omega arith) (omega arith) room kids (λ j i. refl) first in
      let count = m.total in
      let free₂ : word l₁ head cells_at < most_cells = omega arith in
      let room₂ : used ≤ length l₁ = rw m.changes.words room in
      let parent₁ : ShowsChildren g l₁ before parent =
      rw (b, m.changes.others children (omega arith) (omega arith)) (m.made_stays.nodes_stay p) in
      let k₁ : ShowsShape shape (case_count (cases_from (body_at w) 0 cs)) kind = rw (count_from (body_at w) 0 cs) k in
      let chosen = select_added free₂ room₂ y parent₁ k₁ of_value m.list in
      let room₃ : used ≤ length l₂ = rw (cell_changes y free₂ room₂).words room₂ in
      let there = cell_there y free₂ room₂ in
      let same = section_other l₂ children r h cells (omega arith) in
      let counted = cell_total y free₂ room₂ in
      let handle = cell_handle y free₂ room₂ in
      let c = word_concerns g l₂ children (omega arith) r h in
      rw e
      record {
        nodes = children_set g l₂ room₃ r below chosen;
        is_node = ap (λ l. get_or l (cell_word_at h 2) 0) same ∙ there.is 2 (omega arith);
        is_shape = ap (λ l. get_or l (cell_word_at h 3) 0) same ∙ there.is 3 (omega arith);
        is_scrutinee = ap (λ l. get_or l (cell_word_at h 4) 0) same ∙ there.is 4 (omega arith);
        is_made = (let z = c.same_head cells_at in omega arith);
        tables = same_then (tables_by m.changes (omega arith) (λ q a b e. b e)) (same_then (cell_tables y free₂ room₂) c.tables);
        step = step_then (step_by m.changes (omega arith) (omega arith) (omega arith) (omega arith) g r m.made_stays)
            (step_then (step_by (cell_changes y free₂ room₂) (omega arith) (omega arith) (omega arith) (omega arith) g r
            (cell_preserves y free₂ room₂ g)) (step_children g r l₂ h));
        total = c.same_head cells_at ∙ omega arith;
        same = λ k a b d. section_other l₂ children r h k b ∙ (cell_changes y free₂ room₂).others k d a ∙ m.changes.others k d a;
      }

-- ---- The scrutinee.
pub data ShowsScrutinee (w : List ℕ) : Scrutinee → nesting.Scrutinee → Type 0 where
  shows_value : {x : ℕ} {v : graph.Value} → value x ≡ v → ShowsScrutinee w (Value x) (nesting.value v)
  shows_lazy : {c : ℕ} {t : LazyCond} → ShowsCondition w c t → ShowsScrutinee w (Lazy c) (nesting.lazy t)

pub scrutinee_stays : {g : Graph} {w w' : List ℕ} → PreservesMade g w w' → {x : Scrutinee} {y : nesting.Scrutinee} → ShowsScrutinee w x y
    → ShowsScrutinee w' x y
scrutinee_stays made_stays (shows_value e) = shows_value e
scrutinee_stays made_stays (shows_lazy c) = shows_lazy (made_stays.conditions_stay c)

scrutinee_shown : {w w' : List ℕ} {x : Scrutinee} {y : nesting.Scrutinee} {a : Defined} {s : NestState} → words.ScrutineeMade w x w' a
    → ShowsScrutinee w x y → ShowsTables w s → ShowsValue w w' a (scrutinee_value y s)
scrutinee_shown {w} (words.given_value e) (shows_value q) t =
    rw e (record { answer = shows_done q t; changes = nothing_changes outputs outputs_at w })
scrutinee_shown (words.made_value m) (shows_lazy c) t = materialize_shown m c t

-- ---- The select.
pub record SelectDone (g : Graph) (r : ℕ) (cs : List MaybeClaimedRegion) (parent : Nodes) (w w' : List ℕ) (h : ℕ) (n : DefinedSelect)
    (s : NestState) : Type 0 where
  pub tables : ShowsTables w' s
  pub step : SelectStep g r w w'
  pub nodes : ShowsChildren g w' (word w' children r) (join parent n.children)
  pub node : select_node w' h ≡ n.node
  pub shape : ShowsShape (select_shape w' h) (length cs) n.kind
  pub scrutinee : value (select_scrutinee w' h) ≡ n.scrutinee
  pub made : h < word w' head cells_at
  pub same : (k : Section) → (number k ≡ number sections.head → ⊥) → (number k ≡ number sections.children → ⊥)
      → (number k ≡ number sections.cases → ⊥) → (number k ≡ number sections.outputs → ⊥) → (number k ≡ number sections.cells → ⊥)
      → section w' k ≡ section w k
  pub total : word w' head cells_at ≡ word w head cells_at + (length cs + 1)

pub data ShowsSelect (g : Graph) (r : ℕ) (cs : List MaybeClaimedRegion) (parent : Nodes) (w w' : List ℕ)
    : Defined → StepAnswer DefinedSelect → Type 0 where
  shows_select : {h : ℕ} {n : DefinedSelect} {s : NestState} → SelectDone g r cs parent w w' h n s
      → ShowsSelect g r cs parent w w' (Ok h) (done n s)
  shows_no_select : ShowsSelect g r cs parent w w' Full (turned_away too_many 0)

module _ {g : Graph} {r : ℕ} {cs : List MaybeClaimedRegion} {parent : Nodes} {w : List ℕ} {s : NestState} {kind : SelectionKind}
    {shape : ℕ} {x : Scrutinee} {y : nesting.Scrutinee}
    (below : r < 32) (t : ShowsTables w s) (shown : ShowsCases g w r cs) (scrutinee : ShowsScrutinee w x y)
    (of_shape : ShowsShape shape (length cs) kind) (own : ShowsChildren g w (word w children r) parent)
    (free : word w head cells_at + (length cs + 1) ≤ most_cells) where
  -- The cases have their regions.
  record WithRegions (l : List ℕ) : Type 0 where
    made : Cases
    state : NestState
    is : case_regions cs s ≡ done made state
    cases_are : made ≡ cases_from (body_at l) 0 cs
    tables : ShowsTables l state
    keeps : KeepsCases 0 w l

  regions_answer : {l : List ℕ} {a : Made} → Turns GetsRegion (case_total w) 0 w l a → ShowsMade (RegionsDone 0 cs l) a (case_regions cs s)
  regions_answer m =
      let few = shown.few in
      regions_shown cs 0 shown.size (from_start no_case (ShowsKind w) cs (λ j h. kind_shown (shown.each j h))) t (omega arith) m

  with_regions : {l : List ℕ} → Turns GetsRegion (case_total w) 0 w l Done → WithRegions l
  with_regions m =
      let x = made_of (regions_answer m) in
      record {
        made = x.value;
        state = x.state;
        is = x.is;
        cases_are = x.shows.0;
        tables = x.shows.1;
        keeps = regions_keep m;
      }

  scrutinee_after : {l l' : List ℕ} {a : Defined} (z : WithRegions l) → words.ScrutineeMade l x l' a
      → ShowsValue l l' a (scrutinee_value y z.state)
  scrutinee_after z m = scrutinee_shown m (scrutinee_stays (step_regions z.keeps g r).made_stays scrutinee) z.tables

  -- All is defined but the select's cells.
  finished : {l w' : List ℕ} {h node c : ℕ} {v : graph.Value} {ks : Cases} {s₁ : NestState} → SelectStep g r w l → ShowsTables l s₁
      → ((k : Section) → (number k ≡ number sections.head → ⊥) → (number k ≡ number sections.cases → ⊥)
      → (number k ≡ number sections.outputs → ⊥) → section l k ≡ section w k)
      → word l head cells_at ≡ word w head cells_at
      → ks ≡ cases_from (body_at l) 0 cs → value c ≡ v → words.SelectAdded r node shape c l w' h
      → SelectDone g r cs parent w w' h
      (record { node = node; kind = kind; scrutinee = v; children = new_select node kind v ks ▸ ⟨⟩ }) s₁
  finished {l} step t₁ same same_total are of_value added =
      let shown₁ = cases_stay step shown in
      let own₁ : ShowsChildren g l (word l children r) parent =
      rw (same children (omega arith) (omega arith) (omega arith)) (step.made_stays.nodes_stay own) in
      let one = own₁.made in
      let p = placed g cs r below added shown₁.size (omega arith) t₁.size
      (λ j h. children_shown (omega arith) j (get_or cs j no_case) (shown₁.each j h)) own₁ of_shape of_value in
      let count = p.total in
      record {
        tables = tables_stay p.tables t₁;
        step = step_then step p.step;
        nodes = rw are p.nodes;
        node = p.is_node;
        shape = rw p.is_shape of_shape;
        scrutinee = ap value p.is_scrutinee ∙ of_value;
        made = p.is_made;
        same = λ k a b d e f. p.same k a b f ∙ same k a d e;
        total = omega arith;
      }

  node_changes : {l l' : List ℕ} {n : ℕ} → Defines 1 most_nodes l l' (Ok n) → ChangesOnly outputs nodes_at l l'
  node_changes {l} (defined {n} p h e) = rw e (head_changes outputs nodes_at l (n + 1))

  pub select_shown : {w' : List ℕ} {a : Defined} → words.SelectDefined r shape x w w' a
      → ShowsSelect g r cs parent w w' a (define_select kind y cs s)
  unfolding define_select
  select_shown (words.regions_full m) = rw (refused_of (regions_answer m)) shows_no_select
  select_shown (words.scrutinee_full m v) =
      let z = with_regions m in
      let q = scrutinee_after z v in
      rw (z.is, full_of q.answer refl) shows_no_select
  select_shown (words.node_full m v n) =
      let z = with_regions m in
      let q = done_of (scrutinee_after z v).answer refl in
      rw (z.is, q.is, full_of (node_defined q.tables n) refl) shows_no_select
  select_shown (words.select_defined {l₁} {l₃} m v n added) =
      let z = with_regions m in
      let a = z.keeps.changes in
      let value_made = scrutinee_after z v in
      let b = value_made.changes in
      let q = done_of value_made.answer refl in
      let d = done_of (node_defined q.tables n) refl in
      let c = node_changes n in
      let same_cases : section l₃ cases ≡ section l₁ cases =
      c.others cases (omega arith) (omega arith) ∙ b.others cases (omega arith) (omega arith) in
      rw (z.is, q.is, d.is, ← d.shows)
      (shows_select (finished
      (step_then (step_regions z.keeps g r)
      (step_then (step_by b (omega arith) (omega arith) (omega arith) (omega arith) g r (preserves_by b (omega arith) g))
      (step_by c (omega arith) (omega arith) (omega arith) (omega arith) g r (preserves_by c (omega arith) g))))
      d.tables
      (λ k d e f. c.others k f d ∙ b.others k f d ∙ a.others k e d)
      (c.totals cells_at (omega arith) ∙ b.totals cells_at (omega arith) ∙ a.totals cells_at (omega arith))
      (z.cases_are ∙ ap (λ l. cases_from (λ j. get_or l (case_body_at j) 0) 0 cs) (sym same_cases)) q.shows added))
