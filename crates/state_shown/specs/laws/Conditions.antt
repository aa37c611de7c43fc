-- A lazy condition record more; what was made before it stays.
use Rattle.std.specs.Prelude.{◌≡◌, List, ◌∷◌, length, get_or}
use Rattle.std.proofs.Common.{sym, ap, ◌∙◌, lt-ltb, le-ltb, ne_eqb}
use Prim.Native.Nat.{ℕ, suc, ◌+◌, ◌≤◌, ◌<◌}
use native.Mathlib.Omega.{arith}
use Rattle.std.proofs.lemmas.List.Edits.{sets}
use Rattle.std.proofs.Math.Decide.{dec_lt}
use Rattle.meaning.specs.Graph.{Value, SelectionKind, Graph}
use Rattle.nesting.specs.Nesting.{LazyCond, LazyConds, merge, NestState, define, define_merge, add_merge, most_merges}
use Rattle.state_words.specs.Totals.{Defined}
use Rattle.state_words.specs.Sections.{section, word, stored, stored_all, head, rewrites, outputs, conditions, cells, used, start, size}
use Rattle.state_words.specs.laws.Apart.{section_other}
use Rattle.state_nodes.specs.NodeTables.{MergeDefined, merge_defined, merges_full, shape_size, select_word}
use Rattle.state_shown.specs.Values.{value}
use Rattle.state_shown.specs.Kept.{PreservesMade}
use Rattle.state_shown.specs.laws.FrontKept.{front_by}
use Rattle.state_shown.specs.laws.Stores.{section_run, part_length, head_same, ChangesOnly, head_changes, run_changes, changes_then}
use Rattle.state_shown.specs.laws.Stores.{nothing_changes}
use Rattle.meaning.specs.facts.Parts.{run_before, run_in}
use Rattle.state_shown.specs.Tables.{ShowsShape, shape_bool, shape_number, cond_count, ShowsCond, shows_true, shows_false}
use Rattle.state_shown.specs.Tables.{shows_undef}
use Rattle.state_shown.specs.Tables.{shows_merge, ShowsConds, no_parts, part_and, ShowsCondition, ShowsParts, none_left, one_and}
use Rattle.state_shown.specs.Tables.{ShowsTables, ShowsDefined, shows_done, shows_full}
use Rattle.state_words.specs.Rows.{attempts_at, cell_row_at, cell_word, cell_word_at, cells_at, merge_part_at, merge_row_at, merge_select}
use Rattle.state_words.specs.Rows.{merge_select_at, merge_word_at, merges_at, merges_from, nodes_at, outputs_at, regions_at, select_node}
use Rattle.state_words.specs.Rows.{select_scrutinee, select_shape, twice_at, bool_shape}

-- How many cases the shape of a record says it has.
pub shape_cases : {shape n : ℕ} {kind : SelectionKind} → ShowsShape shape n kind → shape_size shape ≡ n
unfolding shape_size
shape_cases (shape_bool e f) = rw (e, f)
shape_cases {shape} (shape_number a b e) =
    elim (dec_lt shape 8) [
      | yes h ↦ rw (ne_eqb shape bool_shape (omega arith), lt-ltb shape 8 h) (sym e)
      | no h ↦ rw (ne_eqb shape bool_shape (omega arith), le-ltb shape 8 (omega arith)) (omega arith)
    ]

pub few_cases : {shape n : ℕ} {kind : SelectionKind} → ShowsShape shape n kind → n ≤ 8
few_cases (shape_bool e f) = omega arith
few_cases (shape_number a b e) = omega arith

-- ---- A condition stays where its records' words do, and those of the cells that were made.
-- Of the conditions below m.
pub record ConditionsStay (m : ℕ) (w w' : List ℕ) : Type 0 where
  pub record_words : (i : ℕ) → i < merge_row_at m → word w' conditions i ≡ word w conditions i
  pub made_cells : (i : ℕ) → i < cell_row_at (word w head cells_at) → word w' cells i ≡ word w cells i
  pub as_many : word w head cells_at ≤ word w' head cells_at

module _ {m : ℕ} {w w' : List ℕ} (stay : ConditionsStay m w w') where
  select_stays : (c i : ℕ) → c < m → i < 6 → merge_select w c < word w head cells_at → select_word w' c i ≡ select_word w c i
  select_stays c i h d b =
      ap (λ p. cell_word w' p i) (stay.record_words (merge_select_at c) (omega arith))
      ∙ stay.made_cells (cell_word_at (merge_select w c) i) (omega arith)

  mutual
    pub cond_stays : {c : ℕ} {t : LazyCond} → ShowsCond w c t → c < m → ShowsCond w' c t
    cond_stays (shows_true e) h = shows_true e
    cond_stays (shows_false e) h = shows_false e
    cond_stays (shows_undef e) h = shows_undef e
    cond_stays (shows_merge {c} {kind} {ts} a b n k v ps) h =
        let same = stay.record_words (merge_select_at c) (omega arith) in
        let more = stay.as_many in
        shows_merge {kind = kind} {ts = ts} a (omega arith) (select_stays c 2 h (omega arith) b ∙ n)
        (rw (select_stays c 3 h (omega arith) b) k) (ap value (select_stays c 4 h (omega arith) b) ∙ v)
        (conds_stay ps h (let z = few_cases k in omega arith))

    conds_stay : {c j : ℕ} {ts : LazyConds} → ShowsConds w c j ts → c < m → j + cond_count ts ≤ 8 → ShowsConds w' c j ts
    conds_stay no_parts h f = no_parts
    conds_stay (part_and {c} {j} e b p ps) h f =
        part_and (stay.record_words (merge_part_at c j) (omega arith) ∙ e) b (cond_stays p (omega arith)) (conds_stay ps h (omega arith))

-- Where both sections are the same, and so many cells were made.
module _ {w w' : List ℕ} (same_conditions : section w' conditions ≡ section w conditions) (same_cells : section w' cells ≡ section w cells)
    (same_total : word w' head cells_at ≡ word w head cells_at) {c : ℕ} {t : LazyCond} where
  pub cond_same : ShowsCond w c t → ShowsCond w' c t
  cond_same x =
      cond_stays {m = suc c} record {
        record_words = λ i h. ap (λ l. get_or l i 0) same_conditions;
        made_cells = λ i h. ap (λ l. get_or l i 0) same_cells;
        as_many = omega arith;
      } x (omega arith)

  pub condition_same : word w' head merges_at ≡ word w head merges_at → ShowsCondition w c t → ShowsCondition w' c t
  condition_same e x = record { tree = cond_same x.tree; made = rw e x.made }

-- ---- A record more.
module _ (w : List ℕ) (h : ℕ) (ps : List ℕ) (m : ℕ) where
  abbrev its_words : List ℕ
  its_words = h ∷ ps

  abbrev with_record : List ℕ
  with_record = stored_all w conditions (merge_row_at (merges_from + m)) its_words

  abbrev after : List ℕ
  after = stored with_record head merges_at (m + 1)

  record_changes : ChangesOnly conditions merges_at w after
  record_changes = changes_then (run_changes conditions merges_at w (omega arith) (merge_row_at (merges_from + m)) its_words)
      (head_changes conditions merges_at with_record (m + 1))

  conditions_after : section after conditions ≡ sets (section w conditions) (merge_row_at (merges_from + m)) its_words
  conditions_after = section_other with_record head merges_at (m + 1) conditions (omega arith)
      ∙ section_run w conditions (merge_row_at (merges_from + m)) its_words

  cells_after : section after cells ≡ section w cells
  cells_after = record_changes.others cells (omega arith) (omega arith)

  stay_after : ConditionsStay (merges_from + m) w after
  stay_after =
      let same = record_changes.totals cells_at (omega arith) in
      record {
        record_words = λ i b. ap (λ l. get_or l i 0) conditions_after
            ∙ run_before (section w conditions) (merge_row_at (merges_from + m)) its_words i b;
        made_cells = λ i b. ap (λ l. get_or l i 0) cells_after;
        as_many = omega arith;
      }

  module _ (room : used ≤ length w) (p : m ≡ word w head merges_at) (most : m < most_merges) where
    total_after : word after head merges_at ≡ m + 1
    total_after = head_same with_record merges_at (m + 1)
        (rw (run_changes conditions merges_at w (omega arith) (merge_row_at (merges_from + m)) its_words).words room)
        (omega arith)

    kept_after : {c : ℕ} {t : LazyCond} → ShowsCondition w c t → ShowsCondition after c t
    kept_after y =
        let z = y.made in record { tree = cond_stays stay_after y.tree (omega arith); made = rw total_after (omega arith) }

    module _ (len : length ps ≡ 8) where
      word_after : (i : ℕ) → i < 9 → word after conditions (merge_word_at (merges_from + m) i) ≡ get_or its_words i 0
      word_after i b =
          let z = part_length (start conditions) (size conditions) w (omega arith) in
          ap (λ l. get_or l (merge_word_at (merges_from + m) i) 0) conditions_after
          ∙ run_in (section w conditions) (merge_row_at (merges_from + m)) its_words i (omega arith) (omega arith)

      parts_after : {j : ℕ} {ts : LazyConds} → ShowsParts w ps j ts → j + cond_count ts ≤ 8 → ShowsConds after (merges_from + m) j ts
      parts_after none_left f = no_parts
      parts_after (one_and {j} y ys) f =
          let z = y.made in
          let e : 1 + j ≡ suc j = omega arith in
          part_and {p = get_or ps j 0} (word_after (1 + j) (omega arith) ∙ rw e) (omega arith) (cond_stays stay_after y.tree (omega arith))
          (parts_after ys (omega arith))

      -- Of the select whose cell is h.
      record_after : h < word w head cells_at → {n : ℕ} {kind : SelectionKind} {v : Value} {ts : LazyConds} → select_node w h ≡ n
          → ShowsShape (select_shape w h) (cond_count ts) kind → value (select_scrutinee w h) ≡ v → ShowsParts w ps 0 ts
          → ShowsCondition after (merges_from + m) (merge n kind v ts)
      record_after b {kind} {ts} n k v ys =
          let here = word_after 0 (omega arith) in
          let more = record_changes.totals cells_at (omega arith) in
          let few = few_cases k in
          let field : (i : ℕ) → select_word after (merges_from + m) i ≡ cell_word w h i =
          λ i. ap (λ q. cell_word after q i) here ∙ ap (λ l. get_or l (cell_word_at h i) 0) cells_after in
          record {
            tree = shows_merge {c = merges_from + m} {kind = kind} {ts = ts} (omega arith) (omega arith) (field 2 ∙ n) (rw (field 3) k)
                (ap value (field 4) ∙ v) (parts_after ys (omega arith));
            made = rw total_after (omega arith);
          }

pub merge_changes : {h : ℕ} {ps w w' : List ℕ} {a : Defined} → MergeDefined h ps w w' a → ChangesOnly conditions merges_at w w'
merge_changes {h} {ps} {w} (merge_defined {m} p most r e) = rw (e, r) (record_changes w h ps m)
merge_changes {w} (merges_full most e) = rw e (nothing_changes conditions merges_at w)

module _ {w w' : List ℕ} {s : NestState} (t : ShowsTables w s) {h : ℕ} {ps : List ℕ} where
  pub merge_made : h < word w head cells_at → {n : ℕ} {kind : SelectionKind} {v : Value} {ts : LazyConds} → select_node w h ≡ n
      → ShowsShape (select_shape w h) (cond_count ts) kind → value (select_scrutinee w h) ≡ v → length ps ≡ 8
      → ShowsParts w ps 0 ts → {a : Defined} → MergeDefined h ps w w' a
      → ShowsDefined (λ c u. ShowsCondition w' c (merge n kind v ts)) w' a (define_merge s)
  unfolding define_merge
  merge_made b n k q len ys (merge_defined {m} p most r e) =
      let same : m ≡ s.merge_count = p ∙ t.merge_total in
      let more : m + 1 ≡ suc s.merge_count = omega arith in
      let g = record_changes w h ps m in
      rw (lt-ltb s.merge_count most_merges (omega arith), define, e, r)
      (shows_done {s = add_merge s}
      (record_after w h ps m t.size p most len b n k q ys)
      record {
        size = rw g.words t.size;
        region_total = g.totals regions_at (omega arith) ∙ t.region_total;
        node_total = g.totals nodes_at (omega arith) ∙ t.node_total;
        merge_total = total_after w h ps m t.size p most ∙ more;
        output_total = g.totals outputs_at (omega arith) ∙ t.output_total;
        attempts = g.totals attempts_at (omega arith) ∙ t.attempts;
        twice = g.totals twice_at (omega arith) ∙ t.twice;
        few_regions = t.few_regions;
        few_nodes = t.few_nodes;
        few_merges = omega arith;
        few_outputs = t.few_outputs;
        rewritten = rw (g.others rewrites (omega arith) (omega arith)) t.rewritten;
        outputs_shown = rw (g.others outputs (omega arith) (omega arith)) t.outputs_shown;
      })
  merge_made b n k q len ys (merges_full most e) =
      let z = t.merge_total in rw (le-ltb s.merge_count most_merges (omega arith), define) shows_full

  condition_kept : {a : Defined} → MergeDefined h ps w w' a → {c : ℕ} {u : LazyCond} → ShowsCondition w c u → ShowsCondition w' c u
  condition_kept (merge_defined {m} p most r e) y = rw (e, r) (kept_after w h ps m t.size p most y)
  condition_kept (merges_full most e) y = rw e y

  pub merge_preserves : {a : Defined} → MergeDefined h ps w w' a → (g : Graph) → PreservesMade g w w'
  merge_preserves d g =
      let changes = merge_changes d in
      record {
        front = front_by changes (omega arith);
        conditions_stay = condition_kept d;
        nodes_stay = λ k. record {
          nodes = rw (changes.others cells (omega arith) (omega arith)) k.nodes;
          made = rw (changes.totals cells_at (omega arith)) k.made;
        };
      }
