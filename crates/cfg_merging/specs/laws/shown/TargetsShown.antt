-- For every cases that the words show: after `deferred_targets` the spare slot has a row for each of the definition's deferred targets.
use Rattle.std.specs.Prelude.{◌≡◌, refl, Bool, true, false, length, get_or, set, ltb, eqb}
use Rattle.std.proofs.Common.{sym, ap, ◌∙◌, length-set, length-append, get_or-set_same, get_or-set_other}
use Rattle.std.proofs.Math.Path.{subst}
use mathlib.Core.List.{List, [], ◌∷◌, ◌++◌}
use Prim.Native.Nat.{ℕ, zero, suc, ◌+◌, ◌-◌, ◌≤◌, ◌<◌}
use native.Mathlib.Omega.{arith}
use Rattle.std.proofs.Math.Decide.{dec_lt, ℕ_discrete}
use Rattle.std.proofs.Math.ListN.{get_or-append}
use Rattle.std.proofs.Math.Seq.{get_or-append_seam}
use borrow.Author.Tests.{lt-ltb, le-ltb, eq-eqb, ne_eqb, eqb-false}
use Rattle.meaning.specs.Lists.{pick, total}
use Rattle.meaning.specs.Graph.{Graph}
use Rattle.format.specs.Valid.{Valid}
use Rattle.nesting.specs.Nesting as nesting
use Rattle.nesting.specs.Nesting.{DeferredTarget, to_return, DeferredEdgeBundle, DeferredEdgeBundleSet, same_target}
use Rattle.nesting.specs.Nesting.{NestState, DeferredTargetSummary, MaybeClaimedRegion, deferred_of}
use Rattle.state_words.specs.Sections.{start, size, used, section, word, stored, stored_all, set_starts, set_lengths, cases, bundles}
use Rattle.state_words.specs.laws.Edges.{edges_fit}
use Rattle.state_sets.specs.SetTables.{find_by, bundle_at}
use Rattle.state_words.specs.laws.Apart.{section_other}
use Rattle.state_shown.specs.laws.Stores.{section_run, run_length, part_length, word_there, word_apart}
use Rattle.state_shown.specs.Sets.{ShowsTarget, shows_region, shows_return, target_size, ShowsBundle, ShowsSet, no_bundle}
use Rattle.state_shown.specs.States.{ShowsState, ShowsCases, no_case}
use Rattle.state_shown.specs.Kept.{PreservesMade, KeptRegion}
use Rattle.state_shown.specs.laws.RegionsKept.{bundle_stays, set_stays}
use Rattle.cfg_merging.specs.Turns.{turned}
use Rattle.cfg_merging.specs.Targets.{longer, summarize_bundle, summarize_set, summarize_case, deferred_targets}
use Rattle.cfg_merging.specs.laws.shown.Spare.{SpareOnly, spare_same, spare_word, spare_length, spare_three, spare_then}
use Rattle.cfg_merging.specs.laws.shown.Spare.{spare_there, spare_preserves}
use Rattle.cfg_merging.specs.laws.shown.Spare.{spare_outside}
use Rattle.cfg_merging.specs.laws.shown.Spare.{spare_keeps, spare_state, spare_cases}
use Rattle.meaning.specs.facts.Pigeonhole.{pigeonhole}
use Rattle.state_shown.specs.laws.Finds.{bundle_in, targets_tell, FirstTo, first_at, none_to, finds_first}
use Rattle.meaning.specs.facts.Parts.{run_before, run_in}
use Rattle.nesting.specs.steps.TargetsAndCases.{same_target_is, same_target_self, summary_with}
use Rattle.state_words.specs.Rows.{bundle_condition, bundle_condition_at, bundle_count, bundle_count_at, bundle_row_at, bundle_target}
use Rattle.state_words.specs.Rows.{bundle_target_at, bundle_word, bundle_word_at, case_set_length, case_set_length_at, case_set_start}
use Rattle.state_words.specs.Rows.{case_set_start_at, largest, most_bundles, own_edges_from, spare_slot, slot_count, slot_size, return_word}
use Rattle.state_words.specs.Rows.{condition_true, no_bundle_word}

-- ---- The definition's step, by the first row to a bundle's target.
abbrev pub no_summary : DeferredTargetSummary
no_summary = record { target = to_return; input_count = 0; total_edge_count = 0 }

abbrev pub new_summary : DeferredEdgeBundle → DeferredTargetSummary
new_summary e = record { target = e.target; input_count = length e.target_inputs; total_edge_count = e.accumulated_count }

summarized_there : (e : DeferredEdgeBundle) (ts : List DeferredTargetSummary) (i : ℕ) → i < length ts
    → same_target e.target (get_or ts i no_summary).target ≡ true
    → ((k : ℕ) → k < i → same_target e.target (get_or ts k no_summary).target ≡ false)
    → nesting.summarize_bundle e ts ≡ set ts i (summary_with e (get_or ts i no_summary))
summarized_there e [] i h is before = absurd (omega arith)
summarized_there e (t ∷ ts) zero h is before = rw is
summarized_there e (t ∷ ts) (suc i) h is before =
    rw (before 0 (omega arith)) (ap (λ z. t ∷ z) (summarized_there e ts i (omega arith) is (λ k b. before (suc k) (omega arith))))

summarized_new : (e : DeferredEdgeBundle) (ts : List DeferredTargetSummary)
    → ((k : ℕ) → k < length ts → same_target e.target (get_or ts k no_summary).target ≡ false)
    → nesting.summarize_bundle e ts ≡ ts ++ (new_summary e ∷ [])
summarized_new e [] none = refl
summarized_new e (t ∷ ts) none =
    rw (none 0 (omega arith)) (ap (λ z. t ∷ z) (summarized_new e ts (λ k b. none (suc k) (omega arith))))

-- ---- The edges to a target: of rows, of a set, of all cases.
abbrev pub edges_of_rows : DeferredTarget → List DeferredTargetSummary → ℕ
edges_of_rows x ts = total (λ t. pick (same_target x t.target) t.total_edge_count 0) ts

abbrev pub edges_of_set : DeferredTarget → DeferredEdgeBundleSet → ℕ
edges_of_set x d = total (λ e. pick (same_target x e.target) e.accumulated_count 0) d

abbrev pub edges_of_cases : DeferredTarget → List MaybeClaimedRegion → ℕ
edges_of_cases x cs = total (λ c. edges_of_set x (deferred_of c)) cs

rows_more : (x : DeferredTarget) (e : DeferredEdgeBundle) (ts : List DeferredTargetSummary)
    → edges_of_rows x (nesting.summarize_bundle e ts) ≡ edges_of_rows x ts + pick (same_target x e.target) e.accumulated_count 0
rows_more x e [] = omega arith
rows_more x e (t ∷ ts) = go (same_target e.target t.target) refl (same_target x t.target) refl (rows_more x e ts)
  where
    go : (b : Bool) → same_target e.target t.target ≡ b → (c : Bool) → same_target x t.target ≡ c
        → edges_of_rows x (nesting.summarize_bundle e ts) ≡ edges_of_rows x ts + pick (same_target x e.target) e.accumulated_count 0
        → edges_of_rows x (nesting.summarize_bundle e (t ∷ ts))
        ≡ edges_of_rows x (t ∷ ts) + pick (same_target x e.target) e.accumulated_count 0
    go true p true q ih = rw (p, same_target_is e.target t.target p, q) (omega arith)
    go true p false q ih = rw (p, same_target_is e.target t.target p, q) (omega arith)
    go false p c q ih = rw (p, q) (omega arith)

rows_set : (x : DeferredTarget) (d : DeferredEdgeBundleSet) (ts : List DeferredTargetSummary)
    → edges_of_rows x (nesting.summarize_set d ts) ≡ edges_of_rows x ts + edges_of_set x d
rows_set x [] ts = omega arith
rows_set x (e ∷ d) ts =
    let a = rows_set x d (nesting.summarize_bundle e ts) in
    let b = rows_more x e ts in
    omega arith

row_within : (x : DeferredTarget) (ts : List DeferredTargetSummary) (i : ℕ) → i < length ts
    → same_target x (get_or ts i no_summary).target ≡ true → (get_or ts i no_summary).total_edge_count ≤ edges_of_rows x ts
row_within x [] i h is = absurd (omega arith)
row_within x (t ∷ ts) zero h is = rw is (omega arith)
row_within x (t ∷ ts) (suc i) h is = let a = row_within x ts i (omega arith) is in omega arith

-- ---- Rows in the spare slot, which starts at bundle o.
pub record ShowsRow (g : Graph) (l : List ℕ) (p : ℕ) (t : DeferredTargetSummary) : Type 0 where
  pub target : ShowsTarget g (bundle_target l p) t.target
  pub count : bundle_count l p ≡ t.total_edge_count
  pub condition : bundle_condition l p ≡ condition_true
  pub size : t.input_count ≡ target_size g t.target
  pub few : t.input_count ≤ 4

pub record ShowsRows (g : Graph) (l : List ℕ) (o : ℕ) (ts : List DeferredTargetSummary) : Type 0 where
  pub size : word l set_lengths spare_slot ≡ length ts
  pub few : length ts ≤ slot_size
  pub each : (i : ℕ) → i < length ts → ShowsRow g l (o + i) (get_or ts i no_summary)
  pub apart : (i j : ℕ) → i < j → j < length ts → bundle_target l (o + i) ≡ bundle_target l (o + j) → ⊥

no_clip : (a b : ℕ) → a + b ≤ largest → longer a b ≡ a + b
unfolding longer
no_clip a b h =
    elim (dec_lt a (65535 - b)) [
      | yes c ↦ rw (lt-ltb a (65535 - b) c)
      | no c ↦ rw (le-ltb a (65535 - b) (omega arith)) (omega arith)
    ]

-- The number of a target, below 33.
unfoldable target_number : ℕ → ℕ
target_number a = pick (eqb a return_word) 32 a

module _ (g : Graph) (valid : Valid g) where
  number_below : {a : ℕ} {x : DeferredTarget} → ShowsTarget g a x → target_number a < slot_count
  unfolding target_number
  number_below {a} (shows_region e h) = let n = valid.count in rw (ne_eqb a return_word (omega arith)) (omega arith)
  number_below {a} (shows_return e) = rw (eq-eqb a return_word e) (omega arith)

  number_own : {a b : ℕ} {x y : DeferredTarget} → ShowsTarget g a x → ShowsTarget g b y → target_number a ≡ target_number b → a ≡ b
  unfolding target_number
  number_own {a} {b} (shows_region e h) (shows_region f k) z =
      let n = valid.count in rw (ne_eqb a return_word (omega arith), ne_eqb b return_word (omega arith)) at z
  number_own {a} {b} (shows_region e h) (shows_return f) z =
      let n = valid.count in
      let y : a ≡ 32 = rw (ne_eqb a return_word (omega arith), eq-eqb b return_word f) at z in absurd (omega arith)
  number_own {a} {b} (shows_return e) (shows_region f k) z =
      let n = valid.count in
      let y : 32 ≡ b = rw (eq-eqb a return_word e, ne_eqb b return_word (omega arith)) at z in absurd (omega arith)
  number_own (shows_return e) (shows_return f) z = omega arith

  -- Rows to different targets, and one target more: there was room.
  rows_few : (l : List ℕ) (o t : ℕ) {x : DeferredTarget} {ts : List DeferredTargetSummary} → ShowsTarget g t x → ShowsRows g l o ts
      → ((k : ℕ) → k < length ts → bundle_target l (o + k) ≡ t → ⊥) → length ts < slot_size
  rows_few l o t {ts} shown rows new = pigeonhole slot_size (suc (length ts)) number below apart
    where
      number : ℕ → ℕ
      number k = pick (ltb k (length ts)) (target_number (bundle_target l (o + k))) (target_number t)

      old : (k : ℕ) → k < length ts → number k ≡ target_number (bundle_target l (o + k))
      old k h = rw (lt-ltb k (length ts) h)

      last : (k : ℕ) → length ts ≤ k → number k ≡ target_number t
      last k h = rw (le-ltb k (length ts) h)

      below : (k : ℕ) → k < suc (length ts) → number k < slot_size
      below k h = elim (dec_lt k (length ts)) [
        | yes c ↦ rw (old k c) (number_below (rows.each k c).target)
        | no c ↦ rw (last k (omega arith)) (number_below shown)
      ]

      apart : (i j : ℕ) → i < j → j < suc (length ts) → number i ≡ number j → ⊥
      apart i j h k e = elim (dec_lt j (length ts)) [
        | yes c ↦ rows.apart i j h c (number_own (rows.each i (omega arith)).target (rows.each j c).target
            (sym (old i (omega arith)) ∙ e ∙ old j c))
        | no c ↦ new i (omega arith) (number_own (rows.each i (omega arith)).target shown
            (sym (old i (omega arith)) ∙ e ∙ last j (omega arith)))
      ]

  pub record RowsAfter (o : ℕ) (l l' : List ℕ) (ts : List DeferredTargetSummary) : Type 0 where
    pub spare : SpareOnly o l l'
    pub rows : ShowsRows g l' o ts

  module _ (o : ℕ) (below : o + slot_size ≤ own_edges_from) (l : List ℕ) (full : used ≤ length l) (at : word l set_starts spare_slot ≡ o)
      (p : ℕ)
      {e : DeferredEdgeBundle} (x : ShowsBundle g l p e) (ts : List DeferredTargetSummary) (rows : ShowsRows g l o ts) where
    abbrev t : ℕ
    t = bundle_target l p

    abbrev count : ℕ
    count = bundle_count l p

    -- The edges are counted with those of row i.
    module _ (i : ℕ) (h : i < length ts) where
      abbrev counted : List ℕ
      counted = stored l bundles (bundle_count_at (o + i)) ((get_or ts i no_summary).total_edge_count + e.accumulated_count)

      as_counted : (get_or ts i no_summary).total_edge_count + e.accumulated_count ≤ largest → find_by l o t (length ts) 0 ≡ o + i
          → summarize_bundle l p ≡ counted
      unfolding summarize_bundle
      as_counted b f =
          rw (at, rows.size, f, ne_eqb (o + i) no_bundle_word (omega arith), (rows.each i h).count, x.count, edges_fit _ b)

      row_counted : (k : ℕ) → k < length ts → ShowsRow g counted (o + k)
          (get_or (set ts i (summary_with e (get_or ts i no_summary))) k no_summary)
      row_counted k b =
          let few = rows.few in
          let row = rows.each k b in
          let other = word_apart l bundles (bundle_count_at (o + i))
          ((get_or ts i no_summary).total_edge_count + e.accumulated_count) bundles in
          elim (ℕ_discrete k i) [
            | yes z ↦ rw (z, get_or-set_same ts i (summary_with e (get_or ts i no_summary)) no_summary h) (record {
              target = rw (other (bundle_target_at (o + i)) (omega arith)) (rows.each i h).target;
              count = word_there l bundles (bundle_count_at (o + i)) ((get_or ts i no_summary).total_edge_count + e.accumulated_count)
                  (omega arith) (omega arith);
              condition = other (bundle_condition_at (o + i)) (omega arith) ∙ (rows.each i h).condition;
              size = (rows.each i h).size;
              few = (rows.each i h).few;
            })
            | no z ↦ rw (get_or-set_other ts i k (summary_with e (get_or ts i no_summary)) no_summary z) (record {
              target = rw (other (bundle_target_at (o + k)) (omega arith)) row.target;
              count = other (bundle_count_at (o + k)) (omega arith) ∙ row.count;
              condition = other (bundle_condition_at (o + k)) (omega arith) ∙ row.condition;
              size = row.size;
              few = row.few;
            })
          ]

      rows_counted : RowsAfter o l counted (set ts i (summary_with e (get_or ts i no_summary)))
      rows_counted =
          let few = rows.few in
          let same = length-set ts i (summary_with e (get_or ts i no_summary)) in
          let sum = (get_or ts i no_summary).total_edge_count + e.accumulated_count in
          let other = word_apart l bundles (bundle_count_at (o + i)) sum bundles in
          record {
            spare = spare_word o l (bundle_count_at (o + i)) sum (omega arith) (omega arith);
            rows = record {
              size = ap (λ z. get_or z spare_slot 0) (section_other l bundles (bundle_count_at (o + i)) sum set_lengths (omega arith))
                  ∙ rows.size ∙ sym same;
              few = rw same few;
              each = λ k b. row_counted k (rw same at b);
              apart = λ a b c d. rw (other (bundle_target_at (o + a)) (omega arith), other (bundle_target_at (o + b)) (omega arith))
                  (rows.apart a b c (rw same at d));
            };
          }

    -- A row more.
    module _ (new : (k : ℕ) → k < length ts → same_target e.target (get_or ts k no_summary).target ≡ false) where
      abbrev n : ℕ
      n = length ts

      new_word : (k : ℕ) → k < n → bundle_target l (o + k) ≡ t → ⊥
      new_word k h = eqb-false (bundle_target l (o + k)) t
          (targets_tell (let few = valid.count.1 in omega arith) x.target (rows.each k h).target ∙ new k h)

      there_was_room : n < slot_size
      there_was_room = rows_few l o t x.target rows new_word

      abbrev with_row : List ℕ
      with_row = stored_all l bundles (bundle_row_at (o + n)) (t ∷ count ∷ 1 ∷ [])

      abbrev added : List ℕ
      added = stored with_row set_lengths spare_slot (n + 1)

      as_added : find_by l o t n 0 ≡ no_bundle_word → summarize_bundle l p ≡ added
      unfolding summarize_bundle
      as_added f =
          let h = there_was_room in
          rw (at, rows.size, f, bundle_in o n (omega arith) h, no_clip n 1 (omega arith))

      old_word : (q : ℕ) → q < bundle_row_at (o + n) → word added bundles q ≡ word l bundles q
      old_word q h =
          ap (λ z. get_or z q 0) (section_other with_row set_lengths spare_slot (n + 1) bundles (omega arith)
          ∙ section_run l bundles (bundle_row_at (o + n)) (t ∷ count ∷ 1 ∷ []))
          ∙ run_before (section l bundles) (bundle_row_at (o + n)) (t ∷ count ∷ 1 ∷ []) q h

      own_word : (j : ℕ) → j < 3 → bundle_word added (o + n) j ≡ get_or (t ∷ count ∷ 1 ∷ []) j 0
      own_word j h =
          let r = there_was_room in
          let z = part_length (start bundles) (size bundles) l (omega arith) in
          ap (λ z. get_or z (bundle_word_at (o + n) j) 0) (section_other with_row set_lengths spare_slot (n + 1) bundles (omega arith)
          ∙ section_run l bundles (bundle_row_at (o + n)) (t ∷ count ∷ 1 ∷ []))
          ∙ run_in (section l bundles) (bundle_row_at (o + n)) (t ∷ count ∷ 1 ∷ []) j (omega arith) h

      row_added_at : (k : ℕ) → k < suc n → ShowsRow g added (o + k) (get_or (ts ++ (new_summary e ∷ [])) k no_summary)
      row_added_at k h = elim (dec_lt k n) [
        | yes b ↦ (
            let row = rows.each k b in
            rw (get_or-append ts (new_summary e ∷ []) no_summary k b) (record {
              target = rw (old_word (bundle_target_at (o + k)) (omega arith)) row.target;
              count = old_word (bundle_count_at (o + k)) (omega arith) ∙ row.count;
              condition = old_word (bundle_condition_at (o + k)) (omega arith) ∙ row.condition;
              size = row.size;
              few = row.few;
            }))
        | no b ↦ (
            let z : k ≡ n = omega arith in
            rw (z, get_or-append_seam ts (new_summary e) [] no_summary) (record {
              target = rw (own_word 0 (omega arith)) x.target;
              count = own_word 1 (omega arith) ∙ x.count;
              condition = own_word 2 (omega arith);
              size = x.size;
              few = x.few;
            }))
      ]

      rows_added : RowsAfter o l added (ts ++ (new_summary e ∷ []))
      rows_added =
          let h = there_was_room in
          let more = length-append ts (new_summary e ∷ []) in
          let run_size = run_length (start bundles) (size bundles) l (bundle_row_at (o + n)) (t ∷ count ∷ 1 ∷ []) in
          let shown : bundle_target added (o + n) ≡ t = own_word 0 (omega arith) in
          record {
            spare = spare_then (spare_three o l (bundle_row_at (o + n)) t count 1 (omega arith) (omega arith))
                (spare_length o with_row (n + 1));
            rows = record {
              size = word_there with_row set_lengths spare_slot (n + 1) (omega arith) (omega arith) ∙ sym more;
              few = omega arith;
              each = λ k b. row_added_at k (omega arith);
              apart = λ i j a b f. elim (dec_lt j n) [
                | yes c ↦ rows.apart i j a c
                    (sym (old_word (bundle_target_at (o + i)) (omega arith)) ∙ f ∙ old_word (bundle_target_at (o + j))
                    (omega arith))
                | no c ↦ (
                    let z : j ≡ n = omega arith in
                    new_word i (omega arith) (sym (old_word (bundle_target_at (o + i)) (omega arith)) ∙ (rw z at f) ∙ shown))
              ];
            };
          }

    pub bundle_summarized : edges_of_rows e.target ts + e.accumulated_count ≤ largest
        → RowsAfter o l (summarize_bundle l p) (nesting.summarize_bundle e ts)
    bundle_summarized b =
        let few = rows.few in
        go (finds_first l (let n = valid.count.1 in omega arith) o x.target (length ts) (λ k. (get_or ts k no_summary).target)
        (omega arith) few (λ k h. (rows.each k h).target))
      where
        go : FirstTo e.target (λ k. (get_or ts k no_summary).target) (length ts) o (find_by l o t (length ts) 0)
            → RowsAfter o l (summarize_bundle l p) (nesting.summarize_bundle e ts)
        go (first_at i h is before f) =
            let within = row_within e.target ts i h is in
            rw (summarized_there e ts i h is before, as_counted i h (omega arith) f) (rows_counted i h)
        go (none_to new f) = rw (summarized_new e ts new, as_added new f) (rows_added new)

  -- ---- A set, from bundle `start + i` on, outside of the spare slot.
  abbrev set_step : ℕ → List ℕ → ℕ → List ℕ
  set_step start m i = summarize_bundle m (bundle_at start i)

  bundles_summarized : (o : ℕ) → o + slot_size ≤ own_edges_from → (start : ℕ) (d : DeferredEdgeBundleSet) (l : List ℕ) → used ≤ length l
      → word l set_starts spare_slot ≡ o → (i : ℕ) → start + i + length d ≤ most_bundles → i + length d ≤ slot_size
      → ((k : ℕ) → k < length d → ShowsBundle g l (start + (i + k)) (get_or d k no_bundle))
      → ((k q : ℕ) → k < length d → q < slot_size → start + (i + k) ≡ o + q → ⊥)
      → (ts : List DeferredTargetSummary) → ShowsRows g l o ts
      → ((x : DeferredTarget) → edges_of_rows x ts + edges_of_set x d ≤ largest)
      → RowsAfter o l (turned (set_step start) l (length d) i) (nesting.summarize_set d ts)
  unfolding turned
  bundles_summarized o below start [] l full at i room few shown apart ts rows bound = record { spare = spare_same o l; rows = rows }
  bundles_summarized o below start (e ∷ d) l full at i room few shown apart ts rows bound =
      let here : i + 0 ≡ i = omega arith in
      let first : ShowsBundle g l (start + i) e = rw here at (shown 0 (omega arith)) in
      let own = bound e.target in
      let self = same_target_self e.target in
      let head : edges_of_rows e.target ts + e.accumulated_count ≤ largest = (let z = rw self at own in omega arith) in
      let one = bundle_summarized o below l full at (start + i) first ts rows head in
      let l₁ = summarize_bundle l (start + i) in
      let next : (k : ℕ) → suc i + k ≡ i + suc k = λ k. omega arith in
      let ih = bundles_summarized o below start d l₁ (rw one.spare.words full)
      (spare_there one.spare set_starts (omega arith) (omega arith) spare_slot ∙ at) (suc i) (omega arith) (omega arith)
      (λ k h. rw (next k) (bundle_stays (spare_preserves one.spare g)
      (spare_outside one.spare (start + (i + suc k)) (λ q b. apart (suc k) q (omega arith) b)) (shown (suc k) (omega arith))))
      (λ k q h. rw (next k) (apart (suc k) q (omega arith)))
      (nesting.summarize_bundle e ts) one.rows
      (λ x. let a = rows_more x e ts in let b = bound x in omega arith) in
      subst (λ p. RowsAfter o l (turned (set_step start) (summarize_bundle l p) (length d) (suc i)) (nesting.summarize_set (e ∷ d) ts))
      (sym (bundle_in start i (omega arith) (omega arith)))
      (record { spare = spare_then one.spare ih.spare; rows = ih.rows })

  set_summarized : (o : ℕ) → o + slot_size ≤ own_edges_from → (l : List ℕ) → used ≤ length l → word l set_starts spare_slot ≡ o
      → (start n : ℕ)
      {d : DeferredEdgeBundleSet} → ShowsSet g l start n d → ((k q : ℕ) → k < n → q < slot_size → start + k ≡ o + q → ⊥)
      → (ts : List DeferredTargetSummary) → ShowsRows g l o ts
      → ((x : DeferredTarget) → edges_of_rows x ts + edges_of_set x d ≤ largest)
      → RowsAfter o l (summarize_set l start n) (nesting.summarize_set d ts)
  unfolding summarize_set
  set_summarized o below l full at start n {d} x apart ts rows bound =
      let size = x.size in
      let few = x.few in
      let room = x.room in
      let from_zero : (k : ℕ) → 0 + k ≡ k = λ k. omega arith in
      rw size (bundles_summarized o below start d l full at 0 (omega arith) (omega arith)
      (λ k h. rw (from_zero k) (x.each k (omega arith))) (λ k q h. rw (from_zero k) (apart k q (omega arith))) ts rows bound)

  -- ---- All cases, from case j on.
  cases_summarized : (o : ℕ) → o + slot_size ≤ own_edges_from → (cs : List MaybeClaimedRegion) (l : List ℕ) → used ≤ length l
      → word l set_starts spare_slot ≡ o → (j : ℕ)
      → ((k : ℕ) → k < length cs
      → ShowsSet g l (case_set_start l (j + k)) (case_set_length l (j + k)) (deferred_of (get_or cs k no_case)))
      → ((k p q : ℕ) → k < length cs → p < case_set_length l (j + k) → q < slot_size → case_set_start l (j + k) + p ≡ o + q → ⊥)
      → (ts : List DeferredTargetSummary) → ShowsRows g l o ts
      → ((x : DeferredTarget) → edges_of_rows x ts + edges_of_cases x cs ≤ largest)
      → RowsAfter o l (turned summarize_case l (length cs) j) (nesting.deferred_targets cs ts)
  unfolding turned
  cases_summarized o below [] l full at j sets apart ts rows bound = record { spare = spare_same o l; rows = rows }
  cases_summarized o below (c ∷ cs) l full at j sets apart ts rows bound =
      let here : j + 0 ≡ j = omega arith in
      let next : (k : ℕ) → suc j + k ≡ j + suc k = λ k. omega arith in
      let one = set_summarized o below l full at (case_set_start l j) (case_set_length l j) (rw here at (sets 0 (omega arith)))
      (λ k q h b f. apart 0 k q (omega arith) (rw here h) b (rw here f)) ts rows (λ x. let b = bound x in omega arith) in
      let l₁ = summarize_case l j in
      let sp = one.spare in
      let same : (i : ℕ) → word l₁ cases i ≡ word l cases i = spare_there sp cases (omega arith) (omega arith) in
      let ih = cases_summarized o below cs l₁ (rw sp.words full) (spare_there sp set_starts (omega arith) (omega arith) spare_slot ∙ at)
      (suc j)
      (λ k h. rw (next k, same (case_set_start_at (j + suc k)), same (case_set_length_at (j + suc k))) (set_stays (spare_preserves sp g)
      (λ i b. spare_outside sp (case_set_start l (j + suc k) + i) (λ q c. apart (suc k) i q (omega arith) b c))
      (sets (suc k) (omega arith))))
      (λ k p q h. rw (next k, same (case_set_start_at (j + suc k)), same (case_set_length_at (j + suc k)))
      (apart (suc k) p q (omega arith)))
      (nesting.summarize_set (deferred_of c) ts) one.rows
      (λ x. let a = rows_set x (deferred_of c) ts in let b = bound x in omega arith) in
      record { spare = spare_then sp ih.spare; rows = ih.rows }

-- ---- The step whole.
pub record TargetsDeferred (g : Graph) (w w' : List ℕ) (r : ℕ) (s : NestState) (cs : List MaybeClaimedRegion) : Type 0 where
  pub rows : ShowsRows g w' (word w set_starts spare_slot) (nesting.deferred_targets cs [])
  pub spare : SpareOnly (word w set_starts spare_slot) w w'
  pub state : ShowsState g w' s
  pub cases_shown : ShowsCases g w' r cs
  pub made_stays : PreservesMade g w w'
  pub kept : (q : ℕ) → q < length g.regions → KeptRegion w w' q

pub deferred_targets_shown : (g : Graph) → Valid g → (w : List ℕ) (r : ℕ) (s : NestState) (cs : List MaybeClaimedRegion) → ShowsState g w s
    → ShowsCases g w r cs → ((x : DeferredTarget) → edges_of_cases x cs ≤ largest)
    → TargetsDeferred g w (deferred_targets w) r s cs
unfolding deferred_targets
deferred_targets_shown g valid w r s cs shown x bound =
    let o = word w set_starts spare_slot in
    let m = stored w set_lengths spare_slot 0 in
    let full = shown.tables.size in
    let slots = shown.slots in
    let a = slots.starts spare_slot (omega arith) in
    let b = slots.below spare_slot (omega arith) in
    let first = spare_length o w 0 in
    let y = spare_cases first g slots refl x in
    let from_zero : (k : ℕ) → 0 + k ≡ k = λ k. omega arith in
    let at : word m set_starts spare_slot ≡ o = spare_there first set_starts (omega arith) (omega arith) spare_slot in
    let none : ShowsRows g m o [] = record {
      size = word_there w set_lengths spare_slot 0 (omega arith) (omega arith);
      few = omega arith;
      each = λ i h. absurd (omega arith);
      apart = λ i j c d. absurd (omega arith);
    } in
    let all = cases_summarized g valid o (omega arith) cs m (rw first.words full) at 0 (λ k h. rw (from_zero k) (y.sets k h))
    (λ k p q h c d e. y.not_spare k p q h (rw (from_zero k) at c) d ((rw (from_zero k) at e) ∙ ap (λ z. z + q) (sym at))) [] none
    (λ z. let h = bound z in omega arith) in
    let sp = spare_then first all.spare in
    rw y.size
    (record {
      rows = all.rows;
      spare = sp;
      state = spare_state sp g slots refl valid shown;
      cases_shown = spare_cases sp g slots refl x;
      made_stays = spare_preserves sp g;
      kept = spare_keeps sp g slots refl valid.count.1;
    })
