-- The cases of a region's terminator, filled: they show what the definition's list has, and the state stays shown.
use Rattle.std.specs.Prelude.{◌≡◌, List, [], ◌++◌, length, get_or}
use Rattle.std.proofs.Math.Path.{refl, subst}
use Rattle.std.proofs.Common.{sym, ◌∙◌, arith}
use Prim.Native.Nat.{ℕ, zero, suc, ◌+◌, ◌≤◌, ◌<◌}
use Rattle.std.proofs.Math.Decide.{dec_lt, ℕ_discrete}
use borrow.Author.Tests.{lt-ltb, le-ltb, eq-eqb, ne_eqb}
use Rattle.meaning.specs.Graph.{Graph, region, edges_of, undef}
use Rattle.format.specs.Valid.{Valid}
use Rattle.fields.specs.ByNumber.{edge_of}
use Rattle.state_regions.specs.declared.cases.Case.{Case}
use Rattle.nesting.specs.Nesting.{ClaimedRegion, MaybeClaimedRegion, ok, err, NestState, defer_edge, edge_bundle, to_region, true_cond}
use Rattle.state_words.specs.Sections.{used, word, stored, stored_all, head, kinds, set_starts, set_lengths, cases}
use Rattle.state_sets.specs.SetTables.{own_edge}
use Rattle.state_regions.specs.RegionTables.{target_answer, case_words, case_kind_word, case_total}
use Rattle.state_shown.specs.Sets.{Names, ShowsBundle, SameBundle}
use Rattle.state_shown.specs.States.{Slots, ShowsState, ShowsClaimed, ShowsCase, shows_ok, shows_nothing, shows_edge, shows_others}
use Rattle.state_shown.specs.States.{ShowsCases}
use Rattle.state_shown.specs.States.{no_case, HasSlot}
use Rattle.state_shown.specs.Kept.{PreservesMade, KeptRegion}
use Rattle.state_shown.specs.laws.RegionsKept.{same_bundle, same_bundle_then, claimed_stays}
use Rattle.state_shown.specs.laws.Stores.{head_same}
use Rattle.state_shown.specs.laws.SetStores.{OnlySets, only_same, only_then, only_total, only_preserves, only_kept, only_state}
use Rattle.state_shown.specs.laws.SetStores.{only_word_same}
use Rattle.state_shown.specs.laws.SetStores.{word_other, same_elsewhere}
use Rattle.state_shown.specs.laws.RegionSteps.{slots_stay}
use Rattle.state_shown.specs.laws.SetSteps.{set_of_one}
use Rattle.state_regions.specs.declared.cases.CaseKind.TheVariants.{NothingDeferred, OwnEdge}
use Rattle.cfg_bundles.specs.EdgesAndCases.{padded, claimed_case, unclaimed_case, edge_deferred, case_filled, filled_from, cases_filled}
use Rattle.cfg_bundles.specs.laws.shown.RecordValues.{few_edges}
use Rattle.cfg_bundles.specs.laws.shown.Deferred.{edge_names, edge_deferred_shown}
use Rattle.cfg_bundles.specs.laws.shown.CaseSteps.{OneCase, one_then, one_row, one_edge, own_in, in_slots, one_kept, target_answer_same}
use Rattle.cfg_bundles.specs.laws.shown.CaseSteps.{Owner}
use Rattle.cfg_bundles.specs.laws.shown.CaseSteps.{of_claimed, of_others, case_placed, placed_apart, placed_not_spare, CaseAndSet}
use Rattle.cfg_bundles.specs.laws.shown.CaseSteps.{other_row}
use Rattle.cfg_bundles.specs.laws.shown.CaseSteps.{shown_stays, row_word, claimed_row, nothing_row, edge_row}
use Rattle.state_words.specs.Rows.{case_claimed, case_kind, case_origin, case_row_at, cases_at, level_claimed}
use Rattle.state_words.specs.Rows.{level_deferred, level_unreachable, own_edges_from, case_kind_field}

-- ---- How the target at place j was answered, with the definition's case.
pub data ShowsTargetRegion (g : Graph) (w : List ℕ) (r j : ℕ) : MaybeClaimedRegion → Type 0 where
  was_claimed : {c : ClaimedRegion} → target_answer w r j ≡ level_claimed → ShowsClaimed g w c → c.origin ≡ (edge_of g r j).target
      → c.structured_body_inputs ≡ (edge_of g r j).inputs → ShowsTargetRegion g w r j (ok c)
  was_deferred : {m : MaybeClaimedRegion} → target_answer w r j ≡ level_deferred → m ≡ defer_edge (edge_of g r j)
      → ShowsTargetRegion g w r j m
  was_nothing : target_answer w r j ≡ level_unreachable → ShowsTargetRegion g w r j (err [])

pub target_region_stays : {g : Graph} {w w' : List ℕ} → OnlySets w w' → ((q : ℕ) → HasSlot (length g.regions) q → KeptRegion w w' q)
    → length g.regions ≤ 32
    → {r j : ℕ} {m : MaybeClaimedRegion} → ShowsTargetRegion g w r j m → ShowsTargetRegion g w' r j m
target_region_stays {g} only kept few {r} {j} (was_claimed {c} a b d e) =
    let below = b.in_graph in
    was_claimed (target_answer_same only r j ∙ a)
    (claimed_stays (only_preserves only g) (kept c.origin (omega arith)) (only_word_same only kinds (omega arith) c.origin) b) d e
target_region_stays only kept few {r} {j} (was_deferred a b) = was_deferred (target_answer_same only r j ∙ a) b
target_region_stays only kept few {r} {j} (was_nothing a) = was_nothing (target_answer_same only r j ∙ a)

-- ---- One case filled.
pub filled_one : (g : Graph) (w : List ℕ) (r j : ℕ) → j < 8 → OneCase w (case_filled g w r j) j
unfolding case_filled
filled_one g w r j h =
    elim (ℕ_discrete (target_answer w r j) level_claimed) [
      | yes e ↦ rw (eq-eqb (target_answer w r j) level_claimed e) (one_row w j _ (omega arith))
      | no d ↦ elim (ℕ_discrete (target_answer w r j) level_deferred) [
        | yes e ↦ rw (ne_eqb (target_answer w r j) level_claimed d, eq-eqb (target_answer w r j) level_deferred e)
            (one_then (one_edge g w r j h) (one_row _ j _ (omega arith)))
        | no f ↦ rw (ne_eqb (target_answer w r j) level_claimed d, ne_eqb (target_answer w r j) level_deferred f) (one_row w j _
            (omega arith))
      ]
    ]

row_kind : (w : List ℕ) → used ≤ length w → (j : ℕ) → j < 8 → (x : Case) (ws : List ℕ) → length ws ≤ 4 → case_kind_word x.kind ≤ 2
    → case_kind (stored_all w cases (case_row_at j) (case_words x ++ ws)) j ≤ 2
row_kind w room j h x ws few kind =
    let e = row_word w room j h (case_words x ++ ws) (omega arith) 0 (omega arith) in rw e kind

filled_plain : (g : Graph) (w : List ℕ) (r j : ℕ) → used ≤ length w → j < 8 → case_kind (case_filled g w r j) j ≤ 2
unfolding case_filled
filled_plain g w r j room h =
    let e = edge_of g r j in
    let more = (one_edge g w r j h).only.words in
    elim (ℕ_discrete (target_answer w r j) level_claimed) [
      | yes a ↦ rw (eq-eqb (target_answer w r j) level_claimed a)
          (row_kind w room j h (claimed_case w e.target) (padded e.inputs) (omega arith) (omega arith))
      | no d ↦ elim (ℕ_discrete (target_answer w r j) level_deferred) [
        | yes a ↦ rw (ne_eqb (target_answer w r j) level_claimed d, eq-eqb (target_answer w r j) level_deferred a)
            (row_kind (edge_deferred g w (own_edge j) r j) (omega arith) j h (unclaimed_case OwnEdge (own_edge j) 1) [] (omega arith)
            (omega arith))
        | no f ↦ rw (ne_eqb (target_answer w r j) level_claimed d, ne_eqb (target_answer w r j) level_deferred f)
            (row_kind w room j h (unclaimed_case NothingDeferred 0 0) [] (omega arith) (omega arith))
      ]
    ]

module _ {g : Graph} (valid : Valid g) {r : ℕ} (here : r < length g.regions) where
  pub filled_shows : {j : ℕ} → j < length (edges_of (region g r).terminator) → (w : List ℕ) → used ≤ length w → {m : MaybeClaimedRegion}
      → ShowsTargetRegion g w r j m → CaseAndSet g (case_filled g w r j) r j m
  unfolding case_filled
  filled_shows {j} place w room (was_claimed {c} a b origin inputs) =
      let few = few_edges valid here in
      rw (eq-eqb (target_answer w r j) level_claimed a, ← origin, ← inputs)
      (claimed_row w room (omega arith) (padded c.structured_body_inputs) refl b
      (λ k h. subst (λ vs. Names (get_or (padded vs) k 0) (get_or vs k (undef 0))) (sym inputs) (edge_names valid here place k h)))
  filled_shows {j} place w room (was_deferred a is) =
      let few = few_edges valid here in
      let at = own_in j (omega arith) in
      let more = (one_edge g w r j (omega arith)).only.words in
      let e = edge_of g r j in
      let bundle = edge_bundle (to_region e.target) 1 e.inputs true_cond in
      let shown = edge_deferred_shown valid here place w (own_edge j) room (omega arith) in
      rw (ne_eqb (target_answer w r j) level_claimed (omega arith), eq-eqb (target_answer w r j) level_deferred a, is)
      (edge_row (edge_deferred g w (own_edge j) r j) (omega arith) (omega arith)
      (set_of_one (omega arith) (subst (λ p. ShowsBundle g (edge_deferred g w (own_edge j) r j) p bundle) at shown)))
  filled_shows {j} place w room (was_nothing a) =
      let few = few_edges valid here in
      rw (ne_eqb (target_answer w r j) level_claimed (omega arith), ne_eqb (target_answer w r j) level_deferred (omega arith))
      (nothing_row w room (omega arith))

-- ---- All cases filled.
pub record Filled (g : Graph) (w w' : List ℕ) (r : ℕ) (cs : List MaybeClaimedRegion) : Type 0 where
  pub only : OnlySets w w'
  pub total : word w' head cases_at ≡ word w head cases_at
  pub starts : (q : ℕ) → word w' set_starts q ≡ word w set_starts q
  pub lengths : (q : ℕ) → word w' set_lengths q ≡ word w set_lengths q
  pub low : (p : ℕ) → p < own_edges_from → SameBundle w w' p
  pub shown : (q : ℕ) → q < length cs → CaseAndSet g w' r q (get_or cs q no_case)
  pub plain : (q : ℕ) → q < length cs → case_kind w' q ≤ 2

module _ {g : Graph} (valid : Valid g) {r : ℕ} (here : r < length g.regions) (cs : List MaybeClaimedRegion)
    (size : length cs ≡ length (edges_of (region g r).terminator)) where
  fills : (m j : ℕ) → j + m ≡ length cs → (w : List ℕ) → used ≤ length w → Slots (length g.regions) w
      → ((q : ℕ) → q < length cs → ShowsTargetRegion g w r q (get_or cs q no_case))
      → ((q : ℕ) → q < j → CaseAndSet g w r q (get_or cs q no_case))
      → ((q : ℕ) → q < j → case_kind w q ≤ 2) → Filled g w (filled_from g w r m j) r cs
  unfolding filled_from
  fills zero j sum w room slots answers shown plain =
      record {
        only = only_same w;
        total = refl;
        starts = λ q. refl;
        lengths = λ q. refl;
        low = λ p h. same_bundle w p;
        shown = λ q h. shown q (omega arith);
        plain = λ q h. plain q (omega arith);
      }
  fills (suc m) j sum w room slots answers shown plain =
      let eight = few_edges valid here in
      let few = valid.count.1 in
      let one = filled_one g w r j (omega arith) in
      let words = one.only.words in
      let rest = fills m (suc j) (omega arith) (case_filled g w r j) (omega arith) (slots_stay (λ a h. one.starts a) slots)
      (λ q h. target_region_stays one.only (one_kept one slots) few (answers q h))
      (λ q h. elim (ℕ_discrete q j) [
        | yes e ↦ rw e (filled_shows valid here (omega arith) w room (answers j (omega arith)))
        | no d ↦ shown_stays one d slots few here (shown q (omega arith))
      ])
      (λ q h. elim (ℕ_discrete q j) [
        | yes e ↦ rw e (filled_plain g w r j room (omega arith))
        | no d ↦ rw (other_row one q d case_kind_field (omega arith)) (plain q (omega arith))
      ]) in
      record {
        only = only_then one.only rest.only;
        total = rest.total ∙ one.total;
        starts = λ q. rest.starts q ∙ one.starts q;
        lengths = λ q. rest.lengths q ∙ one.lengths q;
        low = λ p h. same_bundle_then (one.beside p (omega arith)) (rest.low p h);
        shown = rest.shown;
        plain = rest.plain;
      }

-- A case of kind 2 is a claimed region's.
claimed_of : {g : Graph} {w : List ℕ} {r j : ℕ} {m : MaybeClaimedRegion} → ShowsCase g w r j m → case_kind w j ≡ case_claimed
    → (c : ClaimedRegion) × (m ≡ ok c) × (case_origin w j ≡ c.origin)
claimed_of (shows_ok {c} a b d e f h k l n) is = (c, refl, b)
claimed_of (shows_nothing a b) is = absurd (omega arith)
claimed_of (shows_edge a b d) is = absurd (omega arith)
claimed_of (shows_others a b) is = absurd (omega arith)

pub total_of : (w : List ℕ) (n : ℕ) → word w head cases_at ≡ n → n ≤ 8 → case_total w ≡ n
unfolding case_total
total_of w n e h =
    elim (dec_lt n 8) [
      | yes k ↦ rw (e, lt-ltb n 8 k)
      | no k ↦ rw (e, le-ltb n 8 (omega arith)) (omega arith)
    ]

-- What the words show then; nothing of a region changes.
pub record FilledCases (g : Graph) (w w' : List ℕ) (s : NestState) (r : ℕ) (cs : List MaybeClaimedRegion) : Type 0 where
  pub cases_shown : ShowsCases g w' r cs
  pub state : ShowsState g w' s
  pub made_stays : PreservesMade g w w'
  pub kept : (q : ℕ) → HasSlot (length g.regions) q → KeptRegion w w' q

pub cases_filled_shown : {g : Graph} → Valid g → {r : ℕ} → r < length g.regions → (cs : List MaybeClaimedRegion)
    → length cs ≡ length (edges_of (region g r).terminator) → {w : List ℕ} {s : NestState} → ShowsState g w s
    → ((q : ℕ) → q < length cs → ShowsTargetRegion g w r q (get_or cs q no_case))
    → ((i j : ℕ) → i < j → j < length cs → (a b : ClaimedRegion) → get_or cs i no_case ≡ ok a → get_or cs j no_case ≡ ok b
    → a.origin ≡ b.origin → ⊥)
    → FilledCases g w (cases_filled g w r) s r cs
cases_filled_shown {g} valid {r} here cs size {w} {s} state answers origins =
    let n = length (edges_of (region g r).terminator) in
    let room = state.tables.size in
    let few = valid.count.1 in
    let eight = few_edges valid here in
    let w₁ = stored w head cases_at n in
    let first = only_total w n in
    let counted = first.words in
    let kept_first : (q : ℕ) → HasSlot (length g.regions) q → KeptRegion w w₁ q =
    λ q h. only_kept first q (word_other w head cases_at n set_starts (omega arith) q)
    (word_other w head cases_at n set_lengths (omega arith) q)
    (λ i k. same_elsewhere w head (omega arith) cases_at n _) in
    let slots₁ = slots_stay (λ a h. word_other w head cases_at n set_starts (omega arith) a) state.slots in
    let x = fills valid here cs size n 0 (omega arith) w₁ (omega arith) slots₁ (λ q h. target_region_stays first kept_first few
    (answers q h))
    (λ q h. absurd (omega arith)) (λ q h. absurd (omega arith)) in
    let only = only_then first x.only in
    let starts : (q : ℕ) → word (cases_filled g w r) set_starts q ≡ word w set_starts q =
    λ q. x.starts q ∙ word_other w head cases_at n set_starts (omega arith) q in
    let slots = slots_stay (λ a h. starts a) state.slots in
    let kept : (q : ℕ) → HasSlot (length g.regions) q → KeptRegion w (cases_filled g w r) q =
    λ q h. only_kept only q (starts q) (x.lengths q ∙ word_other w head cases_at n set_lengths (omega arith) q)
    (λ i k. same_bundle_then (same_elsewhere w head (omega arith) cases_at n _) (x.low _ (in_slots state.slots q i h k))) in
    record {
      cases_shown =
          record {
            size = total_of (cases_filled g w r) (length cs) (x.total ∙ head_same w cases_at n room (omega arith) ∙ sym size)
                (omega arith);
            few = omega arith;
            each = λ j h. (x.shown j h).case;
            sets = λ j h. (x.shown j h).set;
            apart = λ i j p q a b c d.
                placed_apart slots (omega arith) (omega arith) (omega arith)
                (λ o u y z e. go (cases_filled g w r) (x.plain i (omega arith)) (x.plain j b) (x.shown i (omega arith)).case
                (x.shown j b).case (origins i j a b) y z e)
                (case_placed few here (x.shown i (omega arith)).case) (case_placed few here (x.shown j b).case)
                (x.shown i (omega arith)).set.few (x.shown j b).set.few p q c d;
            not_spare = λ j p q b c d.
                placed_not_spare slots (case_placed few here (x.shown j b).case) (x.shown j b).set.few p q c d;
          };
      state = only_state only slots (λ q h e. kept q (omega arith)) state;
      made_stays = only_preserves only g;
      kept = kept;
    }
  where
    go : (w' : List ℕ) {i j : ℕ} → case_kind w' i ≤ 2 → case_kind w' j ≤ 2 → {m n : MaybeClaimedRegion}
        → ShowsCase g w' r i m → ShowsCase g w' r j n
        → ((a b : ClaimedRegion) → m ≡ ok a → n ≡ ok b → a.origin ≡ b.origin → ⊥) → {o u : ℕ} → Owner w' r i o → Owner w' r j u → o ≡ u
        → ⊥
    go w' p q x y differ (of_claimed a b) (of_claimed c d) e =
        let f = claimed_of x a in
        let h = claimed_of y c in
        differ f.0 h.0 f.1 h.1 (sym f.2 ∙ b ∙ e ∙ sym d ∙ h.2)
    go w' p q x y differ (of_others a b) z e = omega arith
    go w' p q x y differ (of_claimed a b) (of_others c d) e = omega arith
