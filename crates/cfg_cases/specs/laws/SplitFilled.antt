-- The region that a bundle of region r's own set claimed, and the others of that set, as the two cases of a select.
use Rattle.std.specs.Prelude.{◌≡◌, List, [], ◌∷◌, ◌++◌, ℕ, zero, suc, ◌+◌, ◌≤◌, ◌<◌, get_or, take}
use Rattle.std.proofs.Math.Path.{refl, subst}
use Rattle.std.proofs.Common.{sym, ap, ◌∙◌}
use native.Mathlib.Omega.{arith}
use Rattle.std.proofs.Math.Decide.{dec_lt}
use Rattle.std.proofs.Math.ListN.{length, drop, get_or-eq_default}
use borrow.Author.Tests.{lt-ltb, le-ltb}
use Rattle.meaning.specs.Graph.{Graph, region, undef}
use Rattle.meaning.specs.facts.Tests.{clash}
use Rattle.nesting.specs.Nesting.{DeferredTarget, to_region, DeferredEdgeBundle, DeferredEdgeBundleSet, ClaimedRegion, MaybeClaimedRegion}
use Rattle.nesting.specs.Nesting.{ok, err, NestState}
use Rattle.state_words.specs.Sections.{word, stored, stored_all, head, kinds, set_starts, set_lengths, children, bodies, cases}
use Rattle.state_sets.specs.SetTables.{bundle_at, input_word, shift_removed}
use Rattle.state_regions.specs.RegionTables.{case_words}
use Rattle.state_shown.specs.Values.{value}
use Rattle.state_shown.specs.Sets.{Names, ShowsTarget, shows_region, shows_return, ShowsBundle, ShowsSet, no_bundle}
use Rattle.state_shown.specs.States.{ShowsOwnSet, Slots, ShowsState, ShowsClaimed, ShowsCase, shows_ok, shows_nothing, shows_edge}
use Rattle.state_shown.specs.States.{shows_others}
use Rattle.state_shown.specs.States.{ShowsCases, no_case, HasSlot}
use Rattle.state_shown.specs.Kept.{PreservesMade, KeptRegion}
use Rattle.state_shown.specs.laws.RegionsKept.{kept_then, set_stays, same_bundle_then, claimed_stays}
use Rattle.state_shown.specs.laws.Stores.{head_same}
use Rattle.state_shown.specs.laws.SetStores.{OnlySets, only_then, only_total, only_preserves, only_state, only_word_same, word_other}
use Rattle.state_shown.specs.laws.SetStores.{same_elsewhere}
use Rattle.state_shown.specs.laws.SetStores.{same_elsewhere_run}
use Rattle.state_shown.specs.laws.RegionSteps.{slots_stay}
use Rattle.state_shown.specs.laws.SetSteps.{shift_removes, kept_beside}
use Rattle.state_shown.specs.laws.Finds.{bundle_in}
use Rattle.state_regions.specs.declared.cases.CaseKind.TheVariants.{Others}
use Rattle.cfg_bundles.specs.EdgesAndCases.{claimed_case, unclaimed_case, given_word, given_inputs, split_filled}
use Rattle.cfg_bundles.specs.laws.shown.CaseSteps.{one_row, Owner, of_claimed, of_others, case_placed, placed_apart, placed_not_spare}
use Rattle.cfg_bundles.specs.laws.shown.CaseSteps.{CaseAndSet, shown_stays, claimed_row, others_row, one_kept}
use Rattle.cfg_cases.specs.laws.CasesFilled.{total_of}
use Rattle.state_words.specs.Rows.{bundle_target, case_row_at, case_set_length, case_set_start, cases_at, kind_ready}
use Rattle.state_words.specs.Rows.{region_kind}

-- ---- The inputs of a bundle, as four words.
module _ {g : Graph} {w : List ℕ} {p : ℕ} {e : DeferredEdgeBundle} (shown : ShowsBundle g w p e) where
  given_names : (k : ℕ) → k < 4 → Names (given_word w p (length e.target_inputs) k) (get_or e.target_inputs k (undef 0))
  unfolding given_word input_word value
  given_names k h =
      elim (dec_lt k (length e.target_inputs)) [
        | yes a ↦ rw (lt-ltb k (length e.target_inputs) a, lt-ltb k 4 h) (shown.inputs k a)
        | no a ↦ rw (
          le-ltb k (length e.target_inputs) (omega arith),
          get_or-eq_default e.target_inputs (undef 0) {n = k} (omega arith),
        ) record { is = refl; below = omega arith }
      ]

  target_word : {o : ℕ} → e.target ≡ to_region o → bundle_target w p ≡ o
  target_word is = go shown.target is
    where
      go : {x : ℕ} {y : DeferredTarget} → ShowsTarget g x y → {o : ℕ} → y ≡ to_region o → x ≡ o
      go (shows_region {r} f h) is = f ∙ cc
      go (shows_return f) is = absurd (clash (cc))

  abbrev input_words : List ℕ
  input_words =
      let given : ℕ → ℕ = λ k. given_word w p (length e.target_inputs) k in
      given 0 ∷ given 1 ∷ given 2 ∷ given 3 ∷ []

  pub given_all_name : {o : ℕ} → e.target ≡ to_region o → (k : ℕ) → k < 4
      → Names (get_or (given_inputs g w p) k 0) (get_or e.target_inputs k (undef 0))
  given_all_name {o} is k h =
      let at = target_word is in
      let size : length (region g o).inputs ≡ length e.target_inputs = sym (shown.size ∙ rw is) in
      let same : given_inputs g w p ≡ input_words = rw (at, size) in
      subst (λ l. Names (get_or l k 0) (get_or e.target_inputs k (undef 0))) (sym same) (go k h)
    where
      go : (k : ℕ) → k < 4 → Names (get_or input_words k 0) (get_or e.target_inputs k (undef 0))
      go zero h = given_names 0 h
      go (suc zero) h = given_names 1 h
      go (suc (suc zero)) h = given_names 2 h
      go (suc (suc (suc zero))) h = given_names 3 h
      go (suc (suc (suc (suc k)))) h = absurd (omega arith)

-- ---- Whose slot the set of a case is.
owner_ok : {g : Graph} {w : List ℕ} {r j a : ℕ} {c : ClaimedRegion} → ShowsCase g w r j (ok c) → Owner w r j a → a ≡ c.origin
owner_ok (shows_ok a b d e f h k l m) (of_claimed x y) = sym y ∙ b
owner_ok (shows_ok a b d e f h k l m) (of_others x y) = absurd (omega arith)

owner_err : {g : Graph} {w : List ℕ} {r j a : ℕ} {d : DeferredEdgeBundleSet} → ShowsCase g w r j (err d) → Owner w r j a → a ≡ r
owner_err (shows_nothing a b) (of_claimed x y) = absurd (omega arith)
owner_err (shows_nothing a b) (of_others x y) = sym y
owner_err (shows_edge a b d) (of_claimed x y) = absurd (omega arith)
owner_err (shows_edge a b d) (of_others x y) = sym y
owner_err (shows_others a b) (of_claimed x y) = absurd (omega arith)
owner_err (shows_others a b) (of_others x y) = sym y

two_cases : {g : Graph} → length g.regions ≤ 32 → {r : ℕ} → r < length g.regions → {w : List ℕ}
    → Slots (length g.regions) w → word w head cases_at ≡ 2
    → {c : ClaimedRegion} {d : DeferredEdgeBundleSet} → (c.origin ≡ r → ⊥) → CaseAndSet g w r 0 (ok c) → CaseAndSet g w r 1 (err d)
    → ShowsCases g w r (ok c ∷ err d ∷ [])
two_cases {g} few {r} here {w} slots total {c} {d} other x y =
    record {
      size = total_of w 2 total (omega arith);
      few = omega arith;
      each = λ j h. (at j h).case;
      sets = λ j h. (at j h).set;
      apart = λ i j p q a b m n.
          let e : i ≡ 0 = omega arith in
          let f : j ≡ 1 = omega arith in
          apart i j e f p q m n;
      not_spare = λ j p q h m n. placed_not_spare slots (case_placed few here (at j h).case) (at j h).set.few p q m n;
    }
  where
    at : (j : ℕ) → j < 2 → CaseAndSet g w r j (get_or (ok c ∷ err d ∷ []) j no_case)
    at zero h = x
    at (suc zero) h = y
    at (suc (suc j)) h = absurd (omega arith)

    apart : (i j : ℕ) → i ≡ 0 → j ≡ 1 → (p q : ℕ) → p < case_set_length w i → q < case_set_length w j
        → case_set_start w i + p ≡ case_set_start w j + q → ⊥
    apart i j e f =
        rw (e, f)
        (placed_apart slots (omega arith) (omega arith) (omega arith)
        (λ a b u v z. other (sym (owner_ok x.case u) ∙ z ∙ owner_err y.case v)) (case_placed few here x.case)
        (case_placed few here y.case) x.set.few y.set.few)

-- What the words show then; of the regions only r changes.
pub record SplitShown (g : Graph) (w w' : List ℕ) (s : NestState) (r : ℕ) (cs : List MaybeClaimedRegion) : Type 0 where
  pub cases_shown : ShowsCases g w' r cs
  pub state : ShowsState g w' s
  pub only : OnlySets w w'
  pub made_stays : PreservesMade g w w'
  pub kept : (q : ℕ) → HasSlot (length g.regions) q → (q ≡ r → ⊥) → KeptRegion w w' q

-- ---- The two cases, over words of which bundle i is shifted out.
module _ {g : Graph} (few : length g.regions ≤ 32) {r : ℕ} (here : r < length g.regions) {w : List ℕ} {s : NestState}
    (state : ShowsState g w s) (unready : region_kind w r ≡ kind_ready → ⊥) {d : DeferredEdgeBundleSet} (shown : ShowsOwnSet g w r d)
    {i : ℕ}
    (place : i < length d) {c : ClaimedRegion} (claimed : ShowsClaimed g w c) (other : c.origin ≡ r → ⊥)
    (is : (get_or d i no_bundle).target ≡ to_region c.origin)
    (inputs : c.structured_body_inputs ≡ (get_or d i no_bundle).target_inputs) where
  pub split_filled_shown : SplitShown g w (split_filled g w r i) s r (ok c ∷ err (take i d ++ drop (suc i) d) ∷ [])
  unfolding split_filled
  split_filled_shown =
      let slot : (q : ℕ) → q < length g.regions → HasSlot (length g.regions) q = λ q h. omega arith in
      let room = state.tables.size in
      let slots = state.slots in
      let size = shown.size in
      let few_bundles = shown.few in
      let slot_room = shown.room in
      let start = word w set_starts r in
      let p = bundle_at start i in
      let at : p ≡ start + i = bundle_in start i (omega arith) (omega arith) in
      let bundle : ShowsBundle g w p (get_or d i no_bundle) = rw at (shown.each i (omega arith)) in
      let o = c.origin in
      let below = claimed.in_graph in
      let target : bundle_target w p ≡ o = target_word bundle is in
      let rest = shift_removed w r i in
      let x = shift_removes room (omega arith) shown i place in
      let rest_room = x.only.words in
      let total₂ : word (stored rest head cases_at 2) head cases_at ≡ 2 = head_same rest cases_at 2 (omega arith) (omega arith) in
      let w₂ = stored rest head cases_at 2 in
      let only₂ = only_then x.only (only_total rest 2) in
      let room₂ = only₂.words in
      let starts₂ : (q : ℕ) → word w₂ set_starts q ≡ word w set_starts q =
      λ q. word_other rest head cases_at 2 set_starts (omega arith) q ∙ x.starts q in
      let lengths₂ : (q : ℕ) → (q ≡ r → ⊥) → word w₂ set_lengths q ≡ word w set_lengths q =
      λ q e. word_other rest head cases_at 2 set_lengths (omega arith) q ∙ x.lengths q e in
      let kept₂ : (q : ℕ) → HasSlot (length g.regions) q → (q ≡ r → ⊥) → KeptRegion w w₂ q =
      λ q h e. kept_beside only₂ slots (omega arith) h e (starts₂ q) (lengths₂ q e)
      (λ b f. same_bundle_then (x.beside b f) (same_elsewhere rest head (omega arith) cases_at 2 b)) in
      let slots₂ = slots_stay (λ a h. starts₂ a) slots in
      let n = word rest set_lengths r in
      let left : ShowsSet g w₂ start n (take i d ++ drop (suc i) d) =
      set_stays (only_preserves (only_total rest 2) g) (λ k h. same_elsewhere rest head (omega arith) cases_at 2 _)
      (rw (x.starts r) at x.set) in
      let claimed₂ = claimed_stays (only_preserves only₂ g) (kept₂ o (omega arith) other)
      (only_word_same only₂ kinds (omega arith) o) claimed in
      let given = given_inputs g w p in
      let same_case : claimed_case w₂ o ≡ claimed_case w (bundle_target w p) =
      rw (
        only_word_same only₂ bodies (omega arith) o,
        only_word_same only₂ children (omega arith) o,
        starts₂ o,
        lengths₂ o other,
        target,
      ) in
      let row₀ = case_words (claimed_case w (bundle_target w p)) ++ given in
      let w₃ = stored_all w₂ cases (case_row_at 0) row₀ in
      let one₃ = one_row w₂ 0 row₀ (omega arith) in
      let room₃ = one₃.only.words in
      let first : CaseAndSet g w₃ r 0 (ok c) =
      subst (λ y. CaseAndSet g (stored_all w₂ cases (case_row_at 0) (case_words y ++ given)) r 0 (ok c)) same_case
      (claimed_row w₂ (omega arith) {r = r} {j = 0} (omega arith) given refl claimed₂
      (λ k h. subst (λ vs. Names (get_or given k 0) (get_or vs k (undef 0))) (sym inputs) (given_all_name bundle is k h))) in
      let slots₃ = slots_stay (λ a h. one₃.starts a) slots₂ in
      let start₃ : word w₃ set_starts r ≡ start = one₃.starts r ∙ starts₂ r in
      let left₃ : ShowsSet g w₃ (word w₃ set_starts r) n (take i d ++ drop (suc i) d) =
      rw start₃ (set_stays (only_preserves one₃.only g) (λ k h. same_elsewhere_run w₂ cases (omega arith)
      (case_row_at 0) row₀ _) left) in
      let row₁ = case_words (unclaimed_case Others start n) in
      let w₄ = stored_all w₃ cases (case_row_at 1) row₁ in
      let one₄ = one_row w₃ 1 row₁ (omega arith) in
      let second : CaseAndSet g w₄ r 1 (err (take i d ++ drop (suc i) d)) =
      subst (λ b. CaseAndSet g (stored_all w₃ cases (case_row_at 1) (case_words (unclaimed_case Others b n))) r 1
      (err (take i d ++ drop (suc i) d)))
      start₃ (others_row w₃ (omega arith) {r = r} {j = 1} (omega arith) left₃) in
      let first₄ = shown_stays one₄ clash slots₃ few here first in
      let only = only_then only₂ (only_then one₃.only one₄.only) in
      let slots₄ = slots_stay (λ a h. one₄.starts a) slots₃ in
      let kept : (q : ℕ) → HasSlot (length g.regions) q → (q ≡ r → ⊥) → KeptRegion w w₄ q =
      λ q h e. kept_then (kept₂ q h e) (kept_then (one_kept one₃ slots₂ q h) (one_kept one₄ slots₃ q h)) in
      let total : word w₄ head cases_at ≡ 2 = one₄.total ∙ one₃.total ∙ total₂ in
      record {
        cases_shown = two_cases few here slots₄ total other first₄ second;
        state = only_state only slots₄ (λ q h e. kept q (slot q h) (λ f. unready (ap (λ b. region_kind w b) (sym f) ∙ e))) state;
        only = only;
        made_stays = only_preserves only g;
        kept = kept;
      }
