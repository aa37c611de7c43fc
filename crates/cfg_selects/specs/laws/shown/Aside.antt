-- One case set aside: it is Unreachable then, and all others are as they were.
use Rattle.std.specs.Prelude.{◌≡◌, refl, List, [], ◌∷◌, ℕ, ◌+◌, ◌≤◌, ◌<◌, length, get_or, set}
use Rattle.std.proofs.Common.{sym, ap, ◌∙◌, arith, get_or-set_same, get_or-set_other}
use Rattle.std.proofs.Math.Decide.{ℕ_discrete}
use Rattle.std.proofs.Math.ListN.{length-set}
use Rattle.meaning.specs.Lists.{pick, empty, total}
use Rattle.meaning.specs.Graph.{Graph}
use Rattle.nesting.specs.Nesting.{MaybeClaimedRegion, ok, err, ClaimedRegion, DeferredTarget, DeferredEdgeBundleSet, NestState, deferred_of}
use Rattle.nesting.specs.Nesting.{without_convergent}
use Rattle.state_regions.specs.declared.cases.CaseKind.TheVariants.{NothingDeferred}
use Rattle.state_words.specs.Sections.{word, used, set_starts}
use Rattle.state_regions.specs.RegionTables.{case_total, case_words, case_kind_of, case_row}
use Rattle.state_shown.specs.Sets.{ShowsSet, SameBundle}
use Rattle.state_shown.specs.States.{Slots, ShowsCase, shows_ok, shows_nothing, shows_edge, shows_others, ShowsCases, no_case, HasSlot}
use Rattle.state_shown.specs.Kept.{PreservesMade}
use Rattle.state_shown.specs.laws.RegionsKept.{set_stays}
use Rattle.cfg_bundles.specs.EdgesAndCases.{unclaimed_case}
use Rattle.cfg_bundles.specs.laws.shown.CaseSteps.{CaseAndSet, OneCase, one_row, other_row, shown_stays, row_word, nothing_row}
use Rattle.cfg_bundles.specs.laws.shown.Appended.{ShowsAlone, other_kind, claimed_parts, edge_parts, rest_parts}
use Rattle.cfg_merging.specs.laws.shown.RewritingShown.{cases_after, case_found}
use Rattle.cfg_merging.specs.laws.shown.TargetsShown.{edges_of_cases, edges_of_set}
use Rattle.cfg_selects.specs.Into.{set_aside}
use Rattle.state_words.specs.Rows.{case_input, case_set_length, case_set_start, case_word, kind_claimed, region_kind}
use Rattle.state_words.specs.Rows.{case_row_size, spare_slot, case_set_length_field, case_set_start_field}

module _ {g : Graph} (few : length g.regions ≤ 32) {r : ℕ} (here : r < length g.regions) {w : List ℕ} (room : used ≤ length w)
    (slots : Slots (length g.regions) w) {cs : List MaybeClaimedRegion} (shown : ShowsCases g w r cs) (j : ℕ)
    (below : j < length cs) where
  at_most : j < 8
  at_most = let most = shown.few in omega arith

  one : OneCase w (set_aside w j) j
  one = one_row w j (case_words (unclaimed_case NothingDeferred 0 0)) (omega arith)

  pub none_left : case_set_length (set_aside w j) j ≡ 0
  none_left = row_word w room j at_most (case_words (unclaimed_case NothingDeferred 0 0)) (omega arith) 5 (omega arith)

  case_aside : (k : ℕ) → k < length cs → CaseAndSet g (set_aside w j) r k (get_or (set cs j no_case) k no_case)
  case_aside k h =
      elim (ℕ_discrete k j) [
        | yes e ↦ rw (e, get_or-set_same cs j no_case no_case below) (nothing_row w room at_most)
        | no d ↦ rw (get_or-set_other cs j k no_case no_case d)
            (shown_stays one d slots few here (record { case = shown.each k h; set = shown.sets k h }))
      ]

  -- A case with bundles is another one.
  pub other_case : (k p : ℕ) → p < case_set_length (set_aside w j) k → k ≡ j → ⊥
  other_case k p h e =
      let z : case_set_length (set_aside w j) k ≡ 0 = ap (λ i. case_set_length (set_aside w j) i) e ∙ none_left in omega arith

  pub field : (k i : ℕ) → (k ≡ j → ⊥) → i < case_row_size → case_word (set_aside w j) k i ≡ case_word w k i
  field k i d h = other_row one k d i h

  pub aside_shown : ShowsCases g (set_aside w j) r (set cs j no_case)
  unfolding case_total
  aside_shown =
      let same = length-set cs j no_case in
      record {
        size = rw (one.total, same) shown.size;
        few = rw same shown.few;
        each = λ k h. (case_aside k (omega arith)).case;
        sets = λ k h. (case_aside k (omega arith)).set;
        apart = λ i k p q a b c d e.
            let x = other_case i p c in
            let y = other_case k q d in
            shown.apart i k p q a (omega arith) (rw (field i case_set_length_field x (omega arith)) at c)
            (rw (field k case_set_length_field y (omega arith)) at d)
            (rw (field i case_set_start_field x (omega arith), field k case_set_start_field y (omega arith)) at e);
        not_spare = λ k p q a b c e.
            let x = other_case k p b in
            shown.not_spare k p q (omega arith) (rw (field k case_set_length_field x (omega arith)) at b) c
            (rw (field k case_set_start_field x (omega arith), one.starts spare_slot) at e);
      }

-- ---- Where every convergent case is taken out, nothing is deferred.
module _ (s : NestState) (x : DeferredTarget) where
  none_of_case : (c : MaybeClaimedRegion) (d : DeferredEdgeBundleSet) → deferred_of c ≡ d
      → edges_of_set x (deferred_of (case_found s (pick (empty d) c (err []))).value) ≡ 0
  none_of_case (ok c) [] e = rw e
  none_of_case (err d) [] e = rw e
  none_of_case c (b ∷ bs) e = refl

  pub none_deferred : (cs : List MaybeClaimedRegion) → edges_of_cases x (cases_after s (without_convergent cs)) ≡ 0
  none_deferred [] = refl
  none_deferred (c ∷ cs) = rw (none_of_case c (deferred_of c) refl, none_deferred cs)

-- ---- The parts of the case set aside stay shown.
pub record PartsStay (g : Graph) (w w' : List ℕ) (j : ℕ) : Type 0 where
  pub made_stays : PreservesMade g w w'
  pub same_kinds : (q : ℕ) → region_kind w' q ≡ region_kind w q
  pub same_starts : (q : ℕ) → word w' set_starts q ≡ word w set_starts q
  pub inputs : (k : ℕ) → k < 4 → case_input w' j k ≡ case_input w j k
  pub bundles : (p : ℕ) → p < case_set_length w j → SameBundle w w' (case_set_start w j + p)

pub parts_then : {g : Graph} {w w' : List ℕ} {r j : ℕ} {m : MaybeClaimedRegion} → Slots (length g.regions) w
    → HasSlot (length g.regions) r → PartsStay g w w' j → CaseAndSet g w r j m
    → ((c : ClaimedRegion) → m ≡ ok c → (region_kind w c.origin ≡ kind_claimed) × (c.origin ≡ r → ⊥))
    → ShowsAlone g w' r j (case_row w j) m
parts_then {g} {w} {w'} {r} {j} slots below stay x claimed = go x.case (set_stays stay.made_stays stay.bundles x.set) claimed
  where
    go : {m : MaybeClaimedRegion} → ShowsCase g w r j m
        → ShowsSet g w' (case_set_start w j) (case_set_length w j) (deferred_of m)
        → ((c : ClaimedRegion) → m ≡ ok c → (region_kind w c.origin ≡ kind_claimed) × (c.origin ≡ r → ⊥))
        → ShowsAlone g w' r j (case_row w j) m
    go (shows_ok {c} a b in_graph d e f start size names) s claimed =
        let y = claimed c refl in
        claimed_parts {c = c} (ap case_kind_of a) b in_graph y.1 (stay.same_kinds c.origin ∙ y.0) d e (stay.made_stays.nodes_stay f)
        (rw (start ∙ sym (stay.same_starts c.origin)) at s) (λ k h. rw (stay.inputs k h) (names k h))
    go (shows_nothing a b) s claimed =
        let at = slots.starts r below in
        let in_slot = slots.below r below in
        let same = stay.same_starts r in
        rest_parts (other_kind a (omega arith)) (other_kind a (omega arith))
        record {
          size = b;
          few = omega arith;
          room = omega arith;
          each = λ i h. absurd (omega arith);
          apart = λ i k p q. absurd (omega arith);
        }
    go (shows_edge a b d) s claimed = edge_parts (ap case_kind_of a) d (rw d at s)
    go (shows_others a b) s claimed = rest_parts (other_kind a (omega arith)) (other_kind a (omega arith)) (rw (b ∙ sym (stay.same_starts r)) at s)
