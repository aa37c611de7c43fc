-- What a select's steps leave: all but region r's own, the spare slot, and the regions of the cases that are not claimed.
use Rattle.std.specs.Prelude.{◌≡◌, refl, List, ℕ, ◌+◌, ◌≤◌, ◌<◌, length, get_or}
use Rattle.std.proofs.Common.{sym, ap, ◌∙◌, arith}
use Rattle.meaning.specs.Graph.{Graph}
use Rattle.nesting.specs.Nesting.{MaybeClaimedRegion}
use Rattle.state_words.specs.Sections as sections
use Rattle.state_words.specs.Sections.{Section, number, word, stored, head, kinds, set_starts, children, cases}
use Rattle.state_words.specs.Sections.{bundles}
use Rattle.state_words.specs.laws.Apart.{section_other}
use Rattle.state_regions.specs.RegionTables.{case_total}
use Rattle.state_shown.specs.laws.Stores.{ChangesOnly}
use Rattle.state_shown.specs.Sets.{SameBundle}
use Rattle.state_shown.specs.States.{ShowsCase, shows_ok, shows_nothing, shows_edge, shows_others, ShowsCases}
use Rattle.state_shown.specs.Kept.{PreservesMade, KeptRegion}
use Rattle.state_shown.specs.laws.RegionsKept.{preserves_same, preserves_then, kept_same, kept_then, same_bundle, same_bundle_then}
use Rattle.state_shown.specs.laws.RegionsKept.{set_stays}
use Rattle.state_shown.specs.laws.RegionSteps.{OfNoRegion, kept_by, bundles_same, StatesStay, word_concerns, preserves_by, kept_word}
use Rattle.cfg_select_nodes.specs.laws.shown.RegionsShown.{KeepsCases}
use Rattle.state_words.specs.Rows.{case_body, case_body_at, case_claimed, case_kind, case_set_length, case_set_start, case_word, slot_size}
use Rattle.state_words.specs.Rows.{case_word_at, bundle_row_size, case_row_size, case_body_field, case_kind_field}
use Rattle.state_words.specs.Rows.{cases_at, kind_ready, region_kind, spare_slot}

pub record SelectStep (g : Graph) (r : ℕ) (w w' : List ℕ) : Type 0 where
  pub made_stays : PreservesMade g w w'
  pub same_kinds : (q : ℕ) → region_kind w' q ≡ region_kind w q
  pub same_starts : (q : ℕ) → word w' set_starts q ≡ word w set_starts q
  pub same_head : (k : ℕ) → 7 ≤ k → word w' head k ≡ word w head k
  pub case_words : (k i : ℕ) → i < case_row_size → (i ≡ case_body_field → ⊥) → case_word w' k i ≡ case_word w k i
  pub case_bodies : (k : ℕ) → case_kind w k ≡ case_claimed → case_body w' k ≡ case_body w k
  pub others : (q : ℕ) → q < length g.regions → (q ≡ r → ⊥) → KeptRegion w w' q
  pub bundles_kept : (p : ℕ) → ((i : ℕ) → i < slot_size → word w set_starts spare_slot + i ≡ p → ⊥) → SameBundle w w' p

pub step_same : (g : Graph) (r : ℕ) (w : List ℕ) → SelectStep g r w w
step_same g r w =
    record {
      made_stays = preserves_same g w;
      same_kinds = λ q. refl;
      same_starts = λ q. refl;
      same_head = λ k h. refl;
      case_words = λ k i h d. refl;
      case_bodies = λ k e. refl;
      others = λ q h d. kept_same w q;
      bundles_kept = λ p d. same_bundle w p;
    }

pub step_then : {g : Graph} {r : ℕ} {w w₁ w₂ : List ℕ} → SelectStep g r w w₁ → SelectStep g r w₁ w₂ → SelectStep g r w w₂
step_then a b =
    record {
      made_stays = preserves_then a.made_stays b.made_stays;
      same_kinds = λ q. b.same_kinds q ∙ a.same_kinds q;
      same_starts = λ q. b.same_starts q ∙ a.same_starts q;
      same_head = λ k h. b.same_head k h ∙ a.same_head k h;
      case_words = λ k i h d. b.case_words k i h d ∙ a.case_words k i h d;
      case_bodies = λ k e. b.case_bodies k (a.case_words k case_kind_field (omega arith) (omega arith) ∙ e) ∙ a.case_bodies k e;
      others = λ q h d. kept_then (a.others q h d) (b.others q h d);
      bundles_kept = λ p d. same_bundle_then (a.bundles_kept p d)
          (b.bundles_kept p (λ i h e. d i h (ap (λ x. x + i) (sym (a.same_starts 32)) ∙ e)));
    }

-- A step that changes one section, none of the regions' and not the cases, and one total of the head.
pub step_by : {k : Section} {i : ℕ} {w w' : List ℕ} → ChangesOnly k i w w' → OfNoRegion k → (number sections.kinds ≡ number k → ⊥)
    → (number sections.cases ≡ number k → ⊥) → i < bundle_row_size
    → (g : Graph) (r : ℕ) → PreservesMade g w w' → SelectStep g r w w'
step_by changes none d e few g r made_stays =
    let same = changes.others cases e (omega arith) in
    record {
      made_stays = made_stays;
      same_kinds = λ q. ap (λ l. get_or l q 0) (changes.others kinds d (omega arith));
      same_starts = λ q. ap (λ l. get_or l q 0) (changes.others set_starts none.not_starts (omega arith));
      same_head = λ k b. changes.totals k (omega arith);
      case_words = λ k i h d. ap (λ l. get_or l (case_word_at k i) 0) same;
      case_bodies = λ k e. ap (λ l. get_or l (case_body_at k) 0) same;
      others = λ q h d. kept_by changes none q;
      bundles_kept = λ p d. bundles_same (changes.others bundles none.not_bundles (omega arith)) p;
    }

-- The regions of the cases.
pub step_regions : {w w' : List ℕ} → KeepsCases 0 w w' → (g : Graph) (r : ℕ) → SelectStep g r w w'
step_regions keeps g r =
    let changes = keeps.changes in
    record {
      made_stays = preserves_by changes (omega arith) g;
      same_kinds = λ q. ap (λ l. get_or l q 0) (changes.others kinds (omega arith) (omega arith));
      same_starts = λ q. ap (λ l. get_or l q 0) (changes.others set_starts (omega arith) (omega arith));
      same_head = λ k h. changes.totals k (omega arith);
      case_words = keeps.words;
      case_bodies = keeps.bodies;
      others = λ q h d. kept_by changes (omega arith) q;
      bundles_kept = λ p d. bundles_same (changes.others bundles (omega arith) (omega arith)) p;
    }

-- Region r's children.
pub step_children : (g : Graph) (r : ℕ) (w : List ℕ) (h : ℕ) → SelectStep g r w (stored w children r h)
step_children g r w h =
    let c = word_concerns g w children (omega arith) r h in
    let same = section_other w children r h cases (omega arith) in
    record {
      made_stays = c.made_stays;
      same_kinds = c.same_kinds;
      same_starts = c.same_starts;
      same_head = λ k b. c.same_head k;
      case_words = λ k i b d. ap (λ l. get_or l (case_word_at k i) 0) same;
      case_bodies = λ k e. ap (λ l. get_or l (case_body_at k) 0) same;
      others = λ q b d. kept_word g w children (omega arith) (omega arith) r h q d;
      bundles_kept = λ p d. bundles_same (section_other w children r h bundles (omega arith)) p;
    }

-- ---- Region r is under way, so that no state of a region changes.
pub states_of_step : {g : Graph} {r : ℕ} {w w' : List ℕ} → SelectStep g r w w' → (region_kind w r ≡ kind_ready → ⊥) → StatesStay g w w'
states_of_step {w} x d =
    record {
      same_kinds = λ q h. x.same_kinds q;
      same_starts = λ a h. x.same_starts a;
      same_returned = λ k h. x.same_head k (omega arith);
      ready_kept = λ q h e. x.others q h (λ z. d (ap (λ p. region_kind w p) (sym z) ∙ e));
    }

-- ---- The cases stay shown.
module _ {g : Graph} {r : ℕ} {w w' : List ℕ} (x : SelectStep g r w w') where
  field_same : (j i : ℕ) → i < case_row_size → (i ≡ case_body_field → ⊥) → case_word w' j i ≡ case_word w j i
  field_same j i h d = x.case_words j i h d

  case_stays : {j : ℕ} {c : MaybeClaimedRegion} → ShowsCase g w r j c → ShowsCase g w' r j c
  case_stays {j} (shows_ok {c} k o b s t n a z i) =
      shows_ok {c = c} (field_same j 0 (omega arith) (omega arith) ∙ k) (field_same j 1 (omega arith) (omega arith) ∙ o) b
      (x.case_bodies j k ∙ s) t
      (rw (field_same j 3 (omega arith) (omega arith)) (x.made_stays.nodes_stay n))
      (field_same j 4 (omega arith) (omega arith) ∙ a ∙ sym (x.same_starts c.origin)) z
      (λ m h. rw (field_same j (6 + m) (omega arith) (omega arith)) (i m h))
  case_stays {j} (shows_nothing k z) =
      shows_nothing (field_same j 0 (omega arith) (omega arith) ∙ k) (field_same j 5 (omega arith) (omega arith) ∙ z)
  case_stays {j} (shows_edge k a z) =
      shows_edge (field_same j 0 (omega arith) (omega arith) ∙ k) (field_same j 4 (omega arith) (omega arith) ∙ a)
      (field_same j 5 (omega arith) (omega arith) ∙ z)
  case_stays {j} (shows_others k a) =
      shows_others (field_same j 0 (omega arith) (omega arith) ∙ k)
      (field_same j 4 (omega arith) (omega arith) ∙ a ∙ sym (x.same_starts r))

  pub cases_stay : {cs : List MaybeClaimedRegion} → ShowsCases g w r cs → ShowsCases g w' r cs
  unfolding case_total
  cases_stay {cs} y =
      let start : (j : ℕ) → case_set_start w' j ≡ case_set_start w j = λ j. field_same j 4 (omega arith) (omega arith) in
      let many : (j : ℕ) → case_set_length w' j ≡ case_set_length w j = λ j. field_same j 5 (omega arith) (omega arith) in
      record {
        size = rw (x.same_head cases_at (omega arith)) y.size;
        few = y.few;
        each = λ j h. case_stays (y.each j h);
        sets = λ j h. rw (start j, many j) (set_stays x.made_stays
            (λ i b. x.bundles_kept (case_set_start w j + i) (λ q c e. y.not_spare j i q h b c (sym e))) (y.sets j h));
        apart = λ i j p q a b c d e.
            y.apart i j p q a b (rw (many i) at c) (rw (many j) at d) (rw (start i, start j) at e);
        not_spare = λ j p q a b c e. y.not_spare j p q a (rw (many j) at b) c (rw (start j, x.same_starts 32) at e);
      }
