-- What making outputs and conditions leaves: all but these, their totals, and some bundles of the spare slot.
use Rattle.std.specs.Prelude.{◌≡◌, refl, List, ℕ, ◌+◌, ◌-◌, ◌≤◌, ◌<◌, length, get_or}
use Rattle.std.proofs.Common.{ap, ◌∙◌, arith}
use Rattle.meaning.specs.Graph.{Graph}
use Rattle.nesting.specs.Nesting.{MaybeClaimedRegion}
use Rattle.state_words.specs.Sections as sections
use Rattle.state_words.specs.Sections.{Section, number, section, word, stored, head, kinds, backedges, set_starts, set_lengths, children}
use Rattle.state_words.specs.Sections.{bodies}
use Rattle.state_words.specs.Sections.{levels}
use Rattle.state_words.specs.Sections.{cases, conditions, outputs, bundles}
use Rattle.state_words.specs.laws.Apart.{section_other}
use Rattle.state_shown.specs.laws.Stores.{ChangesOnly, word_changes}
use Rattle.state_shown.specs.Sets.{SameBundle}
use Rattle.state_shown.specs.States.{Slots, ShowsReturned, ShowsCases}
use Rattle.state_shown.specs.Kept.{PreservesMade}
use Rattle.state_shown.specs.laws.RegionsKept.{preserves_same, preserves_then, same_bundle, same_bundle_then}
use Rattle.state_shown.specs.laws.RegionSteps.{slots_stay}
use Rattle.state_shown.specs.laws.RegionSteps.{bundles_same, preserves_by, bundle_word_concerns}
use Rattle.cfg_select_nodes.specs.laws.shown.StepsShown.{SelectStep, cases_stay}
use Rattle.state_words.specs.Rows.{bundle_word_at, case_body_at, case_word_at, level_at, merges_at, no_total, outputs_at, returned_at}
use Rattle.state_words.specs.Rows.{spare_slot, types_at, bundle_row_size, slot_size}

-- Of the bundles those from a on, before b.
pub record Emitting (g : Graph) (a b : ℕ) (w w' : List ℕ) : Type 0 where
  pub words : length w' ≡ length w
  pub others : (j : Section) → (number j ≡ number sections.outputs → ⊥) → (number j ≡ number sections.conditions → ⊥)
      → (number j ≡ number sections.bundles → ⊥) → (number j ≡ number sections.head → ⊥)
      → section w' j ≡ section w j
  pub totals : (q : ℕ) → (q ≡ merges_at → ⊥) → (q ≡ outputs_at → ⊥) → word w' head q ≡ word w head q
  pub made_stays : PreservesMade g w w'
  pub beside : (p : ℕ) → (a ≤ p → p < b → ⊥) → SameBundle w w' p

pub emitting_none : (g : Graph) (a b : ℕ) (w : List ℕ) → Emitting g a b w w
emitting_none g a b w =
    record {
      words = refl;
      others = λ j c d e f. refl;
      totals = λ q c d. refl;
      made_stays = preserves_same g w;
      beside = λ p d. same_bundle w p;
    }

pub emitting_then : {g : Graph} {a b : ℕ} {w w₁ w₂ : List ℕ} → Emitting g a b w w₁ → Emitting g a b w₁ w₂ → Emitting g a b w w₂
emitting_then x y =
    record {
      words = y.words ∙ x.words;
      others = λ j c d e f. y.others j c d e f ∙ x.others j c d e f;
      totals = λ q c d. y.totals q c d ∙ x.totals q c d;
      made_stays = preserves_then x.made_stays y.made_stays;
      beside = λ p d. same_bundle_then (x.beside p d) (y.beside p d);
    }

pub emitting_within : {g : Graph} {a b c d : ℕ} {w w' : List ℕ} → Emitting g a b w w' → c ≤ a → b ≤ d → Emitting g c d w w'
emitting_within x h k =
    record {
      words = x.words;
      others = x.others;
      totals = x.totals;
      made_stays = x.made_stays;
      beside = λ p e. x.beside p (λ f i. e (omega arith) (omega arith));
    }

-- An output, or a condition.
pub emitting_output : {w w' : List ℕ} → ChangesOnly outputs outputs_at w w' → (g : Graph) (a b : ℕ) → Emitting g a b w w'
emitting_output changes g a b =
    record {
      words = changes.words;
      others = λ j c d e f. changes.others j c f;
      totals = λ q c d. changes.totals q d;
      made_stays = preserves_by changes (omega arith) g;
      beside = λ p d. bundles_same (changes.others bundles (omega arith) (omega arith)) p;
    }

pub emitting_condition : {w w' : List ℕ} → ChangesOnly conditions merges_at w w' → (g : Graph) (a b : ℕ) → PreservesMade g w w'
    → Emitting g a b w w'
emitting_condition changes g a b made_stays =
    record {
      words = changes.words;
      others = λ j c d e f. changes.others j d f;
      totals = λ q c d. changes.totals q c;
      made_stays = made_stays;
      beside = λ p d. bundles_same (changes.others bundles (omega arith) (omega arith)) p;
    }

-- A word of bundle p.
pub emitting_word : (g : Graph) (w : List ℕ) (p i x : ℕ) → i < bundle_row_size → Emitting g p (p + 1) w
    (stored w bundles (bundle_word_at p i) x)
emitting_word g w p i x h =
    let changes = word_changes bundles no_total w (omega arith) (bundle_word_at p i) x in
    record {
      words = changes.words;
      others = λ j c d e f. changes.others j e f;
      totals = λ q c d. ap (λ l. get_or l q 0) (section_other w bundles (bundle_word_at p i) x head (omega arith));
      made_stays = preserves_by changes (omega arith) g;
      beside = λ q d. (bundle_word_concerns w p i x h).others q (λ e. d (omega arith) (omega arith));
    }

-- ---- Where the bundles are of the spare slot, which begins at `base`.
pub record Spared (g : Graph) (r base : ℕ) (cs : List MaybeClaimedRegion) (w : List ℕ) : Type 0 where
  pub shown : ShowsCases g w r cs
  pub returned : ShowsReturned g w
  pub few : length g.regions ≤ 32
  pub slots : Slots (length g.regions) w
  pub spare : word w set_starts spare_slot ≡ base

module _ {g : Graph} {r base : ℕ} {cs : List MaybeClaimedRegion} {a b : ℕ} {w w' : List ℕ} (here : Spared g r base cs w)
    (x : Emitting g a b w w') (from : base ≤ a) (to : b ≤ base + slot_size) where
  same : (k : Section) → number sections.kinds ≤ number k → number k ≤ number sections.rewrites → (q : ℕ) → word w' k q ≡ word w k q
  same k h i q = ap (λ l. get_or l q 0) (x.others k (omega arith) (omega arith) (omega arith) (omega arith))

  pub emitting_step : SelectStep g r w w'
  emitting_step =
      let at = here.spare in
      let few = here.few in
      record {
        made_stays = x.made_stays;
        same_kinds = same kinds (omega arith) (omega arith);
        same_starts = same set_starts (omega arith) (omega arith);
        same_head = λ k h. x.totals k (omega arith) (omega arith);
        case_words = λ k i h d. same cases (omega arith) (omega arith) (case_word_at k i);
        case_bodies = λ k e. same cases (omega arith) (omega arith) (case_body_at k);
        others = λ q h d. record {
          set_start = same set_starts (omega arith) (omega arith) q;
          set_length = same set_lengths (omega arith) (omega arith) q;
          handle = same children (omega arith) (omega arith) q;
          body = same bodies (omega arith) (omega arith) q;
          backedge = same backedges (omega arith) (omega arith) q;
          target_answers = λ j i. same levels (omega arith) (omega arith) (level_at q j);
          slot = λ j i. x.beside (word w set_starts q + j) (λ c e.
              let u = here.slots.starts q (omega arith) in
              let v = here.slots.starts spare_slot (omega arith) in
              let z : q ≡ spare_slot = here.slots.own q spare_slot (omega arith) (omega arith) (omega arith) in
              omega arith);
        };
        bundles_kept = λ p d. x.beside p (λ c e.
            let z : word w set_starts spare_slot + (p - base) ≡ p = omega arith in
            d (p - base) (omega arith) z);
      }

  pub spared_stays : Spared g r base cs w'
  spared_stays =
      let s = emitting_step in
      let y = here.returned in
      record {
        shown = cases_stay s here.shown;
        returned = record {
          size = s.same_head returned_at (omega arith) ∙ y.size;
          types = λ k h. s.same_head (types_at + k) (omega arith) ∙ y.types k h;
        };
        few = here.few;
        slots = slots_stay (λ q h. s.same_starts q) here.slots;
        spare = s.same_starts 32 ∙ here.spare;
      }
