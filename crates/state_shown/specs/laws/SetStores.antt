-- Stores into sets and cases: what they change of a bundle, and that all else stays.
use Rattle.std.specs.Prelude.{◌≡◌, refl, List, ℕ, zero, suc, ◌+◌, ◌≤◌, ◌<◌, length, get_or}
use Rattle.std.proofs.Common.{ap, ◌∙◌, arith}
use Rattle.std.proofs.Math.Decide.{dec_lt}
use Rattle.meaning.specs.Graph.{Graph}
use Rattle.nesting.specs.Nesting.{NestState, StructurizeRegionState}
use Rattle.state_words.specs.Sections as sections
use Rattle.state_words.specs.Sections.{Section, number, start, size, used, section, word, stored, stored_all, front, head, kinds, backedges}
use Rattle.state_words.specs.Sections.{set_starts}
use Rattle.state_words.specs.Sections.{set_lengths, children, bodies, levels, cases, rewrites, outputs, conditions, cells, bundles}
use Rattle.state_words.specs.laws.Apart.{stored_length, section_other}
use Rattle.state_sets.specs.SetTables.{bundle_words, bundle_copied}
use Rattle.state_shown.specs.laws.Stores.{run_length, run_other, section_run, part_length, head_other}
use Rattle.state_shown.specs.laws.Conditions.{condition_same}
use Rattle.state_shown.specs.laws.Elsewhere.{SameTables, tables_stay}
use Rattle.state_shown.specs.Front.{SameFront}
use Rattle.state_shown.specs.laws.FrontKept.{stands_on}
use Rattle.state_shown.specs.Sets.{SameBundle}
use Rattle.state_shown.specs.States.{ShowsRegion, is_not_begun, is_in_progress, is_ready, is_claimed, Slots}
use Rattle.state_shown.specs.States.{ShowsState}
use Rattle.state_shown.specs.Kept.{PreservesMade, KeptRegion}
use Rattle.state_shown.specs.laws.RegionsKept.{region_stays}
use Rattle.meaning.specs.facts.Parts.{run_before, run_behind, run_in}
use Rattle.state_shown.specs.laws.RegionSteps.{bundle_run, named_stay}
use Rattle.state_words.specs.Rows.{bundle_row_at, bundle_word, bundle_word_at, cases_at, cells_at, kind_ready, level_at, merges_at}
use Rattle.state_words.specs.Rows.{most_bundles, region_kind, returned_at, slot_size, types_at, bundle_row_size}

-- ---- A word of a section.
module _ (w : List ℕ) (k : Section) (i x : ℕ) where
  pub word_other : (j : Section) → (number j ≡ number k → ⊥) → (q : ℕ) → word (stored w k i x) j q ≡ word w j q
  word_other j d q = ap (λ l. get_or l q 0) (section_other w k i x j d)

module _ (w : List ℕ) (k : Section) (i : ℕ) (xs : List ℕ) where
  pub run_word : start k + size k ≤ length w → i + length xs ≤ size k → (q : ℕ) → q < length xs
      → word (stored_all w k i xs) k (i + q) ≡ get_or xs q 0
  run_word room few q h =
      rw (section_run w k i xs) (run_in (section w k) i xs q (rw (part_length (start k) (size k) w room) few) h)

  pub run_beside : (q : ℕ) → (i ≤ q → q < i + length xs → ⊥) → word (stored_all w k i xs) k q ≡ word w k q
  run_beside q d =
      rw (section_run w k i xs)
      (elim (dec_lt q i) [
        | yes h ↦ run_before (section w k) i xs q h
        | no h ↦ run_behind (section w k) i xs q
            (elim (dec_lt q (i + length xs)) [ yes b ↦ absurd (d (omega arith) b) | no b ↦ omega arith ])
      ])

  pub run_elsewhere_word : (j : Section) → (number j ≡ number k → ⊥) → (q : ℕ) → word (stored_all w k i xs) j q ≡ word w j q
  run_elsewhere_word j d q = ap (λ l. get_or l q 0) (run_other w k i xs j d)

-- ---- Sets and cases stand in set starts, set lengths, cases, bundles, and in the head's total of cases.
pub record NoSets (k : Section) : Type 0 where
  pub not_head : number k ≡ number sections.head → ⊥
  pub not_starts : number k ≡ number sections.set_starts → ⊥
  pub not_lengths : number k ≡ number sections.set_lengths → ⊥
  pub not_cases : number k ≡ number sections.cases → ⊥
  pub not_bundles : number k ≡ number sections.bundles → ⊥

pub record OfSets (k : Section) : Type 0 where
  pub apart : (j : Section) → NoSets j → number j ≡ number k → ⊥
  pub not_head : number sections.head ≡ number k → ⊥

pub starts_of_sets : OfSets set_starts
starts_of_sets = record { apart = λ j a. a.not_starts; not_head = omega arith }

pub lengths_of_sets : OfSets set_lengths
lengths_of_sets = record { apart = λ j a. a.not_lengths; not_head = omega arith }

pub cases_of_sets : OfSets cases
cases_of_sets = record { apart = λ j a. a.not_cases; not_head = omega arith }

pub bundles_of_sets : OfSets bundles
bundles_of_sets = record { apart = λ j a. a.not_bundles; not_head = omega arith }

-- From w to w' nothing but these changes.
pub record OnlySets (w w' : List ℕ) : Type 0 where
  pub words : length w' ≡ length w
  pub others : (k : Section) → NoSets k → section w' k ≡ section w k
  pub totals : (q : ℕ) → (q ≡ cases_at → ⊥) → word w' head q ≡ word w head q

module _ (w : List ℕ) where
  pub only_same : OnlySets w w
  only_same = record { words = refl; others = λ k d. refl; totals = λ q d. refl }

  pub only_word : {k : Section} → OfSets k → (i x : ℕ) → OnlySets w (stored w k i x)
  only_word {k} o i x =
      record {
        words = stored_length (start k) (size k) w i x;
        others = λ j d. section_other w k i x j (o.apart j d);
        totals = λ q d. word_other w k i x head o.not_head q;
      }

  pub only_run : {k : Section} → OfSets k → (i : ℕ) (xs : List ℕ) → OnlySets w (stored_all w k i xs)
  only_run {k} o i xs =
      record {
        words = run_length (start k) (size k) w i xs;
        others = λ j d. run_other w k i xs j (o.apart j d);
        totals = λ q d. run_elsewhere_word w k i xs head o.not_head q;
      }

  pub only_total : (x : ℕ) → OnlySets w (stored w head cases_at x)
  only_total x =
      record {
        words = stored_length (start head) (size head) w cases_at x;
        others = λ j d. section_other w head cases_at x j d.not_head;
        totals = λ q d. head_other w cases_at x q d;
      }

pub only_then : {w w₁ w₂ : List ℕ} → OnlySets w w₁ → OnlySets w₁ w₂ → OnlySets w w₂
only_then a b =
    record {
      words = b.words ∙ a.words;
      others = λ k d. b.others k d ∙ a.others k d;
      totals = λ q d. b.totals q d ∙ a.totals q d;
    }

-- ---- What stays then.
module _ {w w' : List ℕ} (only : OnlySets w w') where
  pub only_word_same : (k : Section) → NoSets k → (q : ℕ) → word w' k q ≡ word w k q
  only_word_same k d q = ap (λ l. get_or l q 0) (only.others k d)

  pub only_front : SameFront w w'
  only_front = record { words = only.words; front_words = only.others front (omega arith) }

  pub only_tables : SameTables w w'
  only_tables =
      record {
        words = only.words;
        same_rewrites = only.others rewrites (omega arith);
        same_outputs = only.others outputs (omega arith);
        totals = λ q a b. only.totals q (omega arith);
      }

  pub only_preserves : (g : Graph) → PreservesMade g w w'
  only_preserves g =
      record {
        front = only_front;
        conditions_stay = condition_same (only.others conditions (omega arith)) (only.others cells (omega arith))
            (only.totals cells_at (omega arith)) (only.totals merges_at (omega arith));
        nodes_stay = λ n. record {
          nodes = rw (only.others cells (omega arith)) n.nodes;
          made = rw (only.totals cells_at (omega arith)) n.made;
        };
      }

  pub only_kept : (q : ℕ) → word w' set_starts q ≡ word w set_starts q → word w' set_lengths q ≡ word w set_lengths q
      → ((i : ℕ) → i < slot_size → SameBundle w w' (word w set_starts q + i)) → KeptRegion w w' q
  only_kept q a b c =
      record {
        set_start = a;
        set_length = b;
        handle = only_word_same children (omega arith) q;
        body = only_word_same bodies (omega arith) q;
        backedge = only_word_same backedges (omega arith) q;
        target_answers = λ j h. only_word_same levels (omega arith) (level_at q j);
        slot = c;
      }

  -- The state is shown as long as the Ready regions are kept.
  pub only_state : {g : Graph} {s : NestState} → Slots (length g.regions) w'
      → ((q : ℕ) → q < length g.regions → region_kind w q ≡ kind_ready → KeptRegion w w' q) → ShowsState g w s → ShowsState g w' s
  only_state {g} {s} slots kept x =
      record {
        stands = stands_on only_front x.stands;
        tables = tables_stay only_tables x.tables;
        named = named_stay only_tables x.named;
        size = x.size;
        regions = λ q h. go q h (x.regions q h);
        slots = slots;
        returned = record {
          size = only.totals returned_at (omega arith) ∙ x.returned.size;
          types = λ k h. only.totals (types_at + k) (omega arith) ∙ x.returned.types k h;
        };
      }
    where
      go : (q : ℕ) → q < length g.regions → {y : StructurizeRegionState} → ShowsRegion g w q y → ShowsRegion g w' q y
      go q h (is_not_begun a) = is_not_begun (only_word_same kinds (omega arith) q ∙ a)
      go q h (is_in_progress a) = is_in_progress (only_word_same kinds (omega arith) q ∙ a)
      go q h (is_ready a b n d) =
          region_stays (only_preserves g) (kept q h a) (only_word_same kinds (omega arith) q) (is_ready a b n d)
      go q h (is_claimed a) = is_claimed (only_word_same kinds (omega arith) q ∙ a)

-- ---- Bundle q has the words that bundle p had.
pub record Moves (w w' : List ℕ) (p q : ℕ) : Type 0 where
  pub words : (i : ℕ) → i < bundle_row_size → bundle_word w' q i ≡ bundle_word w p i

pub moves_then : {w w₁ w₂ : List ℕ} {p q r : ℕ} → Moves w w₁ p q → Moves w₁ w₂ q r → Moves w w₂ p r
moves_then a b = record { words = λ i h. b.words i h ∙ a.words i h }

pub same_moves : {w w' : List ℕ} {p : ℕ} → SameBundle w w' p → Moves w w' p p
same_moves s = record { words = s.words }

-- Stores elsewhere leave every bundle.
pub same_elsewhere : (w : List ℕ) (k : Section) → (number sections.bundles ≡ number k → ⊥) → (i x p : ℕ) → SameBundle w (stored w k i x) p
same_elsewhere w k d i x p = record { words = λ j h. word_other w k i x bundles d (bundle_word_at p j) }

pub same_elsewhere_run : (w : List ℕ) (k : Section) → (number sections.bundles ≡ number k → ⊥) → (i : ℕ) (xs : List ℕ) (p : ℕ)
    → SameBundle w (stored_all w k i xs) p
same_elsewhere_run w k d i xs p = record { words = λ j h. run_elsewhere_word w k i xs bundles d (bundle_word_at p j) }

-- A bundle stored whole, and the others.
module _ (w : List ℕ) (p : ℕ) (xs : List ℕ) (seven : length xs ≡ bundle_row_size) where
  pub bundle_stored : used ≤ length w → p < most_bundles → (i : ℕ) → i < bundle_row_size → word
      (stored_all w bundles (bundle_row_at p) xs) bundles
      (bundle_word_at p i) ≡ get_or xs i 0
  bundle_stored room h i j = run_word w bundles (bundle_row_at p) xs (omega arith) (omega arith) i (omega arith)

  pub bundle_beside : (q : ℕ) → (q ≡ p → ⊥) → SameBundle w (stored_all w bundles (bundle_row_at p) xs) q
  bundle_beside q d = (bundle_run w p xs (omega arith)).others q d

bundle_words_at : (w : List ℕ) (p i : ℕ) → i < bundle_row_size → get_or (bundle_words w p) i 0 ≡ bundle_word w p i
bundle_words_at w p zero h = refl
bundle_words_at w p (suc zero) h = refl
bundle_words_at w p (suc (suc zero)) h = refl
bundle_words_at w p (suc (suc (suc zero))) h = refl
bundle_words_at w p (suc (suc (suc (suc zero)))) h = refl
bundle_words_at w p (suc (suc (suc (suc (suc zero))))) h = refl
bundle_words_at w p (suc (suc (suc (suc (suc (suc zero)))))) h = refl
bundle_words_at w p (suc (suc (suc (suc (suc (suc (suc i))))))) h = absurd (omega arith)

pub copy_moves : (w : List ℕ) (to from : ℕ) → used ≤ length w → to < most_bundles → Moves w (bundle_copied w to from) from to
copy_moves w to from room h =
    record { words = λ i j. bundle_stored w to (bundle_words w from) refl room h i j ∙ bundle_words_at w from i j }

pub copy_beside : (w : List ℕ) (to from q : ℕ) → (q ≡ to → ⊥) → SameBundle w (bundle_copied w to from) q
copy_beside w to from q d = bundle_beside w to (bundle_words w from) refl q d
