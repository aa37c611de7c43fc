-- Stores into the spare slot leave all else that the words show.
use Rattle.std.specs.Prelude.{◌≡◌, refl, List, [], ◌∷◌, ℕ, suc, ◌+◌, ◌-◌, ◌≤◌, ◌<◌, length, get_or}
use Rattle.std.proofs.Common.{sym, ap, ◌∙◌, arith}
use Rattle.std.proofs.Math.Decide.{dec_lt}
use Rattle.meaning.specs.Graph.{Graph}
use Rattle.format.specs.Valid.{Valid}
use Rattle.nesting.specs.Nesting.{NestState, MaybeClaimedRegion}
use Rattle.state_words.specs.Sections as sections
use Rattle.state_words.specs.Sections.{Section, number, start, size, front, section, word, stored, stored_all, stored_all_at, head, kinds}
use Rattle.state_words.specs.Sections.{backedges, set_starts}
use Rattle.state_words.specs.Sections.{set_lengths, children, bodies, levels, cases, rewrites, outputs, conditions, cells, bundles}
use Rattle.state_regions.specs.RegionTables.{case_total}
use Rattle.state_words.specs.laws.Apart.{stored_length, section_other}
use Rattle.state_shown.specs.laws.Conditions.{condition_same}
use Rattle.state_shown.specs.laws.Elsewhere.{SameTables, tables_stay}
use Rattle.state_shown.specs.laws.FrontKept.{stands_on}
use Rattle.state_shown.specs.Sets.{SameBundle}
use Rattle.state_shown.specs.States.{Slots, ShowsState, ShowsCases, ShowsCase, shows_ok, shows_nothing, shows_edge, shows_others}
use Rattle.state_shown.specs.Kept.{PreservesMade, KeptRegion}
use Rattle.state_shown.specs.laws.RegionsKept.{set_stays, region_stays}
use Rattle.state_shown.specs.laws.Stores.{word_apart}
use Rattle.state_shown.specs.laws.RegionSteps.{named_by, slots_stay}
use Rattle.state_words.specs.Rows.{bundle_row_at, bundle_word_at, case_input, case_input_at, case_set_length_at, case_set_start, slot_size}
use Rattle.state_words.specs.Rows.{case_set_start_at, case_word, case_word_at, level_at, slot_words, spare_slot}

-- ---- A case stays shown where its words and the slots do.
pub case_stays : {g : Graph} {l l' : List ℕ} → PreservesMade g l l' → (r j : ℕ) → ((q : ℕ) → word l' set_starts q ≡ word l set_starts q)
    → ((i : ℕ) → i < 6 → case_word l' j i ≡ case_word l j i)
    → ((k : ℕ) → k < 4 → case_input l' j k ≡ case_input l j k)
    → {c : MaybeClaimedRegion} → ShowsCase g l r j c → ShowsCase g l' r j c
case_stays made_stays r j starts f same (shows_ok {c} kind origin in_graph body below nodes start size inputs) =
    shows_ok {c = c} (f 0 (omega arith) ∙ kind) (f 1 (omega arith) ∙ origin) in_graph (f 2 (omega arith) ∙ body) below
    (rw (f 3 (omega arith)) (made_stays.nodes_stay nodes))
    (f 4 (omega arith) ∙ start ∙ sym (starts c.origin)) size (λ k h. rw (same k h) (inputs k h))
case_stays made_stays r j starts f same (shows_nothing kind none) = shows_nothing (f 0 (omega arith) ∙ kind) (f 5 (omega arith) ∙ none)
case_stays made_stays r j starts f same (shows_edge {d} kind start one) =
    shows_edge {d = d} (f 0 (omega arith) ∙ kind) (f 4 (omega arith) ∙ start) (f 5 (omega arith) ∙ one)
case_stays made_stays r j starts f same (shows_others {d} kind start) =
    shows_others {d = d} (f 0 (omega arith) ∙ kind) (f 4 (omega arith) ∙ start ∙ sym (starts r))

-- ---- From w to w' only the spare slot's bundles and length change; it starts at bundle o.
pub record SpareOnly (o : ℕ) (w w' : List ℕ) : Type 0 where
  pub words : length w' ≡ length w
  pub others : (k : Section) → (number k ≡ number sections.set_lengths → ⊥) → (number k ≡ number sections.bundles → ⊥)
      → section w' k ≡ section w k
  pub lengths : (q : ℕ) → (q ≡ spare_slot → ⊥) → word w' set_lengths q ≡ word w set_lengths q
  pub before : (x : ℕ) → x < bundle_row_at o → word w' bundles x ≡ word w bundles x
  pub behind : (x : ℕ) → bundle_row_at o + slot_words ≤ x → word w' bundles x ≡ word w bundles x

module _ (o : ℕ) (w : List ℕ) where
  pub spare_same : SpareOnly o w w
  spare_same = record { words = refl; others = λ k a b. refl; lengths = λ q d. refl; before = λ x h. refl; behind = λ x h. refl }

  pub spare_word : (i x : ℕ) → bundle_row_at o ≤ i → i < bundle_row_at o + slot_words → SpareOnly o w (stored w bundles i x)
  spare_word i x a b =
      record {
        words = stored_length (start bundles) (size bundles) w i x;
        others = λ k c d. section_other w bundles i x k d;
        lengths = λ q d. ap (λ z. get_or z q 0) (section_other w bundles i x set_lengths (omega arith));
        before = λ q h. word_apart w bundles i x bundles q (omega arith);
        behind = λ q h. word_apart w bundles i x bundles q (omega arith);
      }

  pub spare_length : (x : ℕ) → SpareOnly o w (stored w set_lengths spare_slot x)
  spare_length x =
      record {
        words = stored_length (start set_lengths) (size set_lengths) w spare_slot x;
        others = λ k c d. section_other w set_lengths spare_slot x k c;
        lengths = λ q d. word_apart w set_lengths spare_slot x set_lengths q d;
        before = λ q h. ap (λ z. get_or z q 0) (section_other w set_lengths spare_slot x bundles (omega arith));
        behind = λ q h. ap (λ z. get_or z q 0) (section_other w set_lengths spare_slot x bundles (omega arith));
      }

pub spare_then : {o : ℕ} {w w₁ w₂ : List ℕ} → SpareOnly o w w₁ → SpareOnly o w₁ w₂ → SpareOnly o w w₂
spare_then a b =
    record {
      words = b.words ∙ a.words;
      others = λ k c d. b.others k c d ∙ a.others k c d;
      lengths = λ q d. b.lengths q d ∙ a.lengths q d;
      before = λ x h. b.before x h ∙ a.before x h;
      behind = λ x h. b.behind x h ∙ a.behind x h;
    }

pub spare_three : (o : ℕ) (w : List ℕ) (i a b c : ℕ) → bundle_row_at o ≤ i → i + 2 < bundle_row_at o + slot_words
    → SpareOnly o w (stored_all w bundles i (a ∷ b ∷ c ∷ []))
unfolding stored_all_at
spare_three o w i a b c h k =
    let w₁ = stored w bundles i a in
    let w₂ = stored w₁ bundles (suc i) b in
    spare_then (spare_word o w i a h (omega arith)) (spare_then (spare_word o w₁ (suc i) b (omega arith) (omega arith))
    (spare_word o w₂ (suc (suc i)) c (omega arith) (omega arith)))

-- ---- What stays shown.
module _ {o : ℕ} {w w' : List ℕ} (y : SpareOnly o w w') where
  pub spare_there : (k : Section) → (number k ≡ number sections.set_lengths → ⊥) → (number k ≡ number sections.bundles → ⊥) → (i : ℕ)
      → word w' k i ≡ word w k i
  spare_there k a b i = ap (λ z. get_or z i 0) (y.others k a b)

  pub spare_total : case_total w' ≡ case_total w
  unfolding case_total
  spare_total = rw (spare_there head (omega arith) (omega arith) 7)

  pub spare_tables : SameTables w w'
  spare_tables =
      record {
        words = y.words;
        same_rewrites = y.others rewrites (omega arith) (omega arith);
        same_outputs = y.others outputs (omega arith) (omega arith);
        totals = λ q a b. spare_there head (omega arith) (omega arith) q;
      }

  pub spare_preserves : (g : Graph) → PreservesMade g w w'
  spare_preserves g =
      record {
        front = record { words = y.words; front_words = y.others front (omega arith) (omega arith) };
        conditions_stay = condition_same (y.others conditions (omega arith) (omega arith)) (y.others cells (omega arith) (omega arith))
            (spare_there head (omega arith) (omega arith) 4) (spare_there head (omega arith) (omega arith) 2);
        nodes_stay = λ n. record {
          nodes = rw (y.others cells (omega arith) (omega arith)) n.nodes;
          made = rw (spare_there head (omega arith) (omega arith) 4) n.made;
        };
      }

  pub spare_outside : (q : ℕ) → ((i : ℕ) → i < slot_size → q ≡ o + i → ⊥) → SameBundle w w' q
  spare_outside q d =
      elim (dec_lt q o) [
        | yes h ↦ record { words = λ i b. y.before (bundle_word_at q i) (omega arith) }
        | no h ↦ elim (dec_lt q (o + slot_size)) [
          | yes b ↦ absurd (d (q - o) (omega arith) (omega arith))
          | no b ↦ record { words = λ i c. y.behind (bundle_word_at q i) (omega arith) }
        ]
      ]

  module _ (g : Graph) (slots : Slots (length g.regions) w) (spare : word w set_starts spare_slot ≡ o) where
    pub spare_keeps : length g.regions ≤ 32 → (q : ℕ) → q < length g.regions → KeptRegion w w' q
    spare_keeps few q h =
        let a = slots.starts q (omega arith) in
        let b = slots.starts spare_slot (omega arith) in
        let apart : slots.slot_number q ≡ slots.slot_number spare_slot → ⊥ =
        λ e. (let f = slots.own q spare_slot (omega arith) (omega arith) e in omega arith) in
        record {
          set_start = spare_there set_starts (omega arith) (omega arith) q;
          set_length = y.lengths q (omega arith);
          handle = spare_there children (omega arith) (omega arith) q;
          body = spare_there bodies (omega arith) (omega arith) q;
          backedge = spare_there backedges (omega arith) (omega arith) q;
          target_answers = λ j d. spare_there levels (omega arith) (omega arith) (level_at q j);
          slot = λ i d. spare_outside (word w set_starts q + i) (λ k c e. apart (omega arith));
        }

    pub spare_state : Valid g → {s : NestState} → ShowsState g w s → ShowsState g w' s
    spare_state valid x =
        record {
          stands = stands_on (spare_preserves g).front x.stands;
          tables = tables_stay spare_tables x.tables;
          named = named_by (y.others rewrites (omega arith) (omega arith)) x.named;
          size = x.size;
          regions = λ q h. region_stays (spare_preserves g) (spare_keeps valid.count.1 q h)
              (spare_there kinds (omega arith) (omega arith) q) (x.regions q h);
          slots = slots_stay (λ a h. spare_there set_starts (omega arith) (omega arith) a) slots;
          returned = record {
            size = spare_there head (omega arith) (omega arith) 8 ∙ x.returned.size;
            types = λ k h. spare_there head (omega arith) (omega arith) (9 + k) ∙ x.returned.types k h;
          };
        }

    pub spare_cases : {r : ℕ} {cs : List MaybeClaimedRegion} → ShowsCases g w r cs → ShowsCases g w' r cs
    spare_cases {r} x =
        let f : (i : ℕ) → word w' cases i ≡ word w cases i = spare_there cases (omega arith) (omega arith) in
        record {
          size = spare_total ∙ x.size;
          few = x.few;
          each = λ j h. case_stays (spare_preserves g) r j (spare_there set_starts (omega arith) (omega arith)) (λ i b. f
              (case_word_at j i))
              (λ k b. f (case_input_at j k)) (x.each j h);
          sets = λ j h. rw (f (case_set_start_at j), f (case_set_length_at j)) (set_stays (spare_preserves g) (λ i b.
              spare_outside (case_set_start w j + i) (λ k c e. x.not_spare j i k h b c (e ∙ ap (λ z. z + k) (sym spare))))
              (x.sets j h));
          apart = λ i j p q a b. rw (f (case_set_length_at i), f (case_set_length_at j), f (case_set_start_at i), f (case_set_start_at j))
              (x.apart i j p q a b);
          not_spare = λ j p q a. rw
              (f (case_set_length_at j), f (case_set_start_at j), spare_there set_starts (omega arith) (omega arith) spare_slot)
              (x.not_spare j p q a);
        }
