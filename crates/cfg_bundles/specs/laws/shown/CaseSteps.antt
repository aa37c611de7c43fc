-- A case stored: what it shows, that the other cases stay, and that sets of different cases lie apart.
use Rattle.std.specs.Prelude.{◌≡◌, refl, List, [], ◌++◌, ℕ, suc, ◌+◌, ◌≤◌, ◌<◌, length, get_or}
use Rattle.std.proofs.Common.{sym, ap, ◌∙◌, arith, lt-ltb}
use Rattle.meaning.specs.Graph.{Graph, undef}
use Rattle.nesting.specs.Nesting.{DeferredEdgeBundleSet, ClaimedRegion, MaybeClaimedRegion, ok, err, deferred_of}
use Rattle.state_regions.specs.declared.cases.CaseKind.TheVariants.{NothingDeferred, OwnEdge, Others}
use Rattle.state_words.specs.Sections.{used, word, stored_all, head, set_starts, set_lengths, levels, cases}
use Rattle.state_sets.specs.SetTables.{own_edge}
use Rattle.state_regions.specs.RegionTables.{target_answer, case_words}
use Rattle.state_shown.specs.Sets.{Names, ShowsSet, SameBundle}
use Rattle.state_shown.specs.States.{Slots, ShowsClaimed, ShowsCase, shows_ok, shows_nothing, shows_edge, shows_others, HasSlot}
use Rattle.state_shown.specs.Kept.{KeptRegion}
use Rattle.state_shown.specs.laws.RegionsKept.{set_stays, same_bundle_then}
use Rattle.state_shown.specs.laws.SetStores.{OnlySets, only_run, only_then, only_preserves, only_kept, only_word_same}
use Rattle.state_shown.specs.laws.SetStores.{cases_of_sets, run_word, run_beside}
use Rattle.state_shown.specs.laws.SetStores.{run_elsewhere_word, same_elsewhere_run}
use Rattle.cfg_bundles.specs.EdgesAndCases.{claimed_case, unclaimed_case, edge_deferred}
use Rattle.cfg_bundles.specs.laws.shown.Deferred.{edge_deferred_only, edge_deferred_beside, edge_deferred_word}
use Rattle.state_words.specs.Rows.{case_claimed, case_kind, case_origin, case_others, case_row_at, slot_size}
use Rattle.state_words.specs.Rows.{case_row_size, case_body_field, case_children_field, case_kind_field, case_origin_field}
use Rattle.state_words.specs.Rows.{case_set_length, case_set_start, case_word, case_word_at, cases_at, level_at, own_edges_from, spare_slot}
use Rattle.state_words.specs.Rows.{case_set_length_field, case_set_start_field}

-- ---- Stores of case j: into its row, and into the bundle of its own edge.
pub record OneCase (w w' : List ℕ) (j : ℕ) : Type 0 where
  pub only : OnlySets w w'
  pub total : word w' head cases_at ≡ word w head cases_at
  pub starts : (q : ℕ) → word w' set_starts q ≡ word w set_starts q
  pub lengths : (q : ℕ) → word w' set_lengths q ≡ word w set_lengths q
  pub rows : (i : ℕ) → (case_row_at j ≤ i → i < case_row_at j + case_row_size → ⊥) → word w' cases i ≡ word w cases i
  pub beside : (p : ℕ) → (p ≡ own_edges_from + j → ⊥) → SameBundle w w' p

pub one_then : {w w₁ w₂ : List ℕ} {j : ℕ} → OneCase w w₁ j → OneCase w₁ w₂ j → OneCase w w₂ j
one_then a b =
    record {
      only = only_then a.only b.only;
      total = b.total ∙ a.total;
      starts = λ q. b.starts q ∙ a.starts q;
      lengths = λ q. b.lengths q ∙ a.lengths q;
      rows = λ i d. b.rows i d ∙ a.rows i d;
      beside = λ p d. same_bundle_then (a.beside p d) (b.beside p d);
    }

pub one_row : (w : List ℕ) (j : ℕ) (xs : List ℕ) → length xs ≤ 10 → OneCase w (stored_all w cases (case_row_at j) xs) j
one_row w j xs few =
    record {
      only = only_run w cases_of_sets (case_row_at j) xs;
      total = run_elsewhere_word w cases (case_row_at j) xs head (omega arith) cases_at;
      starts = λ q. run_elsewhere_word w cases (case_row_at j) xs set_starts (omega arith) q;
      lengths = λ q. run_elsewhere_word w cases (case_row_at j) xs set_lengths (omega arith) q;
      rows = λ i d. run_beside w cases (case_row_at j) xs i (λ a b. d a (omega arith));
      beside = λ p d. same_elsewhere_run w cases (omega arith) (case_row_at j) xs p;
    }

pub own_in : (j : ℕ) → j < 8 → own_edge j ≡ own_edges_from + j
unfolding own_edge
own_in j h = rw (lt-ltb j 8 h)

pub one_edge : (g : Graph) (w : List ℕ) (r j : ℕ) → j < 8 → OneCase w (edge_deferred g w (own_edge j) r j) j
one_edge g w r j h =
    let at = own_in j h in
    record {
      only = edge_deferred_only g w (own_edge j) r j;
      total = edge_deferred_word g w (own_edge j) r j head (omega arith) cases_at;
      starts = edge_deferred_word g w (own_edge j) r j set_starts (omega arith);
      lengths = edge_deferred_word g w (own_edge j) r j set_lengths (omega arith);
      rows = λ i d. edge_deferred_word g w (own_edge j) r j cases (omega arith) i;
      beside = λ p d. edge_deferred_beside g w (own_edge j) r j p (λ e. d (e ∙ at));
    }

-- The bundles of slots lie before those of own edges.
pub in_slots : {n : ℕ} {w : List ℕ} → Slots n w → (q i : ℕ) → HasSlot n q → i < slot_size → word w set_starts q + i < own_edges_from
in_slots slots q i h j = let a = slots.starts q h in let b = slots.below q h in omega arith

pub one_kept : {n : ℕ} {w w' : List ℕ} {j : ℕ} → OneCase w w' j → Slots n w → (q : ℕ) → HasSlot n q → KeptRegion w w' q
one_kept one slots q h =
    only_kept one.only q (one.starts q) (one.lengths q) (λ i k. one.beside _ (let z = in_slots slots q i h k in omega arith))

pub target_answer_same : {w w' : List ℕ} → OnlySets w w' → (r j : ℕ) → target_answer w' r j ≡ target_answer w r j
unfolding target_answer
target_answer_same only r j = rw (only_word_same only levels (omega arith) (level_at r j))

-- ---- Where the set of a case lies: in the slot of a region, or in the bundle of its own edge, or nowhere.
pub data Owner (w : List ℕ) (r j a : ℕ) : Type 0 where
  of_claimed : case_kind w j ≡ case_claimed → case_origin w j ≡ a → Owner w r j a
  of_others : case_kind w j ≡ case_others → r ≡ a → Owner w r j a

pub data CasePlaced (n : ℕ) (w : List ℕ) (r j : ℕ) : Type 0 where
  in_slot : (o : ℕ) → o < n → o < 32 → Owner w r j o → case_set_start w j ≡ word w set_starts o → CasePlaced n w r j
  in_own : case_set_start w j ≡ own_edges_from + j → case_set_length w j ≡ 1 → CasePlaced n w r j
  nowhere : case_set_length w j ≡ 0 → CasePlaced n w r j

pub case_placed : {g : Graph} {w : List ℕ} {r j : ℕ} {c : MaybeClaimedRegion} → length g.regions ≤ 32 → r < length g.regions
    → ShowsCase g w r j c → CasePlaced (length g.regions) w r j
case_placed few here (shows_ok {c} a b in_graph d e f h k l) = in_slot c.origin in_graph (omega arith) (of_claimed a b) h
case_placed few here (shows_nothing a b) = nowhere b
case_placed few here (shows_edge a b d) = in_own b d
case_placed {r} few here (shows_others a b) = in_slot r here (omega arith) (of_others a refl) b

pub placed_apart : {m : ℕ} {w : List ℕ} → Slots m w → {r i j : ℕ} → i < 8 → j < 8 → (i ≡ j → ⊥)
    → ((a b : ℕ) → Owner w r i a → Owner w r j b → a ≡ b → ⊥) → CasePlaced m w r i → CasePlaced m w r j
    → case_set_length w i ≤ slot_size → case_set_length w j ≤ slot_size → (p q : ℕ) → p < case_set_length w i
    → q < case_set_length w j → case_set_start w i + p ≡ case_set_start w j + q → ⊥
placed_apart slots i8 j8 d owners (in_slot a l h o e) (in_slot b v k u f) m n p q x y z =
    let s = slots.starts a (omega arith) in
    let t = slots.starts b (omega arith) in
    let same : slots.slot_number a ≡ slots.slot_number b = omega arith in
    owners a b o u (slots.own a b (omega arith) (omega arith) same)
placed_apart slots i8 j8 d owners (in_slot a l h o e) (in_own f k) m n p q x y z =
    let s = in_slots slots a p (omega arith) (omega arith) in omega arith
placed_apart slots i8 j8 d owners (in_slot a l h o e) (nowhere f) m n p q x y z = omega arith
placed_apart slots i8 j8 d owners (in_own e h) (in_slot b v k u f) m n p q x y z =
    let s = in_slots slots b q (omega arith) (omega arith) in omega arith
placed_apart slots i8 j8 d owners (in_own e h) (in_own f k) m n p q x y z = d (omega arith)
placed_apart slots i8 j8 d owners (in_own e h) (nowhere f) m n p q x y z = omega arith
placed_apart slots i8 j8 d owners (nowhere e) y m n p q x u z = omega arith

pub placed_not_spare : {m : ℕ} {w : List ℕ} → Slots m w → {r j : ℕ} → CasePlaced m w r j → case_set_length w j ≤ slot_size → (p q : ℕ)
    → p < case_set_length w j → q < slot_size → case_set_start w j + p ≡ word w set_starts spare_slot + q → ⊥
placed_not_spare slots (in_slot a l h o e) n p q x y z =
    let s = slots.starts a (omega arith) in
    let t = slots.starts spare_slot (omega arith) in
    let same : slots.slot_number a ≡ slots.slot_number spare_slot = omega arith in
    let is = slots.own a spare_slot (omega arith) (omega arith) same in omega arith
placed_not_spare slots (in_own e h) n p q x y z = let s = in_slots slots spare_slot q (omega arith) y in omega arith
placed_not_spare slots (nowhere e) n p q x y z = omega arith

-- ---- A case with its set.
pub record CaseAndSet (g : Graph) (w : List ℕ) (r j : ℕ) (c : MaybeClaimedRegion) : Type 0 where
  pub case : ShowsCase g w r j c
  pub set : ShowsSet g w (case_set_start w j) (case_set_length w j) (deferred_of c)

pub other_row : {w w' : List ℕ} {j : ℕ} → OneCase w w' j → (q : ℕ) → (q ≡ j → ⊥) → (k : ℕ) → k < 10
    → case_word w' q k ≡ case_word w q k
other_row {j} one q d k h = one.rows (case_word_at q k) (λ a b. let e : q ≡ j = omega arith in d e)

module _ {g : Graph} {w w' : List ℕ} {j : ℕ} (one : OneCase w w' j) {r q : ℕ} (d : q ≡ j → ⊥) where
  pub case_stays : {c : MaybeClaimedRegion} → ShowsCase g w r q c → ShowsCase g w' r q c
  case_stays (shows_ok {c} a b in_graph e f nodes start size inputs) =
      shows_ok {c = c} (other_row one q d case_kind_field (omega arith) ∙ a)
      (other_row one q d case_origin_field (omega arith) ∙ b) in_graph
      (other_row one q d case_body_field (omega arith) ∙ e) f
      (rw (other_row one q d case_children_field (omega arith)) ((only_preserves one.only g).nodes_stay nodes))
      (other_row one q d case_set_start_field (omega arith) ∙ start ∙ sym (one.starts c.origin)) size
      (λ k h. rw (other_row one q d (6 + k) (omega arith)) (inputs k h))
  case_stays (shows_nothing a b) = shows_nothing (other_row one q d case_kind_field (omega arith) ∙ a)
      (other_row one q d case_set_length_field (omega arith) ∙ b)
  case_stays (shows_edge a b e) = shows_edge (other_row one q d case_kind_field (omega arith) ∙ a)
      (other_row one q d case_set_start_field (omega arith) ∙ b)
      (other_row one q d case_set_length_field (omega arith) ∙ e)
  case_stays (shows_others a b) =
      shows_others (other_row one q d case_kind_field (omega arith) ∙ a)
      (other_row one q d case_set_start_field (omega arith) ∙ b ∙ sym (one.starts r))

  pub shown_stays : Slots (length g.regions) w → length g.regions ≤ 32 → r < length g.regions → {c : MaybeClaimedRegion}
      → CaseAndSet g w r q c → CaseAndSet g w' r q c
  shown_stays slots few here {c} x =
      record {
        case = case_stays x.case;
        set = rw (other_row one q d case_set_start_field (omega arith), other_row one q d case_set_length_field (omega arith))
            (set_stays (only_preserves one.only g) (λ i h. one.beside _ (apart (case_placed few here x.case) i h)) x.set);
      }
    where
      apart : CasePlaced (length g.regions) w r q → (i : ℕ) → i < case_set_length w q
          → case_set_start w q + i ≡ own_edges_from + j → ⊥
      apart (in_slot a l h o e) i k z =
          let few_bundles = x.set.few in let s = in_slots slots a i (omega arith) (omega arith) in omega arith
      apart (in_own e f) i k z = let y : q ≡ j = omega arith in d y
      apart (nowhere e) i k z = omega arith

-- ---- Rows by kind.
pub row_word : (w : List ℕ) → used ≤ length w → (j : ℕ) → j < 8 → (xs : List ℕ) → length xs ≤ 10 → (k : ℕ) → k < length xs
    → case_word (stored_all w cases (case_row_at j) xs) j k ≡ get_or xs k 0
row_word w room j below xs few k h = run_word w cases (case_row_at j) xs (omega arith) (omega arith) k h

module _ {g : Graph} (w : List ℕ) (room : used ≤ length w) {r j : ℕ} (below : j < 8) where
  -- A claimed region with its inputs.
  pub claimed_row : {c : ClaimedRegion} (ws : List ℕ) → length ws ≡ 4 → ShowsClaimed g w c
      → ((k : ℕ) → k < 4 → Names (get_or ws k 0) (get_or c.structured_body_inputs k (undef 0)))
      → CaseAndSet g (stored_all w cases (case_row_at j) (case_words (claimed_case w c.origin) ++ ws)) r j (ok c)
  claimed_row {c} ws four x names =
      let o = c.origin in
      let xs = case_words (claimed_case w o) ++ ws in
      let ten : length xs ≡ case_row_size = ap (λ n. suc (suc (suc (suc (suc (suc n)))))) four in
      let one = one_row w j xs (omega arith) in
      let made_stays = only_preserves one.only g in
      let at : (k : ℕ) → k < 10 → case_word (stored_all w cases (case_row_at j) xs) j k ≡ get_or xs k 0 =
      λ k h. row_word w room j below xs (omega arith) k (omega arith) in
      record {
        case = shows_ok {c = c} (at case_kind_field (omega arith)) (at case_origin_field (omega arith)) x.in_graph
            (at case_body_field (omega arith) ∙ x.body) x.body_below
            (rw (at case_children_field (omega arith)) (made_stays.nodes_stay x.nodes))
            (at case_set_start_field (omega arith) ∙ sym (one.starts o)) x.size
            (λ k h. let e : 6 + k ≡ suc (suc (suc (suc (suc (suc k))))) = omega arith in rw (at (6 + k) (omega arith), e) (names k h));
        set = rw (at case_set_start_field (omega arith), at case_set_length_field (omega arith))
            (set_stays made_stays (λ i h. same_elsewhere_run w cases (omega arith) (case_row_at j) xs _) x.set);
      }

  -- Nothing is deferred.
  pub nothing_row : CaseAndSet g (stored_all w cases (case_row_at j) (case_words (unclaimed_case NothingDeferred 0 0))) r j (err [])
  nothing_row =
      let xs = case_words (unclaimed_case NothingDeferred 0 0) in
      let at : (k : ℕ) → k < 6 → case_word (stored_all w cases (case_row_at j) xs) j k ≡ get_or xs k 0 =
      λ k h. row_word w room j below xs (omega arith) k h in
      record {
        case = shows_nothing (at case_kind_field (omega arith)) (at case_set_length_field (omega arith));
        set = rw (at case_set_start_field (omega arith), at case_set_length_field (omega arith))
            record {
              size = refl;
              few = omega arith;
              room = omega arith;
              each = λ i h. absurd (omega arith);
              apart = λ i k a b. absurd (omega arith);
            };
      }

  -- The edge of its own.
  pub edge_row : {d : DeferredEdgeBundleSet} → ShowsSet g w (own_edges_from + j) 1 d
      → CaseAndSet g (stored_all w cases (case_row_at j) (case_words (unclaimed_case OwnEdge (own_edge j) 1))) r j (err d)
  edge_row x =
      let xs = case_words (unclaimed_case OwnEdge (own_edge j) 1) in
      let own = own_in j below in
      let at : (k : ℕ) → k < 6 → case_word (stored_all w cases (case_row_at j) xs) j k ≡ get_or xs k 0 =
      λ k h. row_word w room j below xs (omega arith) k h in
      record {
        case = shows_edge (at case_kind_field (omega arith)) (at case_set_start_field (omega arith) ∙ own)
            (at case_set_length_field (omega arith));
        set = rw (at case_set_start_field (omega arith) ∙ own, at case_set_length_field (omega arith))
            (set_stays (only_preserves (only_run w cases_of_sets (case_row_at j) xs) g)
            (λ i h. same_elsewhere_run w cases (omega arith) (case_row_at j) xs _) x);
      }

  -- What is left of region r's set.
  pub others_row : {d : DeferredEdgeBundleSet} {n : ℕ} → ShowsSet g w (word w set_starts r) n d
      → CaseAndSet g (stored_all w cases (case_row_at j) (case_words (unclaimed_case Others (word w set_starts r) n))) r j (err d)
  others_row {n} x =
      let xs = case_words (unclaimed_case Others (word w set_starts r) n) in
      let at : (k : ℕ) → k < 6 → case_word (stored_all w cases (case_row_at j) xs) j k ≡ get_or xs k 0 =
      λ k h. row_word w room j below xs (omega arith) k h in
      record {
        case = shows_others (at case_kind_field (omega arith))
            (at case_set_start_field (omega arith) ∙ sym (run_elsewhere_word w cases (case_row_at j) xs set_starts (omega arith) r));
        set = rw (at case_set_start_field (omega arith), at case_set_length_field (omega arith))
            (set_stays (only_preserves (only_run w cases_of_sets (case_row_at j) xs) g)
            (λ i h. same_elsewhere_run w cases (omega arith) (case_row_at j) xs _) x);
      }
