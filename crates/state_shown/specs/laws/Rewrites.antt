-- An entry of the rewrites: the first of a region stays, and no other region's changes.
use Rattle.std.specs.Prelude.{◌≡◌, refl, ◌⊎◌, Bool, true, false, ℕ, suc, ◌+◌, ◌-◌, ◌≤◌, ◌<◌, length, eqb, ltb}
use Rattle.std.proofs.Common.{ap, ◌∙◌, inl, inr, add-one}
use mathlib.Core.List.Memᴰ
use mathlib.Core.List.{List, [], ◌∷◌, ◌++◌, map, Memᴰ, map-append}
use Rattle.std.proofs.Math.Option.{Option, none, some}
use native.Mathlib.Omega.{arith}
use Rattle.std.proofs.Math.Decide.{dec_lt, ℕ_discrete}
use Rattle.std.proofs.Math.ListN.{get_or}
use Rattle.std.proofs.lemmas.List.Edits.{sets}
use borrow.Author.Tests.{eq-eqb, ne_eqb, lt-ltb, le-ltb}
use Rattle.meaning.specs.facts.Tests.{clash, in_or_out}
use Rattle.nesting.specs.Nesting.{RegionInputRewrites, replace_with, renumber_or_replace_with, RewriteEntry, NestState, rewrites_of}
use Rattle.nesting.specs.Nesting.{with_tables, most_regions}
use Rattle.nesting.proofs.lookups.ChainEnds.{entry_kept}
use Rattle.state_words.specs.Sections.{section, word, stored, stored_all, rewrites, outputs, start, size, used}
use Rattle.state_words.specs.laws.Apart.{section_stored}
use Rattle.state_nodes.specs.NodeTables.{entry_kind, rewrite_kind, entries, cleared, reached, inserted}
use Rattle.state_shown.specs.Values.{value}
use Rattle.state_shown.specs.laws.Stores.{section_run, part_length, ChangesOnly, run_changes, word_changes, changes_then}
use Rattle.state_shown.specs.laws.Stores.{nothing_changes}
use Rattle.state_shown.specs.laws.Stores.{word_there, word_apart}
use Rattle.state_shown.specs.laws.Fills.{fill_length, fill_changes, fill_beside, fill_there}
use Rattle.meaning.specs.facts.Parts.{run_before, run_behind, run_in}
use Rattle.state_shown.specs.Tables.{ShowsEntry, no_entry, replaces, renumbers, EntryWords, replace_words, renumber_words}
use Rattle.state_shown.specs.Tables.{ShowsRewrites}
use Rattle.state_shown.specs.Tables.{ShowsTables}
use Rattle.meaning.specs.Lists.{pick}
use Rattle.state_words.specs.Rows.{attempts_at, entries_at, entry_none, merges_at, no_total, nodes_at, outputs_at, regions_at}
use Rattle.state_words.specs.Rows.{rewrite_kind_at}
use Rattle.state_words.specs.Rows.{rewrite_row_size, rewrite_value, rewrite_value_at, rewrite_values_at, twice_at}

-- ---- The log with an entry more.
of_other : (es : List RewriteEntry) (e : RewriteEntry) (q : ℕ) → eqb q e.region ≡ false
    → rewrites_of (es ++ (e ∷ [])) q ≡ rewrites_of es q
of_other [] e q h = rw h
of_other (y ∷ es) e q h = ap (λ o. pick (eqb q y.region) (some y.rewrites) o) (of_other es e q h)

of_new : (es : List RewriteEntry) (e : RewriteEntry) (q : ℕ) → eqb q e.region ≡ true → rewrites_of es q ≡ none
    → rewrites_of (es ++ (e ∷ [])) q ≡ some e.rewrites
of_new [] e q h n = rw h
of_new (y ∷ es) e q h n = go (eqb q y.region) n (λ m. of_new es e q h m)
  where
    go : (b : Bool) → pick b (some y.rewrites) (rewrites_of es q) ≡ none
        → (rewrites_of es q ≡ none → rewrites_of (es ++ (e ∷ [])) q ≡ some e.rewrites)
        → pick b (some y.rewrites) (rewrites_of (es ++ (e ∷ [])) q) ≡ some e.rewrites
    go true n ih = absurd (clash (cc))
    go false n ih = ih n

-- What the words of a region say of its entry.
none_if : {l : List ℕ} {r : ℕ} {o : Option RegionInputRewrites} → ShowsEntry l r o → entry_kind l r ≡ entry_none → o ≡ none
none_if (no_entry e) h = refl
none_if (replaces e f) h = absurd (omega arith)
none_if (renumbers e f) h = absurd (omega arith)

some_if : {l : List ℕ} {r : ℕ} {o : Option RegionInputRewrites} → ShowsEntry l r o → (entry_kind l r ≡ entry_none → ⊥)
    → (x : RegionInputRewrites) × (o ≡ some x)
some_if (no_entry e) h = absurd (h e)
some_if (replaces {vs} e f) h = (replace_with vs, refl)
some_if (renumbers {xs} e f) h = (renumber_or_replace_with xs, refl)

entry_same : (l l' : List ℕ) (r : ℕ) → entry_kind l' r ≡ entry_kind l r
    → ((k : ℕ) → k < 4 → get_or l' (rewrite_value_at r k) 0 ≡ get_or l (rewrite_value_at r k) 0) → {o : Option RegionInputRewrites}
    → ShowsEntry l r o → ShowsEntry l' r o
entry_same l l' r s t (no_entry e) = no_entry (s ∙ e)
entry_same l l' r s t (replaces e f) = replaces (s ∙ e) (λ k h. ap value (t k h) ∙ f k h)
entry_same l l' r s t (renumbers {xs} e f) = renumbers {xs = xs} (s ∙ e) (λ k h. rw (t k h) (f k h))

-- ---- Region r's entry is set, and no other changes.
pub record Enters (l l' : List ℕ) (r kind : ℕ) (ws : List ℕ) : Type 0 where
  pub kind_set : entry_kind l' r ≡ kind
  pub words_set : (k : ℕ) → k < 4 → get_or l' (rewrite_value_at r k) 0 ≡ get_or ws k 0
  pub other_kinds : (q : ℕ) → q < most_regions → (q ≡ r → ⊥) → entry_kind l' q ≡ entry_kind l q
  pub other_words : (q k : ℕ) → q < most_regions → (q ≡ r → ⊥) → k < 4 → get_or l' (rewrite_value_at q k) 0 ≡ get_or l (rewrite_value_at q k) 0

-- Up to it entries are set: those that were not, to none.
module _ (w : List ℕ) (r : ℕ) where
  abbrev between : List ℕ
  between = cleared (r - entries w) (entries w) w

  abbrev newly : List ℕ
  newly = stored between rewrites entries_at (r + 1)

  by_reach : (P : List ℕ → Type 0) → (r < entries w → P w) → (entries w ≤ r → P newly) → P (reached w r)
  unfolding reached
  by_reach P there new = go (in_or_out r (entries w))
    where
      go : (r < entries w) ⊎ (entries w ≤ r) → P (reached w r)
      go (inl a) = rw (lt-ltb r (entries w) a) (there a)
      go (inr a) = rw (le-ltb r (entries w) a) (new a)

  reached_changes : (i : ℕ) → ChangesOnly rewrites i w (reached w r)
  reached_changes i =
      by_reach (λ z. ChangesOnly rewrites i w z) (λ a. nothing_changes rewrites i w)
      (λ a. changes_then (fill_changes rewrites (λ q. rewrite_kind_at q) (λ q. 0) (omega arith) i (r - entries w) (entries w) w)
      (word_changes rewrites i between (omega arith) entries_at (r + 1)))

  module _ (room : used ≤ length w) where
    newly_many : entries newly ≡ r + 1
    newly_many =
        let e = fill_length rewrites (λ q. rewrite_kind_at q) (λ q. 0) (r - entries w) (entries w) w in
        word_there between rewrites entries_at (r + 1) (omega arith) (omega arith)

    newly_word : (i : ℕ) → i < entries_at → ((q : ℕ) → entries w ≤ q → i ≡ rewrite_kind_at q → ⊥)
        → word newly rewrites i ≡ word w rewrites i
    newly_word i h d =
        word_apart between rewrites entries_at (r + 1) rewrites i (omega arith)
        ∙ fill_beside rewrites (λ q. rewrite_kind_at q) (λ q. 0) (r - entries w) (entries w) w i d

    newly_none : (q : ℕ) → q < most_regions → entries w ≤ q → q < r → word newly rewrites (rewrite_kind_at q) ≡ entry_none
    newly_none q h a b =
        word_apart between rewrites entries_at (r + 1) rewrites (rewrite_kind_at q) (omega arith)
        ∙ fill_there rewrites (λ q. rewrite_kind_at q) (λ q. 0) (λ a b c e. omega arith) (r - entries w) (entries w) w (omega arith) q a
        (omega arith)
        (omega arith)

    newly_kind : entries w ≤ r → (q : ℕ) → q < most_regions → (q ≡ r → ⊥) → rewrite_kind newly q ≡ rewrite_kind w q
    unfolding entry_kind
    newly_kind many q h d = go (in_or_out q (entries w)) (in_or_out q r)
      where
        go : (q < entries w) ⊎ (entries w ≤ q) → (q < r) ⊎ (r ≤ q) → rewrite_kind newly q ≡ rewrite_kind w q
        go (inl a) b =
            rw (newly_many, lt-ltb q (r + 1) (omega arith), lt-ltb q (entries w) a)
            (newly_word (rewrite_kind_at q) (omega arith) (λ m c e. omega arith))
        go (inr a) (inl b) =
            rw (newly_many, lt-ltb q (r + 1) (omega arith), le-ltb q (entries w) a) (newly_none q h a b)
        go (inr a) (inr b) = rw (newly_many, le-ltb q (r + 1) (omega arith), le-ltb q (entries w) a)

    reached_many : r < entries (reached w r)
    reached_many = by_reach (λ z. r < entries z) (λ a. a) (λ a. let e = newly_many in omega arith)

    reached_kind : (q : ℕ) → q < most_regions → (q ≡ r → ⊥) → rewrite_kind (reached w r) q ≡ rewrite_kind w q
    reached_kind q h d = by_reach (λ z. rewrite_kind z q ≡ rewrite_kind w q) (λ a. refl) (λ a. newly_kind a q h d)

    reached_word : (q k : ℕ) → q < most_regions → k < 4 → rewrite_value (reached w r) q k ≡ rewrite_value w q k
    reached_word q k h i =
        by_reach (λ z. rewrite_value z q k ≡ rewrite_value w q k) (λ a. refl)
        (λ a. newly_word (rewrite_value_at q k) (omega arith) (λ m c e. omega arith))

-- Then the five words of its own.
module _ (l : List ℕ) (r kind : ℕ) (ws : List ℕ) (long : entries_at < length l) (len : length ws ≡ 4) (below : r < most_regions) where
  abbrev entered : List ℕ
  entered = sets l (rewrite_kind_at r) (kind ∷ ws)

  entered_many : get_or entered entries_at 0 ≡ get_or l entries_at 0
  entered_many = run_behind l (rewrite_kind_at r) (kind ∷ ws) entries_at (omega arith)

  entered_other : (q i : ℕ) → (q ≡ r → ⊥) → rewrite_kind_at q ≤ i → i < rewrite_kind_at q + rewrite_row_size → get_or entered i 0 ≡ get_or l i 0
  entered_other q i d a b =
      elim (dec_lt q r) [
        | yes h ↦ run_before l (rewrite_kind_at r) (kind ∷ ws) i (omega arith)
        | no h ↦
            run_behind l (rewrite_kind_at r) (kind ∷ ws) i (omega arith)
      ]

  entered_kind : r < get_or l entries_at 0 → entry_kind entered r ≡ kind
  unfolding entry_kind
  entered_kind h =
      let e : rewrite_kind_at r ≡ rewrite_kind_at r + 0 = omega arith in
      rw (entered_many, lt-ltb r (get_or l entries_at 0) h)
      (ap (λ i. get_or entered i 0) e ∙ run_in l (rewrite_kind_at r) (kind ∷ ws) 0 (omega arith) (omega arith))

  entered_kinds : (q : ℕ) → (q ≡ r → ⊥) → entry_kind entered q ≡ entry_kind l q
  unfolding entry_kind
  entered_kinds q d = rw (entered_many, entered_other q (rewrite_kind_at q) d (omega arith) (omega arith))

  entered_word : (k : ℕ) → k < 4 → get_or entered (rewrite_value_at r k) 0 ≡ get_or ws k 0
  entered_word k h =
      let e : rewrite_kind_at r + 1 + k ≡ rewrite_kind_at r + suc k = omega arith in
      ap (λ i. get_or entered i 0) e ∙ run_in l (rewrite_kind_at r) (kind ∷ ws) (suc k) (omega arith) (omega arith)

-- ---- An insertion: it enters, or changes nothing.
module _ (w : List ℕ) (room : used ≤ length w) (r kind : ℕ) (ws : List ℕ) (below : r < most_regions) (len : length ws ≡ 4) where
  abbrev first : List ℕ
  first = stored (reached w r) rewrites (rewrite_kind_at r) kind

  inserted_section : section (stored_all first rewrites (rewrite_values_at r) ws) rewrites ≡ sets (section (reached w r) rewrites)
      (rewrite_kind_at r) (kind ∷ ws)
  inserted_section = section_run first rewrites (rewrite_values_at r) ws
      ∙ rw (section_stored (reached w r) rewrites (rewrite_kind_at r) kind, add-one (rewrite_kind_at r))

  reached_long : entries_at < length (section (reached w r) rewrites)
  reached_long =
      let e = (reached_changes w r no_total).words in
      let f = part_length (start rewrites) (size rewrites) (reached w r) (omega arith) in omega arith

  inserted_enters : Enters (section w rewrites) (section (stored_all first rewrites (rewrite_values_at r) ws) rewrites) r kind ws
  inserted_enters =
      let l = section (reached w r) rewrites in
      rw inserted_section
      record {
        kind_set = entered_kind l r kind ws reached_long len below (reached_many w r room);
        words_set = entered_word l r kind ws reached_long len below;
        other_kinds = λ q h d. entered_kinds l r kind ws reached_long len below q d ∙ reached_kind w r room q h d;
        other_words = λ q k h d i.
            entered_other l r kind ws reached_long len below q (rewrite_value_at q k) d (omega arith) (omega arith)
            ∙ reached_word w r room q k h i;
      }

  pub by_insertion : (P : List ℕ → Type 0)
      → ((w' : List ℕ) → rewrite_kind w r ≡ entry_none → Enters (section w rewrites) (section w' rewrites) r kind ws → P w')
      → ((rewrite_kind w r ≡ entry_none → ⊥) → P w) → P (inserted w r kind ws)
  unfolding inserted
  by_insertion P enters stays =
      rw (lt-ltb r most_regions below) (elim (ℕ_discrete (rewrite_kind w r) entry_none) [
        | yes e ↦ rw (eq-eqb (rewrite_kind w r) entry_none e) (enters _ e inserted_enters)
        | no d ↦ rw (ne_eqb (rewrite_kind w r) entry_none d) (stays d)
      ])

-- ---- The entries after an insertion.
entry_new : {l l' : List ℕ} {r kind : ℕ} {ws : List ℕ} {x : RegionInputRewrites} → Enters l l' r kind ws → EntryWords r kind ws x
    → ShowsEntry l' r (some x)
entry_new s (replace_words e f) = replaces (s.kind_set ∙ e) (λ k h. ap value (s.words_set k h) ∙ f k h)
entry_new s (renumber_words {xs} e f) = renumbers {xs = xs} (s.kind_set ∙ e) (λ k h. rw (s.words_set k h) (f k h))

module _ (l : List ℕ) (es : List RewriteEntry) (shown : ShowsRewrites l es) (r kind : ℕ) (ws : List ℕ) (below : r < most_regions)
    (x : RegionInputRewrites) where
  abbrev new_entry : RewriteEntry
  new_entry = record { region = r; rewrites = x }

  logged_more : (q : ℕ) → Memᴰ q (map (λ e. e.region) (es ++ (new_entry ∷ []))) → q < most_regions
  logged_more q m = go (Memᴰ.append_cases (map (λ e. e.region) es)
      (rw (map-append (λ (e : RewriteEntry). e.region) es (new_entry ∷ [])) at m))
    where
      go : Memᴰ q (map (λ e. e.region) es) ⊎ Memᴰ q (r ∷ []) → q < most_regions
      go (inl i) = shown.logged q i
      go (inr i) = let e = Memᴰ.eq_of_singleton i in omega arith

  first_entry : (l' : List ℕ) → Enters l l' r kind ws → entry_kind l r ≡ entry_none → EntryWords r kind ws x
      → ShowsRewrites l' (es ++ (new_entry ∷ []))
  first_entry l' s free words =
      record {
        entry = λ q h. elim (ℕ_discrete q r) [
          | yes e ↦ rw (e, of_new es new_entry r (eq-eqb r r refl) (none_if (shown.entry r below) free)) (entry_new s words)
          | no d ↦ rw (of_other es new_entry q (ne_eqb q r d))
              (entry_same l l' q (s.other_kinds q h d) (λ k i. s.other_words q k h d i) (shown.entry q h))
        ];
        logged = logged_more;
      }

  later_entry : (entry_kind l r ≡ entry_none → ⊥) → ShowsRewrites l (es ++ (new_entry ∷ []))
  later_entry taken =
      record {
        entry = λ q h. elim (ℕ_discrete q r) [
          | yes e ↦ (let old = some_if (shown.entry r below) taken in
              rw (e, entry_kept es (new_entry ∷ []) r old.0 old.1, ← old.1) (shown.entry r below))
          | no d ↦ rw (of_other es new_entry q (ne_eqb q r d)) (shown.entry q h)
        ];
        logged = logged_more;
      }

pub insert_changes : (w : List ℕ) (r kind : ℕ) (ws : List ℕ) (i : ℕ) → ChangesOnly rewrites i w (inserted w r kind ws)
unfolding inserted
insert_changes w r kind ws i = go (ltb r most_regions) (eqb (rewrite_kind w r) entry_none)
  where
    after : List ℕ
    after = stored (reached w r) rewrites (rewrite_kind_at r) kind

    go : (a b : Bool) → ChangesOnly rewrites i w (pick a (pick b (stored_all after rewrites (rewrite_values_at r) ws) w) w)
    go false b = nothing_changes rewrites i w
    go true false = nothing_changes rewrites i w
    go true true =
        changes_then (reached_changes w r i)
        (changes_then (word_changes rewrites i (reached w r) (omega arith) (rewrite_kind_at r) kind)
        (run_changes rewrites i after (omega arith) (rewrite_values_at r) ws))

-- Code and definition enter the same.
pub rewrites_inserted : {w w' : List ℕ} {s : NestState} → ShowsTables w s → {r kind : ℕ} {ws : List ℕ} {x : RegionInputRewrites}
    → r < most_regions → length ws ≡ 4 → EntryWords r kind ws x
    → w' ≡ inserted w r kind ws
    → ShowsTables w' (with_tables s.region_states (s.region_input_rewrites ++ (record { region = r; rewrites = x } ∷ []))
    s.node_outputs s)
rewrites_inserted {w} {w'} {s} t {r} {kind} {ws} {x} below len words e =
    let g = insert_changes w r kind ws no_total in
    let old = s.region_input_rewrites in
    let more : List RewriteEntry = old ++ (record { region = r; rewrites = x } ∷ []) in
    rw e
    record {
      size = rw g.words t.size;
      region_total = g.totals regions_at (omega arith) ∙ t.region_total;
      node_total = g.totals nodes_at (omega arith) ∙ t.node_total;
      merge_total = g.totals merges_at (omega arith) ∙ t.merge_total;
      output_total = g.totals outputs_at (omega arith) ∙ t.output_total;
      attempts = g.totals attempts_at (omega arith) ∙ t.attempts;
      twice = g.totals twice_at (omega arith) ∙ t.twice;
      few_regions = t.few_regions;
      few_nodes = t.few_nodes;
      few_merges = t.few_merges;
      few_outputs = t.few_outputs;
      rewritten =
          by_insertion w t.size r kind ws below len (λ z. ShowsRewrites (section z rewrites) more)
          (λ z free enters. first_entry (section w rewrites) old t.rewritten r kind ws below x (section z rewrites) enters free words)
          (later_entry (section w rewrites) old t.rewritten r kind ws below x);
      outputs_shown = rw (g.others outputs (omega arith) (omega arith)) t.outputs_shown;
    }
