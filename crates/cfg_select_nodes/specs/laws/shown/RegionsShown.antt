-- The regions of a select's cases, for every state that the words show.
use Rattle.std.specs.Prelude.{◌≡◌, refl, List, [], ◌∷◌, ℕ, suc, ◌+◌, ◌≤◌, ◌<◌, length, get_or}
use Rattle.std.proofs.Common.{sym, ap, ◌∙◌, arith}
use Rattle.meaning.specs.Graph.{Graph}
use Rattle.meaning.specs.Runs.{Cases, ∅, case_count}
use Rattle.nesting.specs.Nesting.{MaybeClaimedRegion, ok, err, NestState, StepAnswer, done, turned_away, follow, give, new_case}
use Rattle.nesting.specs.Nesting.{case_regions, ClaimedRegion, DeferredEdgeBundleSet}
use Rattle.state_words.specs.Totals.{Defined, Made, Done, Full}
use Rattle.state_words.specs.Sections.{word, stored, head, cases}
use Rattle.state_words.specs.laws.Apart.{section_other}
use Rattle.state_words.specs.Totals.{Defines, defined, full}
use Rattle.state_shown.specs.laws.Stores.{ChangesOnly, nothing_changes, head_changes, word_changes, changes_then, word_there, word_apart}
use Rattle.state_shown.specs.Tables.{ShowsTables}
use Rattle.state_shown.specs.laws.DefinedShown.{done_of, full_of}
use Rattle.state_shown.specs.laws.Elsewhere.{tables_stay, word_elsewhere}
use Rattle.state_shown.specs.States.{ShowsCase, shows_ok, shows_nothing, shows_edge, shows_others, no_case}
use Rattle.state_shown.specs.laws.Steps.{region_defined}
use Rattle.cfg_select_nodes.specs.Turns.{Turns, turns_over, turn_on, turn_refused}
use Rattle.cfg_select_nodes.specs.Cases.{GetsRegion, has_region, new_region, no_region}
use Rattle.cfg_select_nodes.specs.laws.shown.Places.{From, first_of, rest_of}
use Rattle.nesting.specs.steps.TargetsAndCases.{children_in}
use Rattle.format.specs.Refusals.{too_many}
use Rattle.state_words.specs.Rows.{case_body, case_body_at, case_claimed, case_kind, case_row_at, case_word, case_word_at, regions_at}
use Rattle.state_words.specs.Rows.{case_row_size, case_body_field, case_kind_field}

-- What a step of the code answers shows what the definition's step gives, or refusal 9.
pub data ShowsMade {A : Type 0} (R : A → NestState → Type 0) : Made → StepAnswer A → Type 0 where
  shows_made : {a : A} {s : NestState} → R a s → ShowsMade R Done (done a s)
  shows_refused : ShowsMade R Full (turned_away too_many 0)

-- Taken apart by what the code answered.
pub record MadeDone {A : Type 0} (R : A → NestState → Type 0) (b : StepAnswer A) : Type 0 where
  pub value : A
  pub state : NestState
  pub is : b ≡ done value state
  pub shows : R value state

pub made_of : {A : Type 0} {R : A → NestState → Type 0} {b : StepAnswer A} → ShowsMade R Done b → MadeDone R b
made_of (shows_made {a} {s} r) = record { value = a; state = s; is = refl; shows = r }

pub refused_of : {A : Type 0} {R : A → NestState → Type 0} {b : StepAnswer A} → ShowsMade R Full b → b ≡ turned_away too_many 0
refused_of shows_refused = refl

-- ---- What stays of the cases: all words but the bodies of those that are not claimed, and those before place j.
pub record KeepsCases (j : ℕ) (w w' : List ℕ) : Type 0 where
  pub changes : ChangesOnly cases regions_at w w'
  pub before : (i : ℕ) → i < case_row_at j → word w' cases i ≡ word w cases i
  pub words : (k i : ℕ) → i < case_row_size → (i ≡ case_body_field → ⊥) → case_word w' k i ≡ case_word w k i
  pub bodies : (k : ℕ) → case_kind w k ≡ case_claimed → case_body w' k ≡ case_body w k

keeps_same : (j : ℕ) (w : List ℕ) → KeepsCases j w w
keeps_same j w = record
    { changes = nothing_changes cases regions_at w; before = λ i h. refl; words = λ k i h d. refl; bodies = λ k e. refl }

keeps_then : {j : ℕ} {w w₁ w₂ : List ℕ} → KeepsCases j w w₁ → KeepsCases (suc j) w₁ w₂ → KeepsCases j w w₂
keeps_then a b =
    record {
      changes = changes_then a.changes b.changes;
      before = λ i h. b.before i (omega arith) ∙ a.before i h;
      words = λ k i h d. b.words k i h d ∙ a.words k i h d;
      bodies = λ k e. b.bodies k (a.words k case_kind_field (omega arith) (omega arith) ∙ e) ∙ a.bodies k e;
    }

total_kept : {limit : ℕ} {w w₁ : List ℕ} {a : Defined} → Defines 0 limit w w₁ a → (j : ℕ) → KeepsCases j w w₁
total_kept {w} (defined {n} p h e) j =
    let same = section_other w head regions_at (n + 1) cases (omega arith) in
    rw e
    record {
      changes = head_changes cases regions_at w (n + 1);
      before = λ i h. ap (λ l. get_or l i 0) same;
      words = λ k i h d. ap (λ l. get_or l (case_word_at k i) 0) same;
      bodies = λ k q. ap (λ l. get_or l (case_body_at k) 0) same;
    }
total_kept {w} (full h e) j = rw e (keeps_same j w)

body_kept : (w : List ℕ) (j r : ℕ) → (case_kind w j ≡ case_claimed → ⊥) → KeepsCases j w (stored w cases (case_body_at j) r)
body_kept w j r d =
    record {
      changes = word_changes cases regions_at w (omega arith) (case_body_at j) r;
      before = λ i h. word_apart w cases (case_body_at j) r cases i (omega arith);
      words = λ k i h n. word_apart w cases (case_body_at j) r cases (case_word_at k i) (omega arith);
      bodies = λ k e. word_apart w cases (case_body_at j) r cases (case_body_at k)
          (λ z. let same : k ≡ j = omega arith in d (rw same at e));
    }

pub keeps_both : {j : ℕ} {w w₁ w₂ : List ℕ} → KeepsCases j w w₁ → KeepsCases j w₁ w₂ → KeepsCases j w w₂
keeps_both a b =
    record {
      changes = changes_then a.changes b.changes;
      before = λ i h. b.before i h ∙ a.before i h;
      words = λ k i h d. b.words k i h d ∙ a.words k i h d;
      bodies = λ k e. b.bodies k (a.words k case_kind_field (omega arith) (omega arith) ∙ e) ∙ a.bodies k e;
    }

region_keeps : {j : ℕ} {w w' : List ℕ} {a : Made} → GetsRegion j w w' a → KeepsCases j w w'
region_keeps {j} {w} (has_region k e) = rw e (keeps_same j w)
region_keeps {j} (new_region {r} {l₁} d x e) =
    let a = total_kept x j in
    rw e (keeps_both a (body_kept l₁ j r (λ z. d (sym (a.words j case_kind_field (omega arith) (omega arith)) ∙ z))))
region_keeps {j} (no_region d x) = total_kept x j

pub regions_keep : {n j : ℕ} {w w' : List ℕ} {a : Made} → Turns GetsRegion n j w w' a → KeepsCases j w w'
regions_keep {j} {w} (turns_over n e) = rw e (keeps_same j w)
regions_keep (turn_on n x t) = keeps_then (region_keeps x) (regions_keep t)
regions_keep (turn_refused n x) = region_keeps x

-- ---- The select's cases, each with its region's number as `body` has it.
abbrev pub cases_from : (ℕ → ℕ) → ℕ → List MaybeClaimedRegion → Cases
cases_from body j [] = ∅
cases_from body j (c ∷ cs) = new_case (body j) (children_in c) (cases_from body (suc j) cs)

pub count_from : (body : ℕ → ℕ) (j : ℕ) (cs : List MaybeClaimedRegion) → case_count (cases_from body j cs) ≡ length cs
count_from body j [] = refl
count_from body j (c ∷ cs) = ap suc (count_from body (suc j) cs)

abbrev pub body_at : List ℕ → ℕ → ℕ
body_at w j = case_body w j

-- A case that is claimed says so, and has its region.
pub data ShowsKind (w : List ℕ) (j : ℕ) : MaybeClaimedRegion → Type 0 where
  kind_ok : {c : ClaimedRegion} → case_kind w j ≡ case_claimed → body_at w j ≡ c.structured_body → ShowsKind w j (ok c)
  kind_err : {d : DeferredEdgeBundleSet} → (case_kind w j ≡ case_claimed → ⊥) → ShowsKind w j (err d)

pub kind_shown : {g : Graph} {w : List ℕ} {r j : ℕ} {c : MaybeClaimedRegion} → ShowsCase g w r j c → ShowsKind w j c
kind_shown (shows_ok k o b s t n a z i) = kind_ok k s
kind_shown (shows_nothing k z) = kind_err (omega arith)
kind_shown (shows_edge k a z) = kind_err (omega arith)
kind_shown (shows_others k a) = kind_err (omega arith)

kind_keeps : {j k : ℕ} {w w' : List ℕ} → KeepsCases j w w' → {c : MaybeClaimedRegion} → ShowsKind w k c → ShowsKind w' k c
kind_keeps {k} a (kind_ok e b) = kind_ok (a.words k case_kind_field (omega arith) (omega arith) ∙ e) (a.bodies k e ∙ b)
kind_keeps {k} a (kind_err d) = kind_err (λ e. d (sym (a.words k case_kind_field (omega arith) (omega arith)) ∙ e))

-- The definition's cases, with the numbers that the words have then.
abbrev pub RegionsDone : ℕ → List MaybeClaimedRegion → List ℕ → Cases → NestState → Type 0
RegionsDone j cs w' ks s = (ks ≡ cases_from (body_at w') j cs) × ShowsTables w' s

module _ (c : MaybeClaimedRegion) (cs : List MaybeClaimedRegion) (j : ℕ) (w' : List ℕ) (n : ℕ) (body : body_at w' j ≡ n) where
  with_first : {a : Made} {x : StepAnswer Cases} → ShowsMade (RegionsDone (suc j) cs w') a x
      → ShowsMade (RegionsDone j (c ∷ cs) w') a (follow x (λ rest. give (new_case n (children_in c) rest)))
  with_first (shows_made {a = ks} p) = shows_made {a = new_case n (children_in c) ks} (rw (p.0, body) refl, p.1)
  with_first shows_refused = shows_refused

region_refused : (c : MaybeClaimedRegion) (cs : List MaybeClaimedRegion) {j : ℕ} {w w' : List ℕ} {s : NestState} → ShowsTables w s
    → ShowsKind w j c → GetsRegion j w w' Full → case_regions (c ∷ cs) s ≡ turned_away too_many 0
unfolding case_regions
region_refused (ok c) cs t (kind_ok k q) (no_region d x) = absurd (d k)
region_refused (err d) cs t (kind_err k) (no_region z x) = rw (full_of (region_defined t x) refl)

pub regions_shown : (cs : List MaybeClaimedRegion) (j : ℕ) {w w' : List ℕ} {s : NestState} {a : Made} {n : ℕ} → n ≡ length cs
    → From no_case (ShowsKind w) j cs → ShowsTables w s → j + length cs ≤ 8
    → Turns GetsRegion n j w w' a → ShowsMade (RegionsDone j cs w') a (case_regions cs s)
unfolding case_regions
regions_shown [] j e f t b (turns_over n q) = rw q (shows_made (refl, t))
regions_shown [] j e f t b (turn_on n x y) = absurd (omega arith)
regions_shown [] j e f t b (turn_refused n x) = absurd (omega arith)
regions_shown (c ∷ cs) j e f t b (turns_over n q) = absurd (omega arith)
regions_shown (c ∷ cs) j {w} {w'} {s} {a} e f t b (turn_on {l₁} n x y) =
    let keeps = region_keeps x in
    let m = first_of no_case (ShowsKind w) j c cs f in
    let rest = rest_of no_case (ShowsKind w) j c cs f in
    step c m x (λ s₁ t₁. regions_shown cs (suc j) {s = s₁} (omega arith) (λ i h. kind_keeps keeps (rest i h)) t₁ (omega arith) y)
  where
    later : body_at w' j ≡ body_at l₁ j
    later = (regions_keep y).before (case_body_at j) (omega arith)

    step : (c : MaybeClaimedRegion) → ShowsKind w j c → GetsRegion j w l₁ Done
        → ((s₁ : NestState) → ShowsTables l₁ s₁ → ShowsMade (RegionsDone (suc j) cs w') a (case_regions cs s₁))
        → ShowsMade (RegionsDone j (c ∷ cs) w') a (case_regions (c ∷ cs) s)
    step (ok c) (kind_ok k q) (has_region z r) go = with_first (ok c) cs j w' c.structured_body (later ∙ rw r q) (go s (rw r t))
    step (ok c) (kind_ok k q) (new_region d z r) go = absurd (d k)
    step (err d) (kind_err k) (has_region z r) go = absurd (k z)
    step (err d) (kind_err k) (new_region {r = number} {l₁ = l} z x q) go =
        let x₁ = done_of (region_defined t x) refl in
        let t₁ = tables_stay (word_elsewhere l cases (omega arith) (case_body_at j) number) x₁.tables in
        let room = x₁.tables.size in
        rw x₁.is
        (with_first (err d) cs j w' x₁.value (later ∙ ap (λ l. body_at l j) q ∙ word_there l cases (case_body_at j) number (omega arith)
        (omega arith) ∙ x₁.shows)
        (go x₁.state (rw q t₁)))
regions_shown (c ∷ cs) j {w} {s} e f t b (turn_refused n x) =
    rw (region_refused c cs t (first_of no_case (ShowsKind w) j c cs f) x) shows_refused
