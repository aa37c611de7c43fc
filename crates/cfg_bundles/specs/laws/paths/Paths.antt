-- The functions, path by path: what the code read and stored is what the words have.
use Rattle.std.specs.Prelude.{◌≡◌, refl, List, [], ◌∷◌, ◌++◌, length, get_or}
use Rattle.std.proofs.Common.{sym, ◌∙◌}
use Prim.Native.Nat.{ℕ, suc, ◌+◌, ◌-◌, ◌≤◌, ◌<◌}
use native.Mathlib.Omega.{arith}
use Rattle.std.proofs.Math.Decide.{ℕ_discrete}
use Rattle.std.proofs.Math.Numerals.{add-one}
use borrow.Author.Tests.{lt-ltb, le-ltb, eq-eqb, ne_eqb}
use Rattle.meaning.specs.Graph.{Graph, no_value, region, edges_of}
use Rattle.meaning.specs.Graph as graph
use Rattle.record.specs.Stands.{Stands}
use Rattle.fields.specs.ByNumber.{ValuesAt, end_values, edge_of}
use Rattle.fields.specs.ItemsAndPlaces.{value_item}
use Rattle.fields.specs.Shape.{value_is}
use Rattle.fields.specs.declared.shape.Value.{Value}
use Rattle.fields.specs.declared.shape.Value.TheVariants.{Const, Input, Instr, Bool as Truth, Undef, Nothing}
use Rattle.state_regions.specs.declared.cases.Case.{Case}
use Rattle.state_regions.specs.declared.cases.CaseKind.TheVariants.{NothingDeferred, OwnEdge, ClaimedRegion, Others}
use Rattle.state_words.specs.Sections.{Section, word, stored, stored_all, stored_all_at, head, children, set_starts, set_lengths, cases}
use Rattle.state_words.specs.Sections.{bundles}
use Rattle.state_sets.specs.SetTables.{bundle_at, own_edge, bundle_copied, shift_removed, swapped}
use Rattle.state_regions.specs.RegionTables.{target_answer, target_answer_of, case_words}
use Rattle.state_regions.specs.laws.KindsBack.{answer_is, answer_not}
use Rattle.state_regions.specs.declared.regions.TargetAnswer.{TargetAnswer}
use Rattle.state_regions.specs.declared.regions.TargetAnswer.TheVariants as answers
use Rattle.state_nodes.specs.NodeTables.{inserted, Joins}
use Rattle.state_words.specs.Totals.{edges_word}
use Rattle.state_words.specs.Values.{value_word}
use Rattle.state_shown.specs.Front.{SameKinds}
use Rattle.state_shown.specs.laws.FrontKept.{stands_kept, kinds_stored, kinds_run, kinds_then}
use Rattle.cfg_bundles.specs.EdgesAndCases.{record_word, padded_by, padded, listed_word, listed}
use Rattle.cfg_bundles.specs.EdgesAndCases.{edge_deferred, return_deferred, unclaimed_case, claimed_case}
use Rattle.cfg_bundles.specs.EdgesAndCases.{case_filled}
use Rattle.cfg_bundles.specs.EdgesAndCases.{filled_from, cases_filled, given_word, given_inputs, split_filled, case_inputs, Appends}
use Rattle.cfg_bundles.specs.EdgesAndCases.{appended}
use Rattle.cfg_bundles.specs.EdgesAndCases.{its_edge}
use Rattle.state_words.specs.Values.{undef_from}
use Rattle.state_words.specs.Rows.{bundle_row_at, bundle_target, case_row_at}
use Rattle.state_words.specs.Rows.{cases_at}
use Rattle.state_words.specs.Rows.{condition_true, entry_replace, level_claimed, level_deferred, return_word}

-- ---- A run behind a run.
run_append : (l : List ℕ) (k : Section) (i : ℕ) (xs ys : List ℕ)
    → stored_all (stored_all l k i xs) k (i + length xs) ys ≡ stored_all l k i (xs ++ ys)
unfolding stored_all_at
run_append l k i [] ys = let e : i + 0 ≡ i = omega arith in rw e
run_append l k i (x ∷ xs) ys =
    let e : i + suc (length xs) ≡ suc i + length xs = omega arith in rw e (run_append (stored l k i x) k (suc i) xs ys)

pub run_then : (l : List ℕ) (k : Section) (i : ℕ) (xs ys : List ℕ) {l₁ l₂ : List ℕ} → l₁ ≡ stored_all l k i xs
    → l₂ ≡ stored_all l₁ k (i + length xs) ys → l₂ ≡ stored_all l k i (xs ++ ys)
run_then l k i xs ys p q = q ∙ rw p (run_append l k i xs ys)

-- ---- Values of the record.
pub word_of_record : (v : Value) → value_word v ≡ record_word (value_is v)
word_of_record (Const i) = refl
word_of_record (Input r k) = refl
word_of_record (Instr r k) = refl
word_of_record (Truth b) = refl
word_of_record (Undef ty) = refl
word_of_record Nothing = refl

module _ (n : ℕ) (vs : List graph.Value) (k : ℕ) where
  pub padded_in : k < n → (v : Value) → {a : ℕ} → a ≡ value_word v → value_is v ≡ get_or vs k no_value → a ≡ padded_by n vs k
  unfolding padded_by
  padded_in h v p q = p ∙ rw (lt-ltb k n h, ← q) (word_of_record v)

-- What is listed at a place.
module _ (l : List ℕ) (p n k : ℕ) where
  pub listed_in : k < n → (v : Value) → {a : ℕ} → a ≡ value_word v → value_is v ≡ value_item l p k → a ≡ listed_word l p n k
  unfolding listed_word
  listed_in h v e q = e ∙ rw (lt-ltb k n h, ← q) (word_of_record v)

  pub listed_beyond : n ≤ k → undef_from ≡ listed_word l p n k
  unfolding listed_word
  listed_beyond h = rw (le-ltb k n h)

pub listed_is : (l : List ℕ) (p : ℕ) {vs : List graph.Value} → ValuesAt l p vs → listed l p ≡ padded vs
unfolding listed_word padded_by
listed_is l p at = rw (at.count, at.item 0, at.item 1, at.item 2, at.item 3)

pub edge_by : (g : Graph) (l : List ℕ) (p r j : ℕ) {t : ℕ} {vs l' : List ℕ} → t ≡ (edge_of g r j).target → vs ≡ padded
    (edge_of g r j).inputs
    → l' ≡ stored_all l bundles (bundle_row_at p) (t ∷ 1 ∷ 1 ∷ vs) → l' ≡ edge_deferred g l p r j
unfolding edge_deferred
edge_by g l p r j of_target of_inputs e = e ∙ rw (of_target, of_inputs)

pub return_by : (g : Graph) (l : List ℕ) (r : ℕ) {start p : ℕ} {vs l₁ l₂ : List ℕ} → start ≡ word l set_starts r → p ≡ bundle_at start 0
    → vs ≡ padded (end_values g r) → {n : ℕ} → n ≡ 0
    → l₁ ≡ stored_all l bundles (bundle_row_at p) (return_word ∷ edges_word n ∷ condition_true ∷ vs)
    → l₂ ≡ stored l₁ set_lengths r 1
    → l₂ ≡ return_deferred g l r
unfolding return_deferred
return_by g l r a b c none d e = e ∙ rw (d, none, c, b, a)

-- ---- Cases.
module _ (g : Graph) (l : List ℕ) (r j : ℕ) {answer : TargetAnswer} (read : answer ≡ target_answer_of (target_answer l r j)) where
  pub fill_claimed : answer ≡ answers.Claimed → {t : ℕ} {x : Case} {vs l' : List ℕ} → t ≡ (edge_of g r j).target → x ≡ claimed_case l t
      → vs ≡ padded (edge_of g r j).inputs → l' ≡ stored_all l cases (case_row_at j) (case_words x ++ vs) → l' ≡ case_filled g l r j
  unfolding case_filled
  fill_claimed is a b c e = e ∙ rw (b, a, c, eq-eqb (target_answer l r j) level_claimed (answer_is read is))

  pub fill_edge : (answer ≡ answers.Claimed → ⊥) → answer ≡ answers.Deferred → {p : ℕ} {x : Case} {l₁ l₂ : List ℕ} → p ≡ own_edge j
      → l₁ ≡ edge_deferred g l p r j
      → x ≡ unclaimed_case OwnEdge p 1 → l₂ ≡ stored_all l₁ cases (case_row_at j) (case_words x) → l₂ ≡ case_filled g l r j
  unfolding case_filled
  fill_edge unlike is a b c e =
      e ∙ rw (
        b,
        c,
        a,
        ne_eqb (target_answer l r j) level_claimed (answer_not read unlike),
        eq-eqb (target_answer l r j) level_deferred (answer_is read is),
      )

  pub fill_nothing : (answer ≡ answers.Claimed → ⊥) → (answer ≡ answers.Deferred → ⊥) → {x : Case} {l' : List ℕ}
      → x ≡ unclaimed_case NothingDeferred 0 0
      → l' ≡ stored_all l cases (case_row_at j) (case_words x) → l' ≡ case_filled g l r j
  unfolding case_filled
  fill_nothing unlike nor a e =
      e ∙ rw (
        a,
        ne_eqb (target_answer l r j) level_claimed (answer_not read unlike),
        ne_eqb (target_answer l r j) level_deferred (answer_not read nor),
      )

-- What a case leaves: the record stands.
pub front_filled : (g : Graph) (l : List ℕ) (r j : ℕ) → SameKinds l (case_filled g l r j)
unfolding case_filled edge_deferred
front_filled g l r j =
    elim (ℕ_discrete (target_answer l r j) level_claimed) [
      | yes e ↦ rw (eq-eqb (target_answer l r j) level_claimed e) (kinds_run l cases (omega arith) (case_row_at j) _)
      | no d ↦ elim (ℕ_discrete (target_answer l r j) level_deferred) [
        | yes e ↦ rw (ne_eqb (target_answer l r j) level_claimed d, eq-eqb (target_answer l r j) level_deferred e)
            (kinds_then (kinds_run l bundles (omega arith) (bundle_row_at (own_edge j)) _)
            (kinds_run _ cases (omega arith) (case_row_at j) _))
        | no f ↦ rw (ne_eqb (target_answer l r j) level_claimed d, ne_eqb (target_answer l r j) level_deferred f)
            (kinds_run l cases (omega arith) (case_row_at j) _)
      ]
    ]

pub fill_start : (g : Graph) (l : List ℕ) (r n : ℕ) → filled_from g l r (n - 0) 0 ≡ filled_from g l r n 0
fill_start g l r n = let e : n - 0 ≡ n = omega arith in rw e

-- The case total is stored first.
pub stands_counted : {g : Graph} {w w' : List ℕ} (n : ℕ) → Stands w g → w' ≡ stored w head cases_at n → Stands w' g
stands_counted {w} n s e = rw e (stands_kept (kinds_stored w head (omega arith) cases_at n) s)

pub fill_end : (g : Graph) (l : List ℕ) (r : ℕ) {n : ℕ} {l₁ l' : List ℕ} → n ≡ length (edges_of (region g r).terminator)
    → l₁ ≡ stored l head cases_at n → l' ≡ filled_from g l₁ r n 0 → l' ≡ cases_filled g l r
fill_end g l r size e f = f ∙ rw (e, size)

module _ (g : Graph) (r n j : ℕ) {w whole : List ℕ} where
  pub fill_turn : j < n → Stands w g × (filled_from g w r (n - j) j ≡ whole) → {w' : List ℕ} → w' ≡ case_filled g w r j
      → Stands w' g × (filled_from g w' r (n - (j + 1)) (j + 1) ≡ whole)
  unfolding filled_from
  fill_turn h s e =
      let z : n - j ≡ suc (n - (j + 1)) = omega arith in
      (rw e (stands_kept (front_filled g w r j) s.0), rw (e, add-one j) (rw (add-one j) at (rw z at s.1)))

  pub fill_stop : n ≤ j → filled_from g w r (n - j) j ≡ whole → w ≡ whole
  unfolding filled_from
  fill_stop h q = let z : n - j ≡ 0 = omega arith in rw z at q

pub split_by : (g : Graph) (l : List ℕ) (r i : ℕ) {start p t n : ℕ} {x y : Case} {vs l₁ l₂ l₃ l₄ : List ℕ} → start ≡ word l set_starts r
    → p ≡ bundle_at start i → t ≡ bundle_target l p → x ≡ claimed_case l t → vs ≡ given_inputs g l p → l₁ ≡ shift_removed l r i
    → n ≡ word l₁ set_lengths r → l₂ ≡ stored l₁ head cases_at 2 → l₃ ≡ stored_all l₂ cases (case_row_at 0) (case_words x ++ vs)
    → y ≡ unclaimed_case Others start n → l₄ ≡ stored_all l₃ cases (case_row_at 1) (case_words y) → l₄ ≡ split_filled g l r i
unfolding split_filled
split_by g l r i a b c d e f h k m o q = q ∙ rw (o, m, k, h, f, e, d, c, b, a)

-- ---- A case that stands alone.
pub append_claimed : (l : List ℕ) (r : ℕ) (x : Case) (j : ℕ) {vs l₁ l₂ l₃ l₄ l₅ : List ℕ} {before h : ℕ} → x.kind ≡ ClaimedRegion
    → vs ≡ case_inputs l j
    → l₁ ≡ inserted l x.body entry_replace vs → before ≡ word l₁ children r → Joins l₁ l₂ before x.children.0 h
    → l₃ ≡ stored l₂ children r h
    → l₄ ≡ swapped l₃ r x.origin → l₅ ≡ stored l₄ set_lengths r x.length → Appends l l₅ r x j
append_claimed l r x j kind a b c d e f k =
    let start : _ ≡ inserted l x.body entry_replace (case_inputs l j) = b ∙ rw a in
    appended kind (rw (c, start) at d) (k ∙ rw (f, e))

pub append_edge : (l : List ℕ) (r : ℕ) (x : Case) (j : ℕ) {start p : ℕ} {l₁ l₂ : List ℕ} → x.kind ≡ OwnEdge
    → start ≡ word l set_starts r
    → p ≡ bundle_at start 0 → l₁ ≡ bundle_copied l p x.start.0 → l₂ ≡ stored l₁ set_lengths r x.length → Appends l l₂ r x j
append_edge l r x j kind a b c d = its_edge kind (d ∙ rw (c, b, a))
