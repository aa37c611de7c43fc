-- For the proofs of rewriting.rt: each value of the cases looked up and stored, place by place; the record stands through all turns.
use Rattle.std.specs.Prelude.{◌≡◌, Bool, true, false, List, ℕ, ◌-◌, ◌≤◌, length, eqb}
use Rattle.std.proofs.Common.{◌∙◌, arith}
use borrow.Author.Tests.{eq-eqb, ne_eqb}
use Rattle.meaning.specs.Lists.{pick}
use Rattle.meaning.specs.Graph.{Graph, region}
use Rattle.record.specs.Stands.{OfRecord}
use Rattle.state_words.specs.Sections.{stored, head, cases}
use Rattle.state_regions.specs.declared.cases.CaseKind.{CaseKind}
use Rattle.state_regions.specs.declared.cases.CaseKind.TheVariants.{ClaimedRegion}
use Rattle.state_regions.specs.RegionTables.{case_kind_of}
use Rattle.state_regions.specs.laws.KindsBack.{kind_is, kind_not}
use Rattle.state_sets.specs.SetTables.{input_word, input_stored, bundle_at}
use Rattle.cfg_lookups.specs.LookUps.{look_up, Rewrites}
use Rattle.state_shown.specs.Front.{SameKinds}
use Rattle.state_shown.specs.laws.FrontKept.{kinds_same, kinds_stored, kinds_then, stands_kept, kinds_input_stored}
use Rattle.cfg_merging.specs.Turns.{turned, turn_last, front_turned}
use Rattle.cfg_bundles.specs.EdgesAndCases.{input_count}
use Rattle.cfg_merging.specs.Rewriting.{noted, rewrite_input, rewrite_case_input, rewrite_bundle, rewrite_set, rewrite_inputs}
use Rattle.cfg_merging.specs.Rewriting.{rewrite_given, rewrite_case}
use Rattle.state_words.specs.Rows.{bundle_target, case_claimed, case_input, case_input_at, case_kind, case_origin, case_set_length}
use Rattle.state_words.specs.Rows.{case_set_start, twice_at}

-- ---- The record stands in front of all that is stored.
front_noted : (l : List ℕ) (v : ℕ) → SameKinds l (noted l v)
unfolding noted
front_noted l v = go (look_up l v).twice
  where
    go : (b : Bool) → SameKinds l (pick b (stored l head twice_at 1) l)
    go true = kinds_stored l head (omega arith) twice_at 1
    go false = kinds_same l

pub front_bundle : (g : Graph) (l : List ℕ) (p : ℕ) → SameKinds l (rewrite_bundle g l p)
unfolding rewrite_bundle rewrite_input
front_bundle g l p = front_turned (λ l. l) (λ m k. rewrite_input m p k)
    (λ m k. kinds_then (front_noted m (input_word m p k)) (kinds_input_stored (noted m (input_word m p k)) p k
    (look_up m (input_word m p k)).value)) (input_count g l (bundle_target l p)) l 0

front_set : (g : Graph) (l : List ℕ) (start n : ℕ) → SameKinds l (rewrite_set g l start n)
unfolding rewrite_set
front_set g l start n = front_turned (λ l. l) (λ m i. rewrite_bundle g m (bundle_at start i))
    (λ m i. front_bundle g m (bundle_at start i)) n l 0

front_inputs : (g : Graph) (l : List ℕ) (j : ℕ) → SameKinds l (rewrite_inputs g l j)
unfolding rewrite_inputs rewrite_case_input
front_inputs g l j = front_turned (λ l. l) (λ m k. rewrite_case_input m j k)
    (λ m k. let v = case_input m j k in
    kinds_then (front_noted m v) (kinds_stored (noted m v) cases (omega arith) (case_input_at j k) (look_up m v).value))
    (length (region g (case_origin l j)).inputs) l 0

pub front_given : (g : Graph) (l : List ℕ) (j : ℕ) → SameKinds l (rewrite_given g l j)
unfolding rewrite_given
front_given g l j = go (eqb (case_kind l j) case_claimed)
  where
    go : (b : Bool) → SameKinds l (pick b (rewrite_inputs g l j) l)
    go true = front_inputs g l j
    go false = kinds_same l

pub front_case : (g : Graph) (l : List ℕ) (j : ℕ) → SameKinds l (rewrite_case g l j)
unfolding rewrite_case
front_case g l j = let m = rewrite_given g l j in
    kinds_then (front_given g l j) (front_set g m (case_set_start m j) (case_set_length m j))

-- ---- The functions, path by path.
module _ (l l₁ l₂ : List ℕ) (p k v x : ℕ) where
  pub input_path : v ≡ input_word l p k → Rewrites l v l₁ x → l₂ ≡ input_stored l₁ p k x → l₂ ≡ rewrite_input l p k
  unfolding rewrite_input noted
  input_path e step last = last ∙ rw (← e, step.noted, step.value)

  pub case_input_path : v ≡ case_input l p k → Rewrites l v l₁ x → l₂ ≡ stored l₁ cases (case_input_at p k) x
      → l₂ ≡ rewrite_case_input l p k
  unfolding rewrite_case_input noted
  case_input_path e step last = last ∙ rw (← e, step.noted, step.value)

module _ (l l' : List ℕ) (p n t k : ℕ) (over : n ≤ k) where
  pub bundle_path : t ≡ bundle_target l p → OfRecord l (λ g. n ≡ input_count g l t)
      → turned (λ m i. rewrite_input m p i) l' (n - k) k ≡ turned (λ m i. rewrite_input m p i) l n 0
      → OfRecord l (λ g. l' ≡ rewrite_bundle g l p)
  unfolding rewrite_bundle
  bundle_path of_target count left g st =
      turn_last (λ m i. rewrite_input m p i) l' n k left over ∙ rw (← of_target, ← count g st)

  pub inputs_path : t ≡ case_origin l p → OfRecord l (λ g. n ≡ length (region g t).inputs)
      → turned (λ m i. rewrite_case_input m p i) l' (n - k) k ≡ turned (λ m i. rewrite_case_input m p i) l n 0
      → OfRecord l (λ g. l' ≡ rewrite_inputs g l p)
  unfolding rewrite_inputs
  inputs_path of_origin count left g st =
      turn_last (λ m i. rewrite_case_input m p i) l' n k left over ∙ rw (← of_origin, ← count g st)

module _ (l : List ℕ) (j : ℕ) (kind : CaseKind) (of_kind : kind ≡ case_kind_of (case_kind l j)) where
  pub given_path : kind ≡ ClaimedRegion → {l₁ : List ℕ} → OfRecord l (λ g. l₁ ≡ rewrite_inputs g l j)
      → OfRecord l (λ g. l₁ ≡ rewrite_given g l j)
  unfolding rewrite_given
  given_path e inputs g st = inputs g st ∙ rw (eq-eqb (case_kind l j) case_claimed (kind_is of_kind e))

  pub none_given : (kind ≡ ClaimedRegion → ⊥) → OfRecord l (λ g. l ≡ rewrite_given g l j)
  unfolding rewrite_given
  none_given d g st = rw (ne_eqb (case_kind l j) case_claimed (kind_not of_kind d))

pub case_path : (l l₁ l₂ : List ℕ) (j start n : ℕ) → OfRecord l (λ g. l₁ ≡ rewrite_given g l j) → start ≡ case_set_start l₁ j
    → n ≡ case_set_length l₁ j → OfRecord l₁ (λ g. l₂ ≡ rewrite_set g l₁ start n) → OfRecord l (λ g. l₂ ≡ rewrite_case g l j)
unfolding rewrite_case
case_path l l₁ l₂ j start n given of_start of_length last g st =
    let e = given g st in
    let same : SameKinds l l₁ = rw e (front_given g l j) in
    last g (stands_kept same st) ∙ rw (of_start, of_length, e)
