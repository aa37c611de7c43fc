-- A case that is not claimed and defers nothing keeps its row when the cases are rewritten.
use Rattle.std.specs.Prelude.{◌≡◌, refl, Bool, true, false, List, ℕ, zero, suc, ◌+◌, ◌≤◌, ◌<◌, length, get_or, eqb, ltb}
use Rattle.std.proofs.Common.{sym, ap, ◌∙◌, arith, ne_eqb}
use Rattle.std.proofs.Math.Decide.{dec_lt, ℕ_discrete}
use Rattle.std.proofs.Math.ListN.{get_or-eq_default}
use Rattle.meaning.specs.Lists.{pick}
use Rattle.meaning.specs.Graph.{Graph, region}
use Rattle.meaning.specs.Graph as graph
use Rattle.format.specs.Valid.{Valid}
use Rattle.state_words.specs.Sections.{stored, section, head, cases, bundles}
use Rattle.state_words.specs.laws.Apart.{section_other}
use Rattle.state_sets.specs.SetTables.{input_word, input_stored, bundle_at}
use Rattle.state_regions.specs.RegionTables.{case_total}
use Rattle.state_shown.specs.laws.Stores.{word_apart}
use Rattle.cfg_lookups.specs.LookUps.{look_up}
use Rattle.cfg_merging.specs.Turns.{turned}
use Rattle.cfg_bundles.specs.EdgesAndCases.{input_count}
use Rattle.cfg_merging.specs.Rewriting.{noted, rewrite_input, rewrite_case_input, rewrite_bundle, rewrite_set, rewrite_inputs}
use Rattle.cfg_merging.specs.Rewriting.{rewrite_given}
use Rattle.cfg_merging.specs.Rewriting.{rewrite_case, rewrite_cases}
use Rattle.state_words.specs.Rows.{bundle_input_at, bundle_target, case_claimed, case_input, case_input_at, case_kind, case_origin}
use Rattle.state_words.specs.Rows.{case_set_length, case_set_start, case_word, case_word_at, twice_at}

-- ---- Bundles that are rewritten leave the cases.
cases_noted : (l : List ℕ) (v : ℕ) → section (noted l v) cases ≡ section l cases
unfolding noted
cases_noted l v = go (look_up l v).twice
  where
    go : (b : Bool) → section (pick b (stored l head twice_at 1) l) cases ≡ section l cases
    go true = section_other l head twice_at 1 cases (omega arith)
    go false = refl

cases_input : (l : List ℕ) (p k x : ℕ) → section (input_stored l p k x) cases ≡ section l cases
unfolding input_stored
cases_input l p k x = go (ltb k 4)
  where
    go : (b : Bool) → section (pick b (stored l bundles (bundle_input_at p k) x) l) cases ≡ section l cases
    go true = section_other l bundles (bundle_input_at p k) x cases (omega arith)
    go false = refl

cases_turned : (f : List ℕ → ℕ → List ℕ) → ((l : List ℕ) (i : ℕ) → section (f l i) cases ≡ section l cases) → (n : ℕ) (l : List ℕ) (i : ℕ)
    → section (turned f l n i) cases ≡ section l cases
unfolding turned
cases_turned f same zero l i = refl
cases_turned f same (suc n) l i = cases_turned f same n (f l i) (suc i) ∙ same l i

cases_bundle : (g : Graph) (l : List ℕ) (p : ℕ) → section (rewrite_bundle g l p) cases ≡ section l cases
unfolding rewrite_bundle rewrite_input
cases_bundle g l p = cases_turned (λ m k. rewrite_input m p k)
    (λ m k. cases_input (noted m (input_word m p k)) p k (look_up m (input_word m p k)).value ∙ cases_noted m (input_word m p k))
    (input_count g l (bundle_target l p)) l 0

cases_set : (g : Graph) (l : List ℕ) (start n : ℕ) → section (rewrite_set g l start n) cases ≡ section l cases
unfolding rewrite_set
cases_set g l start n = cases_turned (λ m i. rewrite_bundle g m (bundle_at start i)) (λ m i. cases_bundle g m (bundle_at start i)) n l 0

-- ---- A case leaves the rows of the others.
few_inputs : (g : Graph) → Valid g → (t : ℕ) → length (region g t).inputs ≤ 4
few_inputs g valid t =
    elim (dec_lt t (length g.regions)) [
      | yes h ↦ (valid.regions t h).inputs_few
      | no h ↦ rw (get_or-eq_default g.regions graph.nowhere {n = t} (omega arith)) (omega arith)
    ]

-- n inputs from place i on.
inputs_turned : (j k q : ℕ) → (k ≡ j → ⊥) → q < 10 → (n : ℕ) (l : List ℕ) (i : ℕ) → i + n ≤ 4
    → case_word (turned (λ m a. rewrite_case_input m k a) l n i) j q ≡ case_word l j q
unfolding turned rewrite_case_input
inputs_turned j k q d h zero l i b = refl
inputs_turned j k q d h (suc n) l i b =
    let v = case_input l k i in
    inputs_turned j k q d h n _ (suc i) (omega arith)
    ∙ word_apart (noted l v) cases (case_input_at k i) (look_up l v).value cases (case_word_at j q) (omega arith)
    ∙ ap (λ m. get_or m (case_word_at j q) 0) (cases_noted l v)

row_given : (g : Graph) → Valid g → (j k q : ℕ) → (k ≡ j → ⊥) → q < 10 → (l : List ℕ)
    → case_word (rewrite_given g l k) j q ≡ case_word l j q
unfolding rewrite_given rewrite_inputs
row_given g valid j k q d h l = go (eqb (case_kind l k) case_claimed)
  where
    go : (b : Bool) → case_word (pick b (rewrite_inputs g l k) l) j q ≡ case_word l j q
    go true = inputs_turned j k q d h (length (region g (case_origin l k)).inputs) l 0
        (let few = few_inputs g valid (case_origin l k) in omega arith)
    go false = refl

row_case : (g : Graph) → Valid g → (j k q : ℕ) → (k ≡ j → ⊥) → q < 10 → (l : List ℕ)
    → case_word (rewrite_case g l k) j q ≡ case_word l j q
unfolding rewrite_case
row_case g valid j k q d h l =
    let m = rewrite_given g l k in
    ap (λ z. get_or z (case_word_at j q) 0) (cases_set g m (case_set_start m k) (case_set_length m k)) ∙ row_given g valid j k q d h l

-- ---- Its own turn does nothing.
own_turn : (g : Graph) (l : List ℕ) (j : ℕ) → (case_kind l j ≡ case_claimed → ⊥) → case_set_length l j ≡ 0 → rewrite_case g l j ≡ l
unfolding rewrite_case rewrite_given rewrite_set turned
own_turn g l j d e = rw (ne_eqb (case_kind l j) case_claimed d, e)

rows_turned : (g : Graph) → Valid g → (j : ℕ) (n : ℕ) (l : List ℕ) (i : ℕ) → (case_kind l j ≡ case_claimed → ⊥)
    → case_set_length l j ≡ 0 → (q : ℕ) → q < 10
    → case_word (turned (λ m k. rewrite_case g m k) l n i) j q ≡ case_word l j q
unfolding turned
rows_turned g valid j zero l i d e q h = refl
rows_turned g valid j (suc n) l i d e q h =
    elim (ℕ_discrete i j) [
      | yes z ↦ rw (z, own_turn g l j d e) (rows_turned g valid j n l (suc j) d e q h)
      | no z ↦ rows_turned g valid j n (rewrite_case g l i) (suc i)
          (λ y. d (sym (row_case g valid j i 0 z (omega arith) l) ∙ y)) (row_case g valid j i 5 z (omega arith) l ∙ e) q h
          ∙ row_case g valid j i q z h l
    ]

pub row_kept : {g : Graph} → Valid g → (w : List ℕ) (j : ℕ) → (case_kind w j ≡ case_claimed → ⊥) → case_set_length w j ≡ 0
    → (q : ℕ) → q < 10 → case_word (rewrite_cases g w) j q ≡ case_word w j q
unfolding rewrite_cases
row_kept {g} valid w j d e q h = rows_turned g valid j (case_total w) w 0 d e q h
