-- For the proofs of cases.rt: searches over the cases, turn by turn, for the one case that goes on and for one that has nodes; and the
-- inputs of claimed cases replaced in turn.
use Rattle.std.specs.Prelude.{◌≡◌, Bool, true, false, List, ℕ, suc, ◌+◌, ◌-◌, ◌≤◌, ◌<◌}
use Rattle.std.proofs.Common.{◌∙◌, add-one}
use native.Mathlib.Omega.{arith}
use borrow.Author.Tests.{eq-eqb, ne_eqb}
use Rattle.std.specs.Prelude.{refl, Option, Some, None, IfSome, is_some}
use Rattle.std.specs.Prelude.{zero, ◌||◌, not, eqb}
use Rattle.std.specs.List.{list_any, range_with_len}
use Rattle.meaning.specs.Lists.{pick}
use Rattle.std.proofs.Common.{sym}
use Rattle.std.proofs.Math.Decide.{dec_lt}
use borrow.Author.Tests.{lt-ltb, le-ltb}
use Rattle.state_words.specs.Sections.{word, head}
use Rattle.state_words.specs.Rows.{cases_at}
use Rattle.std.proofs.lemmas.Bool.{false≢true}
use Rattle.cfg_select_nodes.specs.Cases.{place_of}
use Rattle.state_regions.specs.RegionTables.{case_total}
use Rattle.state_nodes.specs.NodeTables.{inserted}
use Rattle.cfg_bundles.specs.EdgesAndCases.{case_inputs}
use Rattle.cfg_select_nodes.specs.Cases.{convergent_from, convergent_case, children_of, any_from, any_non_empty_case, inputs_replaced}
use Rattle.cfg_select_nodes.specs.Cases.{all_replaced}
use Rattle.state_words.specs.Rows.{case_body, case_children, case_claimed, case_kind, case_set_length, entry_replace}

-- ---- One case or none that has nodes.
any_counted : (l : List ℕ) (n j : ℕ) → list_any (λ i. not (eqb (children_of l i) 0)) (range_with_len j n) ≡ any_from l n j
unfolding any_from
any_counted l zero j = refl
any_counted l (suc n) j = rw (add-one j) (by_test (eqb (children_of l j) 0) (any_counted l n (suc j))) where
  by_test : (b : Bool) {x y : Bool} → x ≡ y → (not b || x) ≡ pick b y true
  by_test true e = e
  by_test false e = refl

-- ---- Turns of the loops.
module _ (l : List ℕ) (n : ℕ) (all : n ≡ case_total l) where
  all_left : n - 0 ≡ case_total l
  all_left = omega arith

  pub convergent_start : convergent_from l (n - 0) 0 8 ≡ convergent_case l
  convergent_start = rw all_left

  pub any_in_range : list_any (λ j. not (eqb (children_of l j) 0)) (range_with_len 0 n) ≡ any_non_empty_case l
  any_in_range = any_counted l n 0 ∙ rw all

  pub replace_start : all_replaced l (n - 0) 0 ≡ all_replaced l (case_total l) 0
  replace_start = rw all_left

module _ (l : List ℕ) (n j : ℕ) where
  next : j < n → n - j ≡ suc (n - (j + 1))
  next h = omega arith

  module _ (found : ℕ) {whole : ℕ} (left : convergent_from l (n - j) j found ≡ whole) where
    pub convergent_skip : j < n → case_set_length l j ≡ 0 → convergent_from l (n - (j + 1)) (j + 1) found ≡ whole
    unfolding convergent_from
    convergent_skip h e = rw (add-one j) (rw (add-one j) at (rw (eq-eqb _ _ e) at (rw (next h) at left)))

    pub convergent_second : j < n → (case_set_length l j ≡ 0 → ⊥) → (found ≡ 8 → ⊥) → 8 ≡ whole
    unfolding convergent_from
    convergent_second h e d = rw (ne_eqb _ _ e, ne_eqb _ _ d) at (rw (next h) at left)

    pub convergent_first : j < n → (case_set_length l j ≡ 0 → ⊥) → found ≡ 8 → convergent_from l (n - (j + 1)) (j + 1) j ≡ whole
    unfolding convergent_from
    convergent_first h e d = rw (add-one j) (rw (add-one j) at (rw (ne_eqb _ _ e, eq-eqb _ _ d) at (rw (next h) at left)))

    pub convergent_over : n ≤ j → found ≡ whole
    unfolding convergent_from
    convergent_over h = let s : n - j ≡ 0 = omega arith in rw s at left

  module _ {whole : List ℕ} (left : all_replaced l (n - j) j ≡ whole) where
    pub replace_on : j < n → all_replaced (inputs_replaced l j) (n - (j + 1)) (j + 1) ≡ whole
    unfolding all_replaced
    replace_on h = rw (add-one j) (rw (add-one j) at (rw (next h) at left))

    pub replace_over : n ≤ j → l ≡ whole
    unfolding all_replaced
    replace_over h = let s : n - j ≡ 0 = omega arith in rw s at left

pub few_cases : (l : List ℕ) → case_total l ≤ 8
unfolding case_total
few_cases l = elim (dec_lt (word l head cases_at) 8) [
  | yes h ↦ rw (lt-ltb (word l head cases_at) 8 h) (omega arith)
  | no h ↦ rw (le-ltb (word l head cases_at) 8 (omega arith)) (omega arith)
]

-- What was found before is a case.
pub found_case : (found : Option ℕ) → IfSome found (λ j. j < 8) → is_some found ≡ true → (place_of found ≡ 8 → ⊥)
found_case (Some j) h e = λ s. absurd (omega (arith, h, s))
found_case None h e = absurd (false≢true e)

pub found_none : (found : Option ℕ) → is_some found ≡ false → place_of found ≡ 8
found_none (Some j) e = absurd (false≢true (sym e))
found_none None e = refl

-- ---- The functions, path by path.
module _ (l : List ℕ) (j : ℕ) where
  pub children_none : (case_kind l j ≡ case_claimed → ⊥) → 0 ≡ children_of l j
  unfolding children_of
  children_none d = rw (ne_eqb _ _ d)

  pub children_some : case_kind l j ≡ case_claimed → case_children l j ≡ children_of l j
  unfolding children_of
  children_some e = rw (eq-eqb _ _ e)

  pub replaced_claimed : case_kind l j ≡ case_claimed → {body : ℕ} {vs l' : List ℕ} → body ≡ case_body l j
      → vs ≡ case_inputs l j → l' ≡ inserted l body entry_replace vs → l' ≡ inputs_replaced l j
  unfolding inputs_replaced
  replaced_claimed e p q r = r ∙ rw (eq-eqb _ _ e, p, q)

  pub replaced_not : (case_kind l j ≡ case_claimed → ⊥) → l ≡ inputs_replaced l j
  unfolding inputs_replaced
  replaced_not d = rw (ne_eqb _ _ d)
