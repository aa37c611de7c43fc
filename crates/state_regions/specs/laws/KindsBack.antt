-- A state, an answer or a kind that a word says is that word's number again: so what is known of one is known of the other.
use Rattle.std.specs.Prelude.{◌≡◌, refl, ℕ, eqb}
use Rattle.std.proofs.Math.Path.{sym, ap}
use Rattle.std.proofs.Common.{◌∙◌, ne_eqb, eq-eqb}
use Rattle.std.proofs.Math.Decide.{ℕ_discrete}
use Rattle.meaning.specs.Lists.{pick}
use Rattle.state_regions.specs.declared.cases.CaseKind.{CaseKind}
use Rattle.state_regions.specs.declared.regions.RegionState.{RegionState}
use Rattle.state_regions.specs.declared.regions.TargetAnswer.{TargetAnswer}
use Rattle.state_regions.specs.RegionTables.{region_state_of, region_state_word, target_answer_of, target_answer_word}
use Rattle.state_regions.specs.RegionTables.{case_kind_of, case_kind_word}

-- Of a choice by a word: where what is chosen says that word, and what else there is says it, so does the whole.
by_word : {A : Type 0} (word_of : A → ℕ) (n k : ℕ) (x rest : A) → word_of x ≡ k → word_of rest ≡ n → word_of (pick (eqb n k) x rest) ≡ n
by_word word_of n k x rest here else_ = elim (ℕ_discrete n k) [
  | yes e ↦ rw (eq-eqb n k e) (here ∙ sym e)
  | no d ↦ rw (ne_eqb n k d) else_
]

pub state_back : (n : ℕ) → region_state_word (region_state_of n) ≡ n
state_back n =
    let w = region_state_word in
    by_word w n 0 _ _ refl (by_word w n 1 _ _ refl (by_word w n 2 _ _ refl (by_word w n 3 _ _ refl refl)))

pub answer_back : (n : ℕ) → target_answer_word (target_answer_of n) ≡ n
answer_back n =
    let w = target_answer_word in by_word w n 0 _ _ refl (by_word w n 1 _ _ refl (by_word w n 2 _ _ refl refl))

pub kind_back : (n : ℕ) → case_kind_word (case_kind_of n) ≡ n
kind_back n =
    let w = case_kind_word in
    by_word w n 0 _ _ refl (by_word w n 1 _ _ refl (by_word w n 2 _ _ refl (by_word w n 3 _ _ refl refl)))

-- Two words that say the same are the same.
pub state_is : {n m : ℕ} {s : RegionState} → s ≡ region_state_of n → s ≡ region_state_of m → n ≡ m
state_is {n} {m} p e = sym (state_back n) ∙ ap region_state_word (sym p ∙ e) ∙ state_back m

pub answer_is : {n m : ℕ} {s : TargetAnswer} → s ≡ target_answer_of n → s ≡ target_answer_of m → n ≡ m
answer_is {n} {m} p e = sym (answer_back n) ∙ ap target_answer_word (sym p ∙ e) ∙ answer_back m

pub kind_is : {n m : ℕ} {s : CaseKind} → s ≡ case_kind_of n → s ≡ case_kind_of m → n ≡ m
kind_is {n} {m} p e = sym (kind_back n) ∙ ap case_kind_word (sym p ∙ e) ∙ kind_back m

-- And two that do not are not.
pub state_not : {n m : ℕ} {s : RegionState} → s ≡ region_state_of n → (s ≡ region_state_of m → ⊥) → n ≡ m → ⊥
state_not p d e = d (p ∙ ap region_state_of e)

pub answer_not : {n m : ℕ} {s : TargetAnswer} → s ≡ target_answer_of n → (s ≡ target_answer_of m → ⊥) → n ≡ m → ⊥
answer_not p d e = d (p ∙ ap target_answer_of e)

pub kind_not : {n m : ℕ} {s : CaseKind} → s ≡ case_kind_of n → (s ≡ case_kind_of m → ⊥) → n ≡ m → ⊥
kind_not p d e = d (p ∙ ap case_kind_of e)
