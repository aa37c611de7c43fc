-- A walk along a list that stops at the first refusal, as a loop makes it.
use Rattle.std.specs.Prelude.{◌≡◌, refl, ℕ, ◌+◌, ◌≤◌, ◌<◌}
use Rattle.std.proofs.Common.{sym, ap, ◌∙◌}
use Rattle.format.specs.Store.{Answer, accepted, refused, if_accepted}

-- What is left at place k of n: its step, and then what is left at the next.
pub record Walk (left step : ℕ → Answer Unit) (n : ℕ) : Type 0 where
  pub more : (k : ℕ) → k < n → left k ≡ if_accepted (step k) (λ _. left (k + 1))
  pub done : (k : ℕ) → n ≤ k → left k ≡ accepted tt

module _ {left step : ℕ → Answer Unit} {n : ℕ} (walk : Walk left step n) (whole : Answer Unit) (k : ℕ) where
  pub passes : k < n → left k ≡ whole → accepted tt ≡ step k → left (k + 1) ≡ whole
  passes l h a = ap (λ x. if_accepted x (λ _. left (k + 1))) a ∙ sym (walk.more k l) ∙ h

  pub stops : k < n → left k ≡ whole → {a b : ℕ} → refused a b ≡ step k → refused a b ≡ whole
  stops l h r = ap (λ x. if_accepted x (λ _. left (k + 1))) r ∙ sym (walk.more k l) ∙ h

  pub ends : n ≤ k → left k ≡ whole → accepted tt ≡ whole
  ends l h = sym (walk.done k l) ∙ h

-- One check after another.
pub then_then : (a : Answer Unit) (b c : Unit {0} → Answer Unit)
    → if_accepted a (λ u. if_accepted (b u) c) ≡ if_accepted (if_accepted a b) c
then_then (accepted u) b c = refl
then_then (refused n w) b c = refl

pub then_accepted : (a : Answer Unit) → if_accepted a (λ _. accepted tt) ≡ a
then_accepted (accepted u) = refl
then_accepted (refused n w) = refl

-- The first check refuses, or the rest decides.
pub walk_refused : {a : Answer Unit} (rest : Answer Unit) {i j : ℕ} → refused i j ≡ a → refused i j ≡ if_accepted a (λ _. rest)
walk_refused rest h = ap (λ x. if_accepted x (λ _. rest)) h

pub then_rest : {a : Answer Unit} (rest : Answer Unit) → accepted tt ≡ a → rest ≡ if_accepted a (λ _. rest)
then_rest rest h = ap (λ x. if_accepted x (λ _. rest)) h
