-- A loop over n checks of the record that stands in the words, which stops at the first refusal: one law for each way out.
use Rattle.std.specs.Prelude.{◌≡◌, List, ℕ, ◌+◌, ◌≤◌, ◌<◌, Result, Ok, Err}
use Rattle.std.proofs.Common.{sym, ap, ◌∙◌, arith}
use Rattle.meaning.specs.Graph.{Graph}
use Rattle.format.specs.Store.{Answer, accepted, refused, if_accepted}
use Rattle.store.specs.Refusals.{refused_as}
use Rattle.store.specs.Loaded.{answered}
use Rattle.store.specs.declared.refusals.Refusal.{Refusal}
use Rattle.record.specs.Stands.{OfRecord}
use Rattle.references.specs.laws.Walk.{Walk, passes, stops, ends, walk_refused, then_rest}

-- The k-th of n rounds: what is left, after the checks before it, is the whole answer.
pub record Round (w : List ℕ) (step : Graph → ℕ → Answer Unit) (whole : Graph → Answer Unit) (n k : ℕ) : Type 0 where
  pub bound : k ≤ n
  pub left : Graph → ℕ → Answer Unit
  pub walk : OfRecord w (λ g. Walk (left g) (step g) n)
  pub rest : OfRecord w (λ g. left g k ≡ whole g)

module _ {w : List ℕ} {step : Graph → ℕ → Answer Unit} {whole : Graph → Answer Unit} {n k : ℕ} (x : Round w step whole n k) where
  pub round_end : n ≤ k → OfRecord w (λ g. accepted tt ≡ whole g)
  round_end l g s = ends (x.walk g s) _ _ l (x.rest g s)

  module _ (l : k < n) where
    pub round_passed : OfRecord w (λ g. accepted tt ≡ step g k) → Round w step whole n (k + 1)
    round_passed h =
        record {
          bound = omega arith;
          left = x.left;
          walk = x.walk;
          rest = λ g s. passes (x.walk g s) _ _ l (x.rest g s) (h g s);
        }

    pub round_refused : {a b : ℕ} → OfRecord w (λ g. refused a b ≡ step g k) → OfRecord w (λ g. refused a b ≡ whole g)
    round_refused h g s = stops (x.walk g s) _ _ l (x.rest g s) (h g s)

    -- By the answer of a call.
    module _ {y : Result (Unit {0}) Refusal} (call : OfRecord w (λ g. answered y ≡ step g k)) where
      pub call_passed : y ≡ Ok tt → Round w step whole n (k + 1)
      call_passed q = round_passed λ g s. sym (ap answered q) ∙ call g s

      pub call_refused : {why : Refusal} → y ≡ Err why → OfRecord w (λ g. refused_as why ≡ whole g)
      call_refused q = round_refused λ g s. sym (ap answered q) ∙ call g s

-- A check before the rest, by the answer of a call: the rest decides, or the check refuses.
module _ {y : Result (Unit {0}) Refusal} {a : Answer Unit} (rest : Answer Unit) (call : answered y ≡ a) where
  pub passed_on : y ≡ Ok tt → rest ≡ if_accepted a (λ _. rest)
  passed_on q = then_rest rest (sym (ap answered q) ∙ call)

  pub stopped : {why : Refusal} → y ≡ Err why → refused_as why ≡ if_accepted a (λ _. rest)
  stopped q = walk_refused rest (sym (ap answered q) ∙ call)
