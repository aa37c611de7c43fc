-- What changes neither a region's state nor the number of attempts, as selects and loops do not.
use Rattle.std.specs.Prelude.{◌≡◌, refl}
use Rattle.std.proofs.Common.{◌∙◌}
use Rattle.nesting.specs.Nesting.{NestState}

pub record KeepsStates (s s' : NestState) : Type 0 where
  pub states : s'.region_states ≡ s.region_states
  pub attempts : s'.attempts ≡ s.attempts

pub states_kept_refl : (s : NestState) → KeepsStates s s
states_kept_refl s = record { states = refl; attempts = refl }

pub states_kept_then : {s s' s'' : NestState} → KeepsStates s s' → KeepsStates s' s'' → KeepsStates s s''
states_kept_then p q = record { states = q.states ∙ p.states; attempts = q.attempts ∙ p.attempts }
