-- What changes neither a region's state nor the number of attempts is kept by each step that nesting is made of.
use Rattle.std.specs.Prelude.{refl}
use Rattle.nesting.proofs.steps.Keeps.{Steady, KeepsLog}
use Rattle.nesting.specs.steps.StatesKept.{KeepsStates, states_kept_refl, states_kept_then}

pub states_kept_steady : Steady KeepsStates
states_kept_steady = record {
  same = states_kept_refl;
  follows = states_kept_then;
  region = λ s. record { states = refl; attempts = refl };
  node = λ s. record { states = refl; attempts = refl };
  merge = λ s. record { states = refl; attempts = refl };
  output = λ x s. record { states = refl; attempts = refl };
  twice = λ b s. record { states = refl; attempts = refl };
}

pub states_kept_log : KeepsLog KeepsStates
states_kept_log x s = record { states = refl; attempts = refl }
