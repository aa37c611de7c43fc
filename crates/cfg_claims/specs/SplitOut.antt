-- What the scan of a region's set comes to: the place of the bundle that was claimed, none, or a refusal's number and its word.
use Rattle.std.specs.Prelude.{ℕ}
use Rattle.store.specs.declared.refusals.Refusal.{Refusal}

pub data SplitOut : Type 0 where
  At : ℕ → SplitOut
  Nothing : SplitOut
  Refused : Refusal → SplitOut
