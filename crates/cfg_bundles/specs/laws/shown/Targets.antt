-- How many inputs a target has, their types, and a bundle's condition in its set, as the definition has them.
use Rattle.std.specs.Prelude.{◌≡◌, List, ℕ, ◌+◌, ◌≤◌, ◌<◌, length, get_or}
use Rattle.std.proofs.Common.{arith, eq-eqb, ne_eqb}
use Rattle.meaning.specs.Graph.{Graph}
use Rattle.nesting.specs.Nesting.{DeferredTarget, DeferredEdgeBundleSet}
use Rattle.nesting.specs.Nesting as nesting
use Rattle.state_shown.specs.Tables.{ShowsCondition}
use Rattle.state_shown.specs.Sets.{ShowsTarget, shows_region, shows_return, target_size, ShowsSet, no_bundle}
use Rattle.state_shown.specs.States.{ShowsReturned}
use Rattle.state_shown.specs.laws.SetSteps.{condition_shown}
use Rattle.cfg_bundles.specs.EdgesAndCases.{input_count, target_type, condition_in}
use Rattle.state_words.specs.Rows.{return_word}

module _ {g : Graph} (w : List ℕ) (few : length g.regions ≤ 32) (returned : ShowsReturned g w) where
  pub input_count_shown : {t : ℕ} {x : DeferredTarget} → ShowsTarget g t x → input_count g w t ≡ target_size g x
  unfolding input_count
  input_count_shown {t} (shows_region e h) = rw (ne_eqb t return_word (omega arith), e)
  input_count_shown {t} (shows_return e) = rw (eq-eqb t return_word e) returned.size

  pub target_type_shown : {t : ℕ} {x : DeferredTarget} → ShowsTarget g t x → (k : ℕ) → k < target_size g x
      → target_type g w t k ≡ nesting.target_type g x k
  unfolding target_type
  target_type_shown {t} (shows_region e h) k b = rw (ne_eqb t return_word (omega arith), e)
  target_type_shown {t} (shows_return e) k b = rw (eq-eqb t return_word e) (returned.types k b)

pub condition_in_shown : {g : Graph} {w : List ℕ} {start n : ℕ} {d : DeferredEdgeBundleSet} → ShowsSet g w start n d → (i : ℕ) → i < n
    → ShowsCondition w (condition_in w (start + i) n) (nesting.condition_in d (get_or d i no_bundle))
unfolding condition_in
condition_in_shown x i h = condition_shown x i h
