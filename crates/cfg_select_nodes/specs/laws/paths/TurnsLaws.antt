-- A loop whose steps may be refused: it begins, a turn is taken or refused, it is over. With steps that read the record, it stands on.
use Rattle.std.specs.Prelude.{◌≡◌, refl, List, ℕ, suc, ◌+◌, ◌-◌, ◌≤◌, ◌<◌}
use Rattle.std.proofs.Common.{arith, add-one}
use Rattle.meaning.specs.Graph.{Graph}
use Rattle.record.specs.Stands.{OfRecord}
use Rattle.state_shown.specs.Front.{SameKinds}
use Rattle.state_shown.specs.laws.FrontKept.{stands_kept, kinds_same, kinds_then}
use Rattle.state_words.specs.Totals.{Made, Done, Full}
use Rattle.cfg_select_nodes.specs.Turns.{Steps, Turns, turns_over, turn_on, turn_refused, TurnsOn, LeavesRecord, GoesOnBy}

pub begins : (Step : Steps) (n : ℕ) (l₀ : List ℕ) → TurnsOn Step n 0 l₀ l₀
begins Step n l₀ l' a t = let e : n - 0 ≡ n = omega arith in rw e at t

module _ (Step : Steps) (n : ℕ) (l₀ : List ℕ) where
  module _ (j : ℕ) (l : List ℕ) (goes_on : TurnsOn Step n j l₀ l) where
    pub turned : j < n → {l₁ : List ℕ} → Step j l l₁ Done → TurnsOn Step n (j + 1) l₀ l₁
    turned h x l' a t =
        let s : n - j ≡ suc (n - suc j) = omega arith in
        goes_on l' a (turn_on s x (rw (add-one j) at t))

    pub refused : j < n → {l' : List ℕ} → Step j l l' Full → Turns Step n 0 l₀ l' Full
    refused h {l'} x = let s : n - j ≡ suc (n - (j + 1)) = omega arith in goes_on l' Full (turn_refused s x)

    pub over : n ≤ j → Turns Step n 0 l₀ l Done
    over h = let s : n - j ≡ 0 = omega arith in goes_on l Done (turns_over s refl)

pub front_turns : (Step : Steps) → LeavesRecord Step → {n j : ℕ} {l l' : List ℕ} {a : Made} → Turns Step n j l l' a → SameKinds l l'
front_turns Step f {l} (turns_over n e) = rw e (kinds_same l)
front_turns Step f (turn_on n x t) = kinds_then (f _ _ _ _ x) (front_turns Step f t)
front_turns Step f (turn_refused n x) = f _ _ _ _ x

pub begins_by : (Step : Graph → Steps) (n : ℕ) (l₀ : List ℕ) → GoesOnBy Step n 0 l₀ l₀
begins_by Step n l₀ g s = (s, begins (Step g) n l₀)

module _ (Step : Graph → Steps) (n : ℕ) (l₀ : List ℕ) (j : ℕ) (l : List ℕ) (goes_on : GoesOnBy Step n j l₀ l) where
  pub turned_by : ((g : Graph) → LeavesRecord (Step g)) → j < n → {l₁ : List ℕ} → OfRecord l (λ g. Step g j l l₁ Done)
      → GoesOnBy Step n (j + 1) l₀ l₁
  turned_by f h x g s =
      let y = goes_on g s in
      (stands_kept (f g _ _ _ _ (x g y.0)) y.0, turned (Step g) n l₀ j l y.1 h (x g y.0))

  pub refused_by : j < n → {l' : List ℕ} → OfRecord l (λ g. Step g j l l' Full) → OfRecord l₀ (λ g. Turns (Step g) n 0 l₀ l' Full)
  refused_by h x g s = let y = goes_on g s in refused (Step g) n l₀ j l y.1 h (x g y.0)

  pub over_by : n ≤ j → OfRecord l₀ (λ g. Turns (Step g) n 0 l₀ l Done)
  over_by h g s = over (Step g) n l₀ j l (goes_on g s).1 h
