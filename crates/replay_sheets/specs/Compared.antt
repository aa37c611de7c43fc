-- A text compared with the listed one.
use Rattle.std.specs.Prelude.{◌≡◌, Bool, true, List, ℕ, take}
use Rattle.std.proofs.Common.{ap, ◌∙◌}
use Rattle.vectors.specs.Same.{same_list}
use Rattle.vectors.specs.laws.SameLaws.{as_same}
use Rattle.text.specs.Whole.{InFront}

-- A comparison of the listed text with &after[..n], where what is shown stands.
pub as_shown : {text after listed : List ℕ} {n : ℕ} {r : Bool} → InFront text after n
    → (r ≡ true → take n after ≡ listed) × (take n after ≡ listed → r ≡ true) → r ≡ same_list text listed
as_shown {listed = listed} front h = as_same _ _ _ h ∙ ap (λ l. same_list l listed) front.is
