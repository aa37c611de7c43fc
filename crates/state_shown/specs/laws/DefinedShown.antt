-- What a definition that was made shows, and one that was refused.
use Rattle.std.specs.Prelude.{◌≡◌, refl, List, ℕ}
use Rattle.std.proofs.Common.{subst}
use Rattle.meaning.specs.facts.Tests.{clash}
use Rattle.nesting.specs.Nesting.{StepAnswer, turned_away}
use Rattle.std.specs.Prelude.{Ok}
use Rattle.state_words.specs.Totals.{Defined, Full}
use Rattle.state_shown.specs.Values.{value}
use Rattle.state_shown.specs.Tables.{ShowsDefined, shows_done, shows_full, Done}
use Rattle.format.specs.Refusals.{too_many}

pub done_of : {A : Type 0} {R : ℕ → A → Type 0} {w : List ℕ} {a : Defined} {b : StepAnswer A} → ShowsDefined R w a b → {x : ℕ}
    → a ≡ Ok x
    → Done R w x b
done_of {R} (shows_done {x} {a} {s} r t) {x = y} e =
    let same : x ≡ y = cc in record { value = a; state = s; is = refl; shows = subst (λ z. R z a) same r; tables = t }
done_of shows_full e = absurd (clash (cc))

pub full_of : {A : Type 0} {R : ℕ → A → Type 0} {w : List ℕ} {a : Defined} {b : StepAnswer A} → ShowsDefined R w a b → a ≡ Full
    → b ≡ turned_away too_many 0
full_of (shows_done r t) e = absurd (clash (cc))
full_of shows_full e = refl
