-- What a `?` answers of a full table.
use Rattle.std.specs.Prelude.{◌≡◌, refl, Result, Ok, Err, IsErr}
use Rattle.std.proofs.lemmas.Bool.{false≢true}
use Rattle.state_words.specs.declared.defined.TooMany.{TooMany}
use Rattle.state_words.specs.Totals.{Full}

pub full_of_err : {A : Type 0} {a : Result A TooMany} → IsErr a → a ≡ Full
full_of_err {a = Ok _} h = absurd (false≢true h)
full_of_err {a = Err _} h = refl
