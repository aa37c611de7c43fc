-- What a sheet shows of a value tells which value it is: unmarked values that name something are read back from their three words.
use Rattle.std.specs.Prelude.{◌≡◌, refl, Bool, true, false, List, [], ◌∷◌, ℕ, zero, suc, ◌+◌, ◌<◌, eqb, get_or, length, take}
use Rattle.std.proofs.Common.{sym, ap, ◌∙◌, arith}
use Rattle.meaning.specs.Lists.{pick, times_in}
use Rattle.meaning.specs.facts.Tests.{clash, eqb_self}
use Rattle.meaning.specs.Graph.{Value, const, input, instr, output, bool, undef, held, no_value, Code}
use Rattle.nesting.specs.ShownForm.{shown_value}
use Rattle.nesting.specs.AnswerValues.{marked, Named}

-- The place, counted from `at`, of n where it stands with k before it.
abbrev place_of : ℕ → ℕ → List ℕ → ℕ → ℕ
place_of n k [] at = at
place_of n k (x ∷ xs) at =
    elim (eqb n x) [ false ↦ place_of n k xs (suc at) | true ↦ elim k [ zero ↦ at | suc j ↦ place_of n j xs (suc at) ] ]

place_found : (xs : List ℕ) (o at : ℕ) → o < length xs → place_of (get_or xs o 0) (times_in (get_or xs o 0) (take o xs)) xs at ≡ at + o
place_found [] o at l = absurd (omega arith)
place_found (x ∷ xs) zero at l = rw (eqb_self x, place_of) (omega arith)
place_found (x ∷ xs) (suc o) at l = go (eqb (get_or xs o 0) x) (place_found xs o (suc at) (omega arith))
  where
    go : (b : Bool) → place_of (get_or xs o 0) (times_in (get_or xs o 0) (take o xs)) xs (suc at) ≡ suc at + o
        → elim b as (λ b. ℕ) [
          | false ↦ place_of (get_or xs o 0) (pick b 1 0 + times_in (get_or xs o 0) (take o xs)) xs (suc at)
          | true ↦ elim (pick b 1 0 + times_in (get_or xs o 0) (take o xs)) [ zero ↦ at | suc j ↦ place_of (get_or xs o 0) j xs (suc at) ]
        ] ≡ at + suc o
    go true h =
        let z : 1 + times_in (get_or xs o 0) (take o xs) ≡ suc (times_in (get_or xs o 0) (take o xs)) = omega arith in
        ap (λ k. elim k as (λ k. ℕ) [ zero ↦ at | suc j ↦ place_of (get_or xs o 0) j xs (suc at) ]) z ∙ h ∙ omega arith
    go false h =
        let z : 0 + times_in (get_or xs o 0) (take o xs) ≡ times_in (get_or xs o 0) (take o xs) = omega arith in
        ap (λ k. place_of (get_or xs o 0) k xs (suc at)) z ∙ h ∙ omega arith

abbrev pub value_shown : List ℕ → Code → Value
value_shown nodes c =
    pick (eqb c.kind 0) (const c.index)
    (pick (eqb c.kind 1) (input c.region c.index)
    (pick (eqb c.kind 2) (instr c.region c.index)
    (pick (eqb c.kind 3) (output (place_of c.region c.index nodes 0))
    (pick (eqb c.kind 4) (bool (eqb c.index 1)) (undef c.index)))))

pub read_back : (nodes : List ℕ) (v : Value) → Named (length nodes) v → marked v ≡ false → value_shown nodes (shown_value nodes v) ≡ v
read_back nodes (const i) n m = refl
read_back nodes (input r k) n m = refl
read_back nodes (instr r k) n m = refl
read_back nodes (output o) n m = ap output (place_found nodes o 0 n ∙ omega arith)
read_back nodes (bool true) n m = refl
read_back nodes (bool false) n m = refl
read_back nodes (undef ty) n m = refl
read_back nodes (held r k) n m = absurd (clash (cc))
read_back nodes no_value n m = absurd n

-- Different values are shown differently.
pub shown_apart : (nodes : List ℕ) (v w : Value) → Named (length nodes) v → marked v ≡ false → Named (length nodes) w → marked w ≡ false
    → shown_value nodes v ≡ shown_value nodes w → v ≡ w
shown_apart nodes v w n m n' m' e = sym (read_back nodes v n m) ∙ ap (value_shown nodes) e ∙ read_back nodes w n' m'
