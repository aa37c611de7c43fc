-- What three words of a value read as, or how the record is refused: each kind, region and index at both sides of what is right; computed.
use Rattle.std.specs.Prelude.{◌≡◌, refl, true, false, List, [], ◌∷◌, map, ℕ}
use Rattle.meaning.specs.Graph.{Value, const, input, instr, bool, undef, region}
use Rattle.format.specs.Store.{Answer, accepted, refused, if_accepted}
use Rattle.format.specs.Refusals.{wrong_reference, out_of_range}
use Rattle.format.specs.Read.{read_record}
use Rattle.format.specs.References.{references, values_of}
use Rattle.format.specs.Accept.{with_references}

-- A record of a constant and two regions. The first has an input and an instruction, and is Unreachable. The second has them too, and
-- exits with the value of the three words. W is not read again.
abbrev exits_with : ℕ → ℕ → ℕ → List ℕ
exits_with k r i =
    0 ∷ 2 ∷ 1 ∷ 0 ∷ 1 ∷ 2
    ∷ 1 ∷ 2 ∷ 1 ∷ 1 ∷ 9 ∷ 2 ∷ 1 ∷ 0 ∷ 1 ∷ 0 ∷ 0 ∷ 0 ∷ 0
    ∷ 1 ∷ 2 ∷ 1 ∷ 1 ∷ 9 ∷ 2 ∷ 1 ∷ 0 ∷ 1 ∷ 2 ∷ 7 ∷ 1 ∷ k ∷ r ∷ i ∷ 0 ∷ 0 ∷ []

pub record ValueCase : Type 0 where
  pub words : List ℕ
  pub says : Answer (List Value)

-- kind, region, index
abbrev value : ℕ → ℕ → ℕ → Answer (List Value) → ValueCase
value k r i a = record { words = exits_with k r i; says = a }

abbrev pub value_cases : List ValueCase
value_cases =
    value 0 0 0 (accepted (const 0 ∷ []))
    ∷ value 0 0 1 (refused wrong_reference 1)
    ∷ value 0 1 0 (refused wrong_reference 1)
    ∷ value 1 1 0 (accepted (input 1 0 ∷ []))
    ∷ value 1 1 1 (refused wrong_reference 1)
    ∷ value 1 0 0 (refused wrong_reference 1)
    ∷ value 2 1 0 (accepted (instr 1 0 ∷ []))
    ∷ value 2 1 1 (refused wrong_reference 1)
    ∷ value 2 0 0 (refused wrong_reference 1)
    ∷ value 3 0 0 (refused out_of_range 1)
    ∷ value 4 0 0 (accepted (bool false ∷ []))
    ∷ value 4 0 1 (accepted (bool true ∷ []))
    ∷ value 4 0 2 (refused wrong_reference 1)
    ∷ value 4 0 65535 (refused wrong_reference 1)
    ∷ value 4 1 0 (refused wrong_reference 1)
    ∷ value 4 1 1 (refused wrong_reference 1)
    ∷ value 5 0 0 (refused out_of_range 1)
    ∷ value 5 0 1 (accepted (undef 1 ∷ []))
    ∷ value 5 0 255 (accepted (undef 255 ∷ []))
    ∷ value 5 0 256 (refused out_of_range 1)
    ∷ value 5 1 1 (refused wrong_reference 1)
    ∷ value 5 1 0 (refused out_of_range 1)
    ∷ value 6 0 0 (refused out_of_range 1)
    ∷ value 6 1 0 (refused out_of_range 1)
    ∷ value 7 0 0 (refused out_of_range 1)
    ∷ value 65535 0 0 (refused out_of_range 1)
    ∷ []

-- What the second region exits with, where the record is taken.
abbrev exit_values : List ℕ → Answer (List Value)
exit_values ws = if_accepted (with_references (read_record ws)) λ g. accepted (values_of (region g 1).terminator)

pub values_computed : map (λ c. exit_values c.words) value_cases ≡ map (λ c. c.says) value_cases
unfolding read_record references
values_computed = refl
