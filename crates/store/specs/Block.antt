-- One step of the store's definitions: a block's verdict, and the byte at which a word begins.
use Rattle.std.specs.Prelude.{Bool, true, false, List, ℕ, ◌+◌, ◌*◌, ◌/◌, ◌%◌}
use Rattle.format.specs.Store.{Answer, accepted, number_right, check_right}
use Rattle.store.specs.Refusals.{refused_as}
use Rattle.store.specs.declared.refusals.Refusal.{Refusal}
use Rattle.store.specs.declared.refusals.Refusal.TheVariants.{WrongBlockNumber, WrongCheck}

-- The refusal of the first test that failed.
abbrev pub first_wrong : Bool → Refusal → Bool → Refusal → Answer Unit
first_wrong first why second other =
    elim first [ false ↦ refused_as why | true ↦ elim second [ false ↦ refused_as other | true ↦ accepted tt ] ]

-- Of block b alone: its number, then its check.
abbrev pub block_checked : List ℕ → ℕ → Answer Unit
block_checked s b = first_wrong (number_right s b) (WrongBlockNumber b) (check_right s b) (WrongCheck b)

-- The byte at which word j of the joined payloads begins.
abbrev pub byte_place : ℕ → ℕ
byte_place j = 512 * (j / 253) + 2 + 2 * (j % 253)
