-- Laws of the words of a store: where the next one begins, the zero test, the list of the first words.
use Rattle.std.specs.Prelude.{◌≡◌, List, ℕ, ◌+◌, ◌*◌, ◌/◌, ◌%◌, ◌≤◌, ◌<◌}
use Rattle.std.proofs.Common.{ap, ◌∙◌, arith}
use Rattle.format.specs.Store.{pair, word_at}
use Rattle.store.specs.Block.{byte_place}

pub place_next : (j at : ℕ) → at ≡ byte_place j → at % 512 ≡ 506 → at + 8 ≡ byte_place (j + 1)
place_next j at e h =
    let m : at % 512 ≡ 2 + 2 * (j % 253) = omega arith in
    let r : j % 253 ≡ 252 = omega arith in
    let q : (j + 1) / 253 ≡ j / 253 + 1 = omega arith in
    omega arith

pub place_near : (j at : ℕ) → at ≡ byte_place j → (at % 512 ≡ 506 → ⊥) → at + 2 ≡ byte_place (j + 1)
place_near j at e h =
    let r : j % 253 < 252 = omega arith in
    let q : (j + 1) / 253 ≡ j / 253 = omega arith in
    omega arith

-- Both bytes of a word lie within the store.
pub place_within : (j at l : ℕ) → at ≡ byte_place j → l ≤ 8192 → j < 253 * (l / 512) → at + 1 < l
place_within j at l e p q =
    let b : j / 253 < l / 512 = omega arith in
    omega arith

-- The two bytes where word j begins are word j.
pub word_read : (s : List ℕ) (j at w : ℕ) → w ≡ pair s at → at ≡ byte_place j → w ≡ word_at s j
word_read s j at w e p = e ∙ ap (pair s) p
