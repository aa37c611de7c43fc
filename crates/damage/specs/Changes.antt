-- Changes of a store of one block.
use Rattle.std.specs.Prelude.{Bool, true, false, List, ℕ, ◌/◌, ◌%◌, ◌^◌, get_or, set}
use Rattle.std.specs.Int.Bits.{bit_xor}
use Rattle.format.specs.Store.{weighted}

abbrev pub flipped : List ℕ → ℕ → List ℕ
flipped s bit = set s (bit / 8) (bit_xor (get_or s (bit / 8) 0) (2 ^ (bit % 8)))

-- The check of the first 508 bytes in the last four, lowest byte first.
abbrev pub mended : List ℕ → List ℕ
mended s =
    let check = weighted s 0 508 in
    set (set (set (set s 508 (check % 256)) 509 (check / 256 % 256)) 510 (check / 65536 % 256)) 511 (check / 16777216)

abbrev pub bit_changed : Bool → List ℕ → ℕ → List ℕ
bit_changed true s bit = mended (flipped s bit)
bit_changed false s bit = flipped s bit
