-- A number of bytes within a buffer counts bytes at its start.
use Rattle.std.specs.Prelude.{List, ℕ, ◌≤◌, length}
use Rattle.std.proofs.Common.{arith, length-take}
use Rattle.streams.specs.Sizes.{IsPrefixLen}

pub counted : (n : ℕ) (l : List ℕ) → n ≤ length l → IsPrefixLen n l
counted n l h = (h, (let e = length-take n l in omega arith))
