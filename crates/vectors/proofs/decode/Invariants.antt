use mathlib.Core.Path.{◌≡◌}
use mathlib.Core.List.{◌++◌}
use Prim.Native.Nat.{◌*◌}
use lib.ListN.{length, take, drop}
use Rattle.vectors.specs.Parts.{hex_bytes}
use Rattle.vectors.proofs.decode.Given as goal

abbrev pub invariant-loop-n : goal.invariant-loop-n
invariant-loop-n l =
    (length l.bytes ≡ 32768) × (take l.n l.bytes ++ hex_bytes (drop (2 * l.n) l.digits) ≡ hex_bytes l.digits)
