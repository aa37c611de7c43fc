-- Bytes written as hexadecimal digits, two for each, 0 to 9 and a to f.
use Rattle.std.specs.Prelude.{List, [], ◌∷◌, ℕ, ◌+◌, ◌*◌, ◌-◌, ltb}
use Prim.Native.Char.{code}
use Prim.Native.String.{String}
use Rattle.meaning.specs.Lists.{pick}

abbrev digit : ℕ → ℕ
digit c = pick (ltb c 58) (c - 48) (c - 87)

unfoldable pub hex : String → List ℕ
hex String.[] = []
hex (String.◌∷◌ a String.[]) = []
hex (String.◌∷◌ a (String.◌∷◌ b s)) = (16 * digit (code a) + digit (code b)) ∷ hex s
