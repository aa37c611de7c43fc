-- Text as a list of bytes: ASCII literals, numbers in base ten, lists joined by commas (document 01, "The printed sheet").
use Rattle.std.specs.Prelude.{true, false, List, [], ◌∷◌, ◌++◌, map, ℕ, zero, suc, ◌+◌, ◌/◌, ◌%◌, ltb}
use Prim.Native.Char.{code}
use Prim.Native.String.{String}

abbrev pub Text : Type 0
Text = List ℕ

abbrev pub ascii : String → Text
ascii String.[] = []
ascii (String.◌∷◌ c s) = code c ∷ ascii s

-- `fuel` is no less than the number of digits.
unfoldable pub digits : ℕ → ℕ → Text
digits zero n = []
digits (suc fuel) n = elim (ltb n 10) [ true ↦ (48 + n) ∷ [] | false ↦ digits fuel (n / 10) ++ ((48 + n % 10) ∷ []) ]

unfoldable pub decimal : ℕ → Text
unfolding digits
decimal n = digits (suc n) n

unfoldable pub joined : Text → List Text → Text
joined sep [] = []
joined sep (x ∷ []) = x
joined sep (x ∷ y ∷ ys) = x ++ sep ++ joined sep (y ∷ ys)

-- Document 01's lists: joined by commas, `-` if empty.
unfoldable pub listed : {A : Type 0} → (A → Text) → List A → Text
unfolding joined
listed show [] = ascii "-"
listed show (x ∷ xs) = joined (ascii ",") (map show (x ∷ xs))
