-- What is read of a list of vectors, byte by byte.
use Rattle.std.specs.Prelude.{◌≡◌, refl, Bool, true, false, List, [], ◌∷◌, ◌++◌, ℕ, ◌≤◌, length, take, eqb, ltb}
use Rattle.vectors.specs.declared.Tally.{Tally}
use Rattle.vectors.specs.declared.VectorReader.{VectorReader}
use Rattle.vectors.specs.Tally.{told_of}
use Rattle.vectors.specs.Parts.{hex_bytes}

-- The bytes of a vector so far, whether the next byte begins a line, and the tally of the vectors before.
pub record Reading : Type 0 where
  pub text : List ℕ
  pub fresh : Bool
  pub tally : Tally

-- A dot at the beginning of a line ends a vector.
abbrev pub ends_at : Bool → ℕ → Bool
ends_at true b = eqb b 46
ends_at false b = false

-- 65,536 bytes of a vector are kept.
abbrev pub kept_text : List ℕ → ℕ → List ℕ
kept_text text b = elim (ltb (length text) 65536) [ true ↦ text ++ (b ∷ []) | false ↦ text ]

abbrev pub keep_byte : Reading → ℕ → Reading
keep_byte r b = record { text = kept_text r.text b; fresh = eqb b 10; tally = r.tally }

-- `agrees` tells of a vector's text whether its listed answer is right.
unfoldable pub read_byte : (List ℕ → Bool) → Reading → ℕ → Reading
read_byte agrees r b =
    elim (ends_at r.fresh b) [
      | true ↦ record { text = []; fresh = false; tally = told_of r.tally (agrees r.text) }
      | false ↦ keep_byte r b
    ]

unfoldable pub read_bytes : (List ℕ → Bool) → Reading → List ℕ → Reading
unfolding read_byte
read_bytes agrees r [] = r
read_bytes agrees r (b ∷ bs) = read_bytes agrees (read_byte agrees r b) bs

-- A list that is read in two pieces is read whole.
pub in_pieces : (agrees : List ℕ → Bool) (r : Reading) (xs ys : List ℕ)
    → read_bytes agrees r (xs ++ ys) ≡ read_bytes agrees (read_bytes agrees r xs) ys
unfolding read_bytes
in_pieces agrees r [] ys = refl
in_pieces agrees r (x ∷ xs) ys = in_pieces agrees (read_byte agrees r x) xs ys

-- ---- what the code keeps
-- The bytes so far stand in front of an array.
abbrev pub reading_of : VectorReader → List ℕ → Reading
reading_of r text = record { text = take r.size text; fresh = r.fresh; tally = r.tally }

abbrev pub at_start : VectorReader
at_start = record { size = 0; fresh = false; tally = record { agree = 0; differ = 0 } }

-- More bytes of a list, from `before` to `after`.
pub record Reads (agrees : List ℕ → Bool) (r : VectorReader) (bs before after : List ℕ) (next : VectorReader) : Type 0 where
  pub reads : reading_of next after ≡ read_bytes agrees (reading_of r before) bs
  pub within : next.size ≤ 65536

pub record KeptSoFar (r : VectorReader) (b : ℕ) (before after : List ℕ) (next : VectorReader) : Type 0 where
  pub reads : reading_of next after ≡ keep_byte (reading_of r before) b
  pub within : r.size ≤ 65536 → next.size ≤ 65536

abbrev pub counted_of : VectorReader → Bool → VectorReader
counted_of r agreed = record { size = 0; fresh = false; tally = told_of r.tally agreed }

pub record Decodes (digits after : List ℕ) (n : ℕ) : Type 0 where
  pub within : n ≤ 32768
  pub room : length after ≡ 32768
  pub bytes : take n after ≡ hex_bytes digits
