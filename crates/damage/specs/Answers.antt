-- Answers in two bytes, and when one is the listed one.
use Rattle.std.specs.Prelude.{Bool, ◌&&◌, List, [], ◌∷◌, ℕ, ◌+◌, ◌*◌, ◌/◌, ◌%◌, length, get_or, take, eqb, ltb}
use Rattle.meaning.specs.Graph.{Graph}
use Rattle.format.specs.Store.{Answer, accepted, refused}
use Rattle.format.specs.Accept.{accept}
use Rattle.text_parts.specs.Listing.{listing_of}
use Rattle.damage.specs.Changes.{bit_changed}
use Rattle.damage.specs.declared.answers.Brief.{Brief}

unfoldable pub sum_from : ℕ → List ℕ → ℕ
sum_from n [] = n
sum_from n (b ∷ bs) = sum_from ((n + b) % 256) bs

abbrev pub brief : Answer Graph → Brief
brief (refused n w) = record { number = n; word = w }
brief (accepted g) = record { number = 0; word = sum_from 0 (listing_of g) }

-- The two bytes at place k of the list.
abbrev pub is_listed : Brief → List ℕ → ℕ → Bool
is_listed a answers k =
    ltb k (length answers / 2) && (eqb (get_or answers (2 * k) 0) a.number && eqb (get_or answers (2 * k + 1) 0) a.word)

-- Whether the answer to a store is the one at place k.
abbrev pub as_listed : List ℕ → List ℕ → ℕ → Bool
as_listed s answers k = is_listed (brief (accept s)) answers k

-- Bit k of those from `from` on changed, of a block.
abbrev pub bit_right : Bool → List ℕ → List ℕ → ℕ → ℕ → Bool
bit_right right_check block answers from k = as_listed (bit_changed right_check block (from + k)) answers k

-- The first n bytes.
abbrev pub length_as_listed : List ℕ → List ℕ → ℕ → Bool
length_as_listed bytes answers n = as_listed (take n bytes) answers n
