-- Lists written item by item: the first, then each other with a comma in front.
use Rattle.std.specs.Prelude.{◌≡◌, ℕ, ◌+◌, ◌≤◌, ◌<◌, length, get_or, drop}
use Rattle.std.proofs.Math.Path.{refl, sym, ap}
use Rattle.std.proofs.Common.{◌∙◌, arith, drop_of_length-le, drop-cons}
use mathlib.Core.List.{List, [], ◌∷◌, ◌++◌, map, append-nil, append_assoc}
use Rattle.std.proofs.Math.Numerals.{add-one}
use Rattle.meaning.specs.Text.{Text, ascii, joined, listed}
use Rattle.text.specs.Text.{text_of_each}
use Rattle.text.specs.Buffer.{Buffer, Wrote}
use Rattle.text.specs.laws.BufferLaws.{◌▸◌, of_text, wrote_none}

module _ {A : Type 0} (show : A → Text) where
  -- An item that is not the first.
  abbrev pub other : A → Text
  other x = ascii "," ++ show x

  pub joined_each : (x : A) (xs : List A) → joined (ascii ",") (map show (x ∷ xs)) ≡ show x ++ text_of_each other xs
  unfolding joined text_of_each
  joined_each x [] = sym (append-nil (show x))
  joined_each x (y ∷ ys) =
      ap (λ l. show x ++ ascii "," ++ l) (joined_each y ys) ∙ append_assoc (show x) (ascii ",") (show y ++ text_of_each other ys)

  listed_some : (d : A) (xs : List A) → 0 < length xs → show (get_or xs 0 d) ++ text_of_each other (drop 1 xs) ≡ listed show xs
  unfolding listed
  listed_some d [] h = absurd (omega arith)
  listed_some d (x ∷ xs) h = sym (joined_each x xs)

  listed_none : (xs : List A) → length xs ≡ 0 → ascii "-" ≡ listed show xs
  unfolding listed
  listed_none [] h = refl
  listed_none (x ∷ xs) h = absurd (omega arith)

  -- An empty list.
  pub wrote_empty : {o p : Buffer} (xs : List A) → length xs ≡ 0 → Wrote o (ascii "-") p → Wrote o (listed show xs) p
  wrote_empty xs h a = of_text (listed_none xs h) a

  -- The first item, then the others.
  pub wrote_listed : {o p q : Buffer} (d : A) (xs : List A) → 0 < length xs → Wrote o (show (get_or xs 0 d)) p
      → Wrote p (text_of_each other (drop 1 xs)) q → Wrote o (listed show xs) q
  wrote_listed d xs h a b = of_text (listed_some d xs h) (a ▸ b)

  -- Item k, then those behind it.
  pub wrote_next : {o p q : Buffer} (d : A) (xs : List A) (k : ℕ) → k < length xs → Wrote o (show (get_or xs k d)) p
      → Wrote p (text_of_each show (drop (k + 1) xs)) q → Wrote o (text_of_each show (drop k xs)) q
  unfolding text_of_each
  wrote_next d xs k h a b =
      let next : text_of_each show (drop k xs) ≡ show (get_or xs k d) ++ text_of_each show (drop (k + 1) xs) =
      rw add-one (ap (text_of_each show) (drop-cons xs k d h)) in
      of_text (sym next) (a ▸ b)

  -- No item is left.
  pub wrote_all : {o : Buffer} (xs : List A) (k : ℕ) → length xs ≤ k → Wrote o (text_of_each show (drop k xs)) o
  unfolding text_of_each
  wrote_all xs k h = of_text (sym (ap (text_of_each show) (drop_of_length-le xs {i = k} h))) wrote_none
