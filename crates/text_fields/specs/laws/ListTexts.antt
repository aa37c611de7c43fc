-- A list's text, as the code writes it: the first field, then each other with a comma in front.
use Rattle.std.specs.Prelude.{◌≡◌, List, [], ◌∷◌, ◌++◌, map}
use Rattle.std.proofs.Math.Path.{refl}
use Rattle.std.proofs.Common.{ap, ◌∙◌, sub-one}
use Rattle.std.proofs.lemmas.Simd.{map-map}
use Prim.Native.Nat.{ℕ, zero, suc, ◌-◌}
use Rattle.meaning.specs.Text.{Text, ascii, decimal, joined, listed}
use Rattle.text.specs.Text.{text_of_each}
use Rattle.text.specs.laws.Lists.{other, joined_each}
use Rattle.nesting.specs.Sheet.{Field, a_number, joint, list}
use Rattle.nesting.specs.decoding.Lines.{value_field, item_field, condition_field, condition_fields}
use Rattle.nesting.specs.decoding.Decode.{WordReader, nothing, next_word, decode_as, decode_times, decode_list, decode_number, decode_value}
use Rattle.nesting.specs.decoding.Decode.{decode_item, decode_condition, parts}
use Rattle.nesting.specs.ShownForm.{Condition}
use Rattle.text_fields.specs.declared.fields.Field as declared
use Rattle.text_fields.specs.declared.fields.Field.TheVariants as field
use Rattle.text_cursor.specs.Lines.{TextReader, shown}
use Rattle.text_cursor.specs.Texts.{say, ◌then◌}
use Rattle.text_fields.specs.Fields.{field_within, list_within, none_text}
use Rattle.text_cursor.specs.laws.Readers.{next_next, next_decoded}

-- As many texts, each with a comma in front.
unfoldable pub others : TextReader → ℕ → TextReader
unfolding ◌then◌
others r zero = say []
others r (suc n) = say (ascii ",") then r then others r n

module _ {A : Type 0} (r : WordReader A) (show : A → Text) where
  others_shown : (n : ℕ) (ws : List ℕ)
      → others (shown show r) n ws ≡ next_word (decode_times r n ws) λ xs. decode_as (text_of_each (other show) xs)
  unfolding others shown ◌then◌ decode_times text_of_each
  others_shown zero ws = simp next_decoded
  others_shown (suc n) ws = simp (next_next, next_decoded, others_shown n)

  list_shown : (show_list : List A → Text) → ((x : A) (xs : List A) → show_list (x ∷ xs) ≡ show x ++ text_of_each (other show) xs)
      → (n : ℕ) (rest : List ℕ) → shown show_list (decode_list r) (suc n ∷ rest) ≡ (shown show r then others (shown show r) n) rest
  unfolding shown ◌then◌ decode_times
  list_shown show_list h n rest = simp (next_next, next_decoded, others_shown n, h)

-- A list's text where it is not empty.
module _ {A : Type 0} (w : A → Field) where
  joint_some : (x : A) (xs : List A) → (joint "," (map w (x ∷ xs))).text ≡ (w x).text ++ text_of_each (other (λ y. (w y).text)) xs
  joint_some x xs = ap (joined (ascii ",")) (map-map (λ f. f.text) w (x ∷ xs)) ∙ joined_each (λ y. (w y).text) x xs

  list_of_some : (x : A) (xs : List A) → (list (map w (x ∷ xs))).text ≡ (w x).text ++ text_of_each (other (λ y. (w y).text)) xs
  unfolding listed
  list_of_some x xs = joint_some x xs

parts_fields : (cs : List Condition) → condition_fields (parts cs) ≡ map condition_field cs
unfolding condition_field
parts_fields [] = refl
parts_fields (c ∷ cs) = ap (λ fs. condition_field c ∷ fs) (parts_fields cs)

some_parts : (c : Condition) (cs : List Condition) → (joint "," (condition_fields (parts (c ∷ cs)))).text
    ≡ (condition_field c).text ++ text_of_each (other (λ y. (condition_field y).text)) cs
some_parts c cs = ap (λ fs. (joint "," fs).text) (parts_fields (c ∷ cs)) ∙ joint_some condition_field c cs

module _ (depth : ℕ) where
  pub list_uncounted : (kind : declared.Field) → list_within depth kind [] ≡ nothing
  unfolding shown next_word
  list_uncounted field.Number = refl
  list_uncounted field.Value = refl
  list_uncounted field.Item = refl
  list_uncounted field.Condition = refl

  pub list_none : (kind : declared.Field) (rest : List ℕ) → list_within depth kind (0 ∷ rest) ≡ say (none_text kind) rest
  unfolding shown decode_times next_word listed joined condition_field
  list_none field.Number rest = refl
  list_none field.Value rest = refl
  list_none field.Item rest = refl
  list_none field.Condition rest = refl

  list_more : (kind : declared.Field) (n : ℕ) (rest : List ℕ)
      → list_within depth kind (suc n ∷ rest) ≡ (field_within depth kind then others (field_within depth kind) n) rest
  list_more field.Number = list_shown decode_number decimal _ (list_of_some a_number)
  list_more field.Value = list_shown decode_value (λ v. (value_field v).text) _ (list_of_some value_field)
  list_more field.Item = list_shown decode_item (λ i. (item_field i).text) _ (list_of_some item_field)
  list_more field.Condition = list_shown (decode_condition depth) (λ c. (condition_field c).text) _ some_parts

  pub list_some : (kind : declared.Field) (n : ℕ) → (n ≡ 0 → ⊥) → (rest : List ℕ)
      → list_within depth kind (n ∷ rest) ≡ (field_within depth kind then others (field_within depth kind) (n - 1)) rest
  list_some kind zero h rest = absurd (h refl)
  list_some kind (suc n) h rest = rw (sub-one (suc n)) (list_more kind n rest)
