-- The text of a line, field by field, as the code writes it.
use Rattle.std.specs.Prelude.{◌≡◌, refl, List, [], ◌∷◌, ◌++◌, ℕ, zero, suc, ◌≤◌, get_or}
use Rattle.std.proofs.Common.{append_assoc, arith, ne_eqb}
use Prim.Native.String.{String}
use Rattle.meaning.specs.Text.{Text, ascii, decimal, digits, joined}
use Rattle.nesting.specs.decoding.Decode.{nothing, next_word, decode_region, decode_block, decode_select, decode_loop, decode_exit}
use Rattle.nesting.specs.decoding.Decode.{decode_defer, decode_line, line_by}
use Rattle.text_cursor.specs.Lines.{TextReader, shown, fields_text, line_text, decode_first, first_text}
use Rattle.text_cursor.specs.Texts.{say, ◌then◌, number_text, skip_text, either_text, target_text, kind_text}
use Rattle.text_fields.specs.Fields.{field_text, list_text}
use Rattle.text_cursor.specs.Texts.{outcome_text, twice_text}
use Rattle.text_cursor.specs.laws.Readers.{next_next, next_decoded}
use Rattle.text_fields.specs.declared.fields.Field.{Field}
use Rattle.text_fields.specs.declared.fields.Field.TheVariants.{Number, Value, Item, Condition}

abbrev pub labeled : String → Field → TextReader
labeled s k = say (ascii s) then field_text k

abbrev pub listed : String → Field → TextReader
listed s k = say (ascii s) then list_text k

pub region_shown : (ws : List ℕ)
    → (labeled "region " Number then listed " in " Number then listed " kids " Number then listed " out " Value) ws
    ≡ shown fields_text decode_region ws
unfolding shown ◌then◌ joined
region_shown ws = simp (next_next, next_decoded, append_assoc)

pub block_shown : (ws : List ℕ) → (labeled "block " Number then listed " " Item) ws ≡ shown fields_text decode_block ws
unfolding shown ◌then◌ joined
block_shown ws = simp (next_next, next_decoded, append_assoc)

pub kind_shown : (ws : List ℕ) → either_text (ascii " bool") (ascii " num") ws ≡ kind_text ws
unfolding shown next_word
kind_shown [] = refl
kind_shown (zero ∷ ws) = refl
kind_shown (suc zero ∷ ws) = refl
kind_shown (suc (suc k) ∷ ws) = refl

select_joined : (n k v rs ts : Text)
    → joined (ascii " ") (ascii "select" ∷ n ∷ k ∷ v ∷ ascii "cases" ∷ rs ∷ ascii "out" ∷ ts ∷ [])
    ≡ ascii "select " ++ (n ++ (ascii " " ++ (k ++ (ascii " " ++ (v ++ (ascii " cases " ++ (rs ++ (ascii " out " ++ ts))))))))
unfolding joined
select_joined n k v rs ts = simp append_assoc

pub select_shown : (ws : List ℕ)
    → (labeled "select " Number then kind_text then labeled " " Value then listed " cases " Number then listed " out " Number) ws
    ≡ shown fields_text decode_select ws
unfolding shown ◌then◌
select_shown ws = simp (next_next, next_decoded, append_assoc, select_joined)

pub loop_shown : (ws : List ℕ)
    → (labeled "loop " Number then listed " in " Value then labeled " body " Number then labeled " repeat " Value) ws
    ≡ shown fields_text decode_loop ws
unfolding shown ◌then◌ joined
loop_shown ws = simp (next_next, next_decoded, append_assoc)

pub exit_shown : (ws : List ℕ)
    → (labeled "exit " Number then labeled " " Number then listed " in " Value) ws ≡ shown fields_text decode_exit ws
unfolding shown ◌then◌ joined
exit_shown ws = simp (next_next, next_decoded, append_assoc)

pub number_target : (ws : List ℕ) → (get_or ws 0 0 ≡ 65535 → ⊥) → number_text ws ≡ target_text ws
unfolding shown next_word
number_target [] h = refl
number_target (r ∷ ws) h = rw (ne_eqb r 65535 h)

pub defer_shown : (ws : List ℕ)
    → (labeled "defer " Number then say (ascii " to ") then target_text then labeled " count " Number then listed " in " Value
    then labeled " if " Condition) ws ≡ shown fields_text decode_defer ws
unfolding shown ◌then◌ joined
defer_shown ws = simp (next_next, next_decoded, append_assoc)

pub no_words : shown line_text decode_line [] ≡ nothing
unfolding shown next_word
no_words = refl

pub line_shown : (lead : ℕ) (ws : List ℕ)
    → (shown fields_text (line_by lead) then say (ascii "\n")) ws ≡ shown line_text decode_line (lead ∷ ws)
unfolding shown ◌then◌
line_shown lead ws = simp (next_next, next_decoded)

pub no_line : (lead : ℕ) → 6 ≤ lead → (ws : List ℕ) → shown fields_text (line_by lead) ws ≡ nothing
unfolding shown next_word
no_line zero h ws = absurd (omega arith)
no_line (suc zero) h ws = absurd (omega arith)
no_line (suc (suc zero)) h ws = absurd (omega arith)
no_line (suc (suc (suc zero))) h ws = absurd (omega arith)
no_line (suc (suc (suc (suc zero)))) h ws = absurd (omega arith)
no_line (suc (suc (suc (suc (suc zero))))) h ws = absurd (omega arith)
no_line (suc (suc (suc (suc (suc (suc lead)))))) h ws = refl

-- ---- line 1
pub untouched_shown : (ws : List ℕ) → outcome_text (0 ∷ ws) ≡ (skip_text then say (ascii "untouched figure -")) ws
unfolding shown ◌then◌ next_word
untouched_shown [] = refl
untouched_shown (f ∷ ws) = refl

pub whole_shown : (ws : List ℕ) → outcome_text (1 ∷ ws) ≡ labeled "whole figure " Number ws
unfolding shown ◌then◌ next_word
whole_shown [] = refl
whole_shown (f ∷ ws) = refl

pub closed_shown : (ws : List ℕ) → outcome_text (2 ∷ ws) ≡ labeled "closed figure " Number ws
unfolding shown ◌then◌ next_word
closed_shown [] = refl
closed_shown (f ∷ ws) = refl

pub leftover_shown : (ws : List ℕ) → outcome_text (3 ∷ ws) ≡ (skip_text then say (ascii "leftover figure -")) ws
unfolding shown ◌then◌ next_word
leftover_shown [] = refl
leftover_shown (f ∷ ws) = refl

pub no_outcome : (w : ℕ) → 4 ≤ w → (ws : List ℕ) → outcome_text (w ∷ ws) ≡ nothing
unfolding next_word
no_outcome zero h ws = absurd (omega arith)
no_outcome (suc zero) h ws = absurd (omega arith)
no_outcome (suc (suc zero)) h ws = absurd (omega arith)
no_outcome (suc (suc (suc zero))) h ws = absurd (omega arith)
no_outcome (suc (suc (suc (suc w)))) h ws = refl

pub twice_shown : (ws : List ℕ) → either_text (ascii " twice 0\n") (ascii " twice 1\n") ws ≡ twice_text ws
unfolding shown next_word decimal digits
twice_shown [] = refl
twice_shown (zero ∷ ws) = refl
twice_shown (suc zero ∷ ws) = refl
twice_shown (suc (suc k) ∷ ws) = refl

pub no_first : shown first_text decode_first [] ≡ nothing
unfolding shown next_word
no_first = refl

pub first_shown : (ws : List ℕ) → (outcome_text then labeled " attempts " Number then twice_text) ws ≡ shown first_text decode_first ws
unfolding shown ◌then◌ joined
first_shown ws = simp (next_next, next_decoded, append_assoc)
