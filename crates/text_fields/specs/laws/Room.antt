-- Sixteen bytes for each word are enough for what is printed of it.
use Rattle.std.specs.Prelude.{◌≡◌, refl, Bool, true, false, List, [], ◌∷◌, ℕ, zero, suc, ◌+◌, ◌*◌, ◌-◌, ◌≤◌, ◌<◌, length, get_or, eqb}
use Rattle.std.proofs.Common.{sym, subst, ◌∙◌, arith, length-append, eqb-true}
use Rattle.std.proofs.lemmas.Bool.{eqb-false}
use Rattle.meaning.specs.Lists.{pick}
use Rattle.meaning.specs.Text.{Text, ascii, decimal, joined}
use Rattle.text.specs.laws.Lengths.{ten_digits}
use Rattle.nesting.specs.decoding.Lines.{value_texts}
use Rattle.nesting.specs.decoding.Decode.{decoded, nothing, next_word, decode_condition}
use Rattle.text_fields.specs.declared.fields.Field.{Field}
use Rattle.text_fields.specs.declared.fields.Field.TheVariants.{Number, Value, Item, Condition}
use Rattle.text_cursor.specs.Lines.{TextReader, shown}
use Rattle.text_cursor.specs.Texts.{say, ◌then◌, number_text, value_text, skip_text, plain_by}
use Rattle.text_fields.specs.Fields.{field_within, list_within, merge_head}
use Rattle.text_cursor.specs.Texts.{plain_text}
use Rattle.text_fields.specs.Fields.{condition_text, none_text}
use Rattle.text_cursor.specs.laws.WordsToTextSteps.{missing, then_parts}
use Rattle.text_fields.specs.laws.ListTexts.{others, list_uncounted, list_none, list_some}
use Rattle.text_fields.specs.laws.FieldTexts.{item_shown, merge_shown, plain_shown}

-- Words of 32 bits.
abbrev pub WordsOf32Bits : List ℕ → Type 0
WordsOf32Bits ws = (k : ℕ) → get_or ws k 0 < 4294967296

pub record Fit (gain need : ℕ) (ws : List ℕ) (t : Text) (rest : List ℕ) : Type 0 where
  pub bytes : length t + gain + 16 * length rest ≤ need + 16 * length ws
  pub small : WordsOf32Bits rest

-- Sixteen bytes for each word that is read are `gain` more than the text has, once `need` are added.
pub record Fits (gain need : ℕ) (r : TextReader) : Type 0 where
  pub few : (ws : List ℕ) → WordsOf32Bits ws → (t : Text) (rest : List ℕ) → r ws ≡ decoded t rest → Fit gain need ws t rest

module _ {gain need : ℕ} {r : TextReader} (f : Fits gain need r) where
  pub fits_as : {q : TextReader} → ((ws : List ℕ) → r ws ≡ q ws) → Fits gain need q
  fits_as h = record { few = λ ws s t rest e. f.few ws s t rest (h ws ∙ e) }

  pub fits_less : (gain' need' : ℕ) → need + gain' ≤ need' + gain → Fits gain' need' r
  fits_less gain' need' l =
      record { few = λ ws s t rest e. let x = f.few ws s t rest e in record { bytes = omega (arith, x.bytes); small = x.small } }

pub fits_say : (t : Text) → Fits 0 (length t) (say t)
fits_say t = record {
  few = λ ws s u rest e.
      let text : u ≡ t = cc in
      let same : ws ≡ rest = cc in
      record { bytes = rw (text, same) (omega arith); small = subst WordsOf32Bits same s };
}

pub fits_then : {g n h m : ℕ} {r q : TextReader} → Fits g n r → Fits h m q → Fits (g + h) (n + m) (r then q)
unfolding next_word
fits_then {r = r} {q} a b = record {
  few = λ ws s t rest e.
      let p = then_parts r q (decoded tt ws) t rest e in
      let x = a.few ws s p.first p.between p.read_first in
      let y = b.few p.between x.small p.second rest p.read_second in
      record { bytes = rw (← p.is, length-append) (omega (arith, x.bytes, y.bytes)); small = y.small };
}

-- The next word is read, and gives a text of so many bytes.
pub fits_word : (most : ℕ) (r : TextReader) → r [] ≡ nothing
    → ((w : ℕ) (ws : List ℕ) → w < 4294967296 → (t : Text) (rest : List ℕ) → r (w ∷ ws) ≡ decoded t rest → (length t ≤ most) × (rest ≡ ws))
    → Fits 16 most r
fits_word most r none read = record { few = by_words }
  where
    by_words : (ws : List ℕ) → WordsOf32Bits ws → (t : Text) (rest : List ℕ) → r ws ≡ decoded t rest → Fit 16 most ws t rest
    by_words [] s t rest e = absurd (missing (sym none ∙ e))
    by_words (w ∷ ws) s t rest e =
        let x = read w ws (s 0) t rest e in
        record { bytes = rw x.1 (omega (arith, x.0)); small = subst WordsOf32Bits (sym x.1) λ k. s (suc k) }

pub fits_number : Fits 16 10 number_text
unfolding shown next_word
fits_number = fits_word 10 number_text refl λ w ws l t rest e.
    let text : t ≡ decimal w = cc in
    let same : rest ≡ ws = cc in
    (rw text (ten_digits w l), same)

pub fits_skip : Fits 16 0 skip_text
unfolding shown next_word
fits_skip = fits_word 0 skip_text refl λ w ws l t rest e.
    let text : t ≡ [] = cc in
    let same : rest ≡ ws = cc in
    (rw text (omega arith), same)

-- A value has two numbers at most, a letter and a dot.
value_bytes : (k r i : ℕ) → r < 4294967296 → i < 4294967296 → length (get_or (value_texts r i) k []) ≤ 22
unfolding joined
value_bytes zero r i p q = omega (arith, ten_digits i q)
value_bytes (suc zero) r i p q = simp length-append (omega (arith, ten_digits r p, ten_digits i q))
value_bytes (suc (suc zero)) r i p q = simp length-append (omega (arith, ten_digits r p, ten_digits i q))
value_bytes (suc (suc (suc zero))) r i p q = simp length-append (omega (arith, ten_digits r p, ten_digits i q))
value_bytes (suc (suc (suc (suc zero)))) r i p q = by_index (eqb i 1)
  where
    by_index : (b : Bool) → length (pick b (ascii "true") (ascii "false")) ≤ 22
    by_index true = omega arith
    by_index false = omega arith
value_bytes (suc (suc (suc (suc (suc zero))))) r i p q = omega (arith, ten_digits i q)
value_bytes (suc (suc (suc (suc (suc (suc k)))))) r i p q = omega arith

fits_value : Fits 48 22 value_text
unfolding shown next_word
fits_value = record { few = by_words }
  where
    by_words : (ws : List ℕ) → WordsOf32Bits ws → (t : Text) (rest : List ℕ) → value_text ws ≡ decoded t rest → Fit 48 22 ws t rest
    by_words [] s t rest e = absurd (missing e)
    by_words (k ∷ []) s t rest e = absurd (missing e)
    by_words (k ∷ r ∷ []) s t rest e = absurd (missing e)
    by_words (k ∷ r ∷ i ∷ ws) s t rest e =
        let text : t ≡ get_or (value_texts r i) k [] = cc in
        let same : ws ≡ rest = cc in
        record {
          bytes = rw (text, ← same) (omega (arith, value_bytes k r i (s 1) (s 2)));
          small = subst WordsOf32Bits same λ n. s
              (suc (suc (suc n)));
        }

-- Each other field of a list has its comma.
fits_others : {r : TextReader} → Fits 1 0 r → (n : ℕ) → Fits 0 0 (others r n)
unfolding others
fits_others f zero = fits_say []
fits_others f (suc n) = fits_less (fits_then (fits_say (ascii ",")) (fits_then f (fits_others f n))) 0 0 (omega arith)

none_bytes : (kind : Field) → length (none_text kind) ≤ 1
none_bytes Number = omega arith
none_bytes Value = omega arith
none_bytes Item = omega arith
none_bytes Condition = omega arith

pub fits_list : (depth : ℕ) (kind : Field) → Fits 1 0 (field_within depth kind) → Fits 15 0 (list_within depth kind)
fits_list depth kind f = record { few = by_words }
  where
    by_words : (ws : List ℕ) → WordsOf32Bits ws → (t : Text) (rest : List ℕ) → list_within depth kind ws ≡ decoded t rest
        → Fit 15 0 ws t rest
    by_words [] s t rest e = absurd (missing (sym (list_uncounted depth kind) ∙ e))
    by_words (zero ∷ ws) s t rest e =
        let x = (fits_say (none_text kind)).few ws (λ k. s (suc k)) t rest (sym (list_none depth kind ws) ∙ e) in
        record { bytes = omega (arith, x.bytes, none_bytes kind); small = x.small }
    by_words (suc n ∷ ws) s t rest e =
        let x = (fits_then f (fits_others f (suc n - 1))).few ws (λ k. s (suc k)) t rest
        (sym (list_some depth kind (suc n) (λ z. omega arith) ws) ∙ e) in
        record { bytes = omega (arith, x.bytes); small = x.small }

fits_plain : Fits 16 1 plain_text
unfolding next_word
fits_plain = fits_word 1 plain_text refl λ w ws l. by_word w ws
  where
    by_word : (w : ℕ) (ws : List ℕ) (t : Text) (rest : List ℕ) → plain_by w ws ≡ decoded t rest → (length t ≤ 1) × (rest ≡ ws)
    by_word zero ws t rest e = absurd (missing e)
    by_word (suc zero) ws t rest e = let text : t ≡ ascii "t" = cc in (rw text (omega arith), cc)
    by_word (suc (suc zero)) ws t rest e = let text : t ≡ ascii "f" = cc in (rw text (omega arith), cc)
    by_word (suc (suc (suc zero))) ws t rest e = let text : t ≡ ascii "u" = cc in (rw text (omega arith), cc)
    by_word (suc (suc (suc (suc w)))) ws t rest e = absurd (missing e)

-- A condition, by one that its parts fit.
fits_parts : (depth : ℕ) → Fits 1 0 (condition_text depth) → Fits 1 0 (condition_text (suc depth))
fits_parts depth f = record { few = λ ws s t rest e. by_lead ws s t rest e (eqb (get_or ws 0 0) 4) refl }
  where
    merged : Fits 1 0 (merge_head then list_within depth Condition then say (ascii "]"))
    merged =
        let head = fits_then fits_skip (fits_then (fits_say (ascii "m")) (fits_then fits_number (fits_say (ascii "[")))) in
        fits_less (fits_then head (fits_then (fits_list depth Condition f) (fits_say (ascii "]")))) 1 0 (omega arith)

    by_lead : (ws : List ℕ) → WordsOf32Bits ws → (t : Text) (rest : List ℕ) → condition_text (suc depth) ws ≡ decoded t rest → (b : Bool)
        → eqb (get_or ws 0 0) 4 ≡ b → Fit 1 0 ws t rest
    by_lead ws s t rest e true is = merged.few ws s t rest (merge_shown depth ws (eqb-true _ _ is) ∙ e)
    by_lead ws s t rest e false is =
        (fits_less fits_plain 1 0 (omega arith)).few ws s t rest (plain_shown depth ws (eqb-false _ _ is) ∙ e)

pub fits_field : (depth : ℕ) (kind : Field) → Fits 1 0 (field_within depth kind)
unfolding shown next_word decode_condition
fits_field depth Number = fits_less fits_number 1 0 (omega arith)
fits_field depth Value = fits_less fits_value 1 0 (omega arith)
fits_field depth Item =
    let reads = fits_list depth Value (fits_less fits_value 1 0 (omega arith)) in
    let slash = fits_say (ascii "/") in
    let type = fits_then fits_number slash in
    let opcode = fits_then fits_number (fits_then slash type) in
    let head = fits_then fits_number (fits_then (fits_say (ascii ".")) (fits_then fits_number (fits_then slash opcode))) in
    fits_as (fits_less (fits_then head reads) 1 0 (omega arith)) (item_shown depth)
fits_field zero Condition = record { few = λ ws s t rest e. absurd (missing e) }
fits_field (suc depth) Condition = fits_parts depth (fits_field depth Condition)
