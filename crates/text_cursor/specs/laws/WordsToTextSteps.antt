-- How one reading follows another, and what the next words make of one.
use Rattle.std.specs.Prelude.{◌≡◌, Bool, ℕ, suc, ◌+◌, ◌≤◌, ◌<◌, length, get_or, drop}
use Rattle.std.proofs.Math.Path.{refl, ap}
use Rattle.std.proofs.Common.{sym, subst, ◌∙◌, arith, add-one, length-drop, drop_of_length-le, drop-cons, le-leb, leb-true, leb-false}
use Rattle.std.proofs.Math.Bool.{true, false}
use mathlib.Core.List.{List, [], ◌∷◌, ◌++◌}
use Rattle.std.proofs.Math.Dec.{leb}
use Rattle.std.proofs.lemmas.Bool.{lt-leb}
use Rattle.meaning.specs.facts.Tests.{clash}
use Rattle.meaning.specs.Text.{Text}
use Rattle.text.specs.Buffer.{buffer, Wrote}
use Rattle.text.specs.laws.BufferLaws.{◌▸◌, of_text}
use Rattle.nesting.specs.decoding.Decode.{Decoded, decoded, nothing, next_word, decode_as}
use Rattle.text_cursor.specs.declared.cursor.SheetCursor.{SheetCursor}
use Rattle.text_cursor.specs.Lines.{TextReader}
use Rattle.text_cursor.specs.Texts.{say, ◌then◌}
use Rattle.text_cursor.specs.WordsToText.{words_from, reading, read_text, PutsText, PutsWithin, NextWord, Stopped}

pub from_inside : (ws : List ℕ) (at : ℕ) → at ≤ length ws → words_from ws at ≡ decoded tt (drop at ws)
unfolding words_from
from_inside ws at h = rw (le-leb at (length ws) h)

pub from_beyond : (ws : List ℕ) (at : ℕ) → length ws < at → words_from ws at ≡ nothing
unfolding words_from
from_beyond ws at h = rw (lt-leb at (length ws) h)

pub missing : {A : Type 0} {a : A} {ws : List ℕ} → nothing ≡ decoded a ws → ⊥
missing h = let z : ◌≡◌ {A = ℕ} 0 1 = cc in clash z

-- ---- one reading after another
pub record ThenParts (r q : TextReader) (x : Decoded Unit) (v : Text) (rest : List ℕ) : Type 0 where
  pub first : Text
  pub between : List ℕ
  pub second : Text
  pub read_first : reading r x ≡ decoded first between
  pub read_second : q between ≡ decoded second rest
  pub is : first ++ second ≡ v

module _ (r q : TextReader) where
  then_second : (t : Text) (y : Decoded Text) → read_text y ≡ read_text (next_word y λ u. decode_as (t ++ u))
  unfolding next_word
  then_second t (decoded u ws) = refl
  then_second t nothing = refl

  then_first : (y : Decoded Text)
      → read_text (reading q (read_text y)) ≡ read_text (next_word y λ t rest. next_word (q rest) λ u. decode_as (t ++ u))
  unfolding next_word
  then_first (decoded t rest) = then_second t (q rest)
  then_first nothing = refl

  then_forgets : (x : Decoded Unit) → read_text (reading q (read_text (reading r x))) ≡ read_text (reading (r then q) x)
  unfolding next_word ◌then◌
  then_forgets (decoded u ws) = then_first (r ws)
  then_forgets nothing = refl

  pub then_parts : (x : Decoded Unit) (v : Text) (rest : List ℕ) → reading (r then q) x ≡ decoded v rest → ThenParts r q x v rest
  unfolding next_word ◌then◌
  then_parts (decoded u ws) v rest h = by_first (r ws) refl h
    where
      by_second : (t : Text) (mid : List ℕ) → r ws ≡ decoded t mid → (z : Decoded Text) → q mid ≡ z
          → next_word z (λ u. decode_as (t ++ u)) ≡ decoded v rest → ThenParts r q (decoded u ws) v rest
      by_second t mid e (decoded w left) f g =
          record { first = t; between = mid; second = w; read_first = e; read_second = f ∙ cc; is = cc }
      by_second t mid e nothing f g = absurd (missing g)

      by_first : (y : Decoded Text) → r ws ≡ y → next_word y (λ t mid. next_word (q mid) λ u. decode_as (t ++ u)) ≡ decoded v rest
          → ThenParts r q (decoded u ws) v rest
      by_first (decoded t mid) e g = by_second t mid e (q mid) refl g
      by_first nothing e g = absurd (missing g)
  then_parts nothing v rest h = absurd (missing h)

module _ {ws before between after : List ℕ} {c d e : SheetCursor} {r q : TextReader} where
  pub puts_then : PutsText r ws c before between d → PutsText q ws d between after e → PutsText (r then q) ws c before after e
  unfolding next_word
  puts_then a b =
      record {
        words = b.words ∙ ap (λ x. read_text (reading q x)) a.words ∙ then_forgets r q (words_from ws c.at);
        bytes = λ {t} {rest} h.
            let p = then_parts r q (words_from ws c.at) t rest h in
            let there : words_from ws d.at ≡ decoded tt p.between = a.words ∙ ap read_text p.read_first in
            of_text p.is (a.bytes p.read_first ▸ b.bytes (ap (reading q) there ∙ p.read_second));
        ahead = omega (arith, a.ahead, b.ahead);
      }

-- A reader that reads the same there.
module _ {ws before after : List ℕ} {c d : SheetCursor} {r q : TextReader} where
  pub puts_there : (c.at ≤ length ws → r (drop c.at ws) ≡ q (drop c.at ws)) → PutsText r ws c before after d
      → PutsText q ws c before after d
  unfolding next_word
  puts_there h a =
      let e = at_place (leb c.at (length ws)) refl in
      record { words = a.words ∙ ap read_text e; bytes = λ g. a.bytes (e ∙ g); ahead = a.ahead }
    where
      at_place : (t : Bool) → leb c.at (length ws) ≡ t → reading r (words_from ws c.at) ≡ reading q (words_from ws c.at)
      at_place true t = rw (from_inside ws c.at (leb-true _ _ t)) (h (leb-true _ _ t))
      at_place false t = rw (from_beyond ws c.at (leb-false _ _ t))

  pub puts_as : ((ws : List ℕ) → r ws ≡ q ws) → PutsText r ws c before after d → PutsText q ws c before after d
  puts_as h a = puts_there (λ l. h (drop c.at ws)) a

-- The words left are a bound of themselves.
pub puts_any : (front : ℕ) (r : ℕ → TextReader) {ws before after : List ℕ} {c d : SheetCursor} → PutsWithin front r ws c before after d
    → PutsText (λ left. r (length left) left) ws c before after d
puts_any front r {ws} {c = c} p =
    let left = length (drop c.at ws) in
    puts_there {r = r left} (λ l. refl) (p left (rw length-drop (omega arith)))

-- A text for which no word is read.
pub puts_said : {ws before after : List ℕ} {c d : SheetCursor} {t : Text} → d.at ≡ c.at
    → Wrote (buffer before c.place) t (buffer after d.place) → PutsText (say t) ws c before after d
unfolding next_word
puts_said {ws} {before} {after} {c} {d} {t} same w =
    record {
      words = ap (words_from ws) same ∙ none_read (words_from ws c.at);
      bytes = λ h. of_text (said (words_from ws c.at) h) w;
      ahead = omega arith;
    }
  where
    none_read : (x : Decoded Unit) → x ≡ read_text (reading (say t) x)
    none_read (decoded tt rest) = refl
    none_read nothing = refl

    said : (x : Decoded Unit) {u : Text} {rest : List ℕ} → reading (say t) x ≡ decoded u rest → t ≡ u
    said (decoded tt left) h = cc
    said nothing h = absurd (missing h)

-- The next word, by which the rest is read.
pub puts_next : {ws before after : List ℕ} {at place : ℕ} {d : SheetCursor} {r q : TextReader} → at < length ws
    → ((rest : List ℕ) → r (get_or ws at 0 ∷ rest) ≡ q rest)
    → PutsText q ws (record { at = at + 1; place = place }) before after d
    → PutsText r ws (record { at = at; place = place }) before after d
unfolding next_word
puts_next {ws} {at = at} {r = r} {q} l h a =
    let here : words_from ws at ≡ decoded tt (get_or ws at 0 ∷ drop (at + 1) ws) =
    from_inside ws at (omega arith) ∙ ap (decoded tt) (rw add-one (drop-cons ws at 0 l)) in
    let e : reading r (words_from ws at) ≡ reading q (words_from ws (at + 1)) =
    ap (reading r) here ∙ h (drop (at + 1) ws) ∙ sym (ap (reading q) (from_inside ws (at + 1) (omega arith))) in
    record { words = a.words ∙ ap read_text (sym e); bytes = λ g. a.bytes (sym e ∙ g); ahead = omega (arith, a.ahead) }

-- The next three words.
pub puts_three : {ws before after : List ℕ} {at place : ℕ} {d : SheetCursor} {r q : TextReader} → at + 3 ≤ length ws
    → ((rest : List ℕ) → r (get_or ws at 0 ∷ get_or ws (at + 1) 0 ∷ get_or ws (at + 2) 0 ∷ rest) ≡ q rest)
    → PutsText q ws (record { at = at + 3; place = place }) before after d
    → PutsText r ws (record { at = at; place = place }) before after d
puts_three {ws} {at = at} l h a =
    let two : at + 1 + 1 ≡ at + 2 = omega arith in
    let three : at + 2 + 1 ≡ at + 3 = omega arith in
    puts_next (omega arith) (λ rest. refl)
    (puts_next (omega arith) (λ rest. refl) (rw two (puts_next (omega arith) h (rw three a))))

-- Nothing is read from words that are none for the reader.
module _ {ws before after : List ℕ} {c d : SheetCursor} {r : TextReader} where
  pub puts_none : (c.at ≤ length ws → r (drop c.at ws) ≡ nothing) → Stopped ws c d → PutsText r ws c before after d
  unfolding next_word
  puts_none h s =
      let e = by_place (leb c.at (length ws)) refl in
      record {
        words = from_beyond ws d.at s.beyond ∙ ap read_text (sym e);
        bytes = λ g. absurd (missing (sym e ∙ g));
        ahead = s.ahead;
      }
    where
      by_place : (t : Bool) → leb c.at (length ws) ≡ t → reading r (words_from ws c.at) ≡ nothing
      by_place true t = rw (from_inside ws c.at (leb-true _ _ t)) (h (leb-true _ _ t))
      by_place false t = rw (from_beyond ws c.at (leb-false _ _ t))

  -- The words are at their end.
  pub puts_ended : r [] ≡ nothing → length ws ≤ c.at → Stopped ws c d → PutsText r ws c before after d
  puts_ended h l s = puts_none (λ k. rw (drop_of_length-le ws {i = c.at} l) h) s

  -- The next word is none that may stand there.
  pub puts_refused : c.at < length ws → ((rest : List ℕ) → r (get_or ws c.at 0 ∷ rest) ≡ nothing) → Stopped ws c d
      → PutsText r ws c before after d
  puts_refused l h s = puts_none (λ k. rw (drop-cons ws c.at 0 l) (h (drop (suc c.at) ws))) s

-- The next word as the code reads it.
module _ {ws before after : List ℕ} {c d e : SheetCursor} {w : ℕ} {r : TextReader} (n : NextWord ws c w d) where
  pub puts_word : {q : TextReader} → ((rest : List ℕ) → r (w ∷ rest) ≡ q rest) → PutsText q ws d before after e
      → PutsText r ws c before after e
  puts_word {q} h a =
      puts_next n.inside (subst (λ v. (rest : List ℕ) → r (v ∷ rest) ≡ q rest) n.word h)
      (subst (λ p. PutsText q ws (record { at = c.at + 1; place = p }) before after e) n.place
      (subst (λ x. PutsText q ws (record { at = x; place = d.place }) before after e) n.at a))

  pub puts_no_word : ((rest : List ℕ) → r (w ∷ rest) ≡ nothing) → Stopped ws c e → PutsText r ws c before after e
  puts_no_word h s = puts_refused n.inside (subst (λ v. (rest : List ℕ) → r (v ∷ rest) ≡ nothing) n.word h) s

-- Beyond the end nothing is read any more.
pub puts_beyond : {ws bytes : List ℕ} {c : SheetCursor} {r : TextReader} → length ws < c.at → PutsText r ws c bytes bytes c
puts_beyond l = puts_none (λ k. absurd (omega arith)) (record { beyond = l; ahead = omega arith })
