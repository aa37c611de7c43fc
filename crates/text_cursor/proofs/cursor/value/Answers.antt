use mathlib.Core.List.{List, [], ◌∷◌}
use mathlib.Core.Path.{◌≡◌, refl, subst}
use native.Mathlib.Omega.{arith}
use Prim.Native.Nat.{ℕ, ◌+◌, ◌-◌, ◌<◌}
use lib.ListN.{length, get_or, length-drop}
use Rattle.std.specs.List.{slice_range}
use Rattle.std.proofs.Common.{get_or-take, get_or-drop}
use Rattle.nesting.specs.decoding.Lines.{value_texts}
use Rattle.nesting.specs.decoding.Decode.{next_word}
use Rattle.text_cursor.specs.laws.Readers.{value_short}
use Rattle.text_cursor.specs.Lines.{shown}
use Rattle.text_cursor.specs.Texts.{say, value_text}
use Rattle.text_cursor.specs.laws.WordsToTextSteps.{puts_said, puts_three, puts_none}
use Rattle.text_cursor.proofs.cursor.value.Goals as goal

-- The words behind a place, by their own places.
word_behind : (ws rest : List ℕ) (at k j : ℕ) → rest ≡ slice_range ws at (length ws) → at + k ≡ j → j < length ws → get_or rest k 0 ≡ get_or ws j 0
word_behind ws rest at k j e s h =
    let few : k < length ws - at = omega arith in
    rw (e, get_or-take, get_or-drop, s) refl

value_shown : (x y z a b d : ℕ) → x ≡ a → y ≡ b → z ≡ d → (rest : List ℕ)
    → value_text (a ∷ b ∷ d ∷ rest) ≡ say (get_or (value_texts y z) x []) rest
unfolding shown next_word
value_shown x y z a b d p q r rest =
    let shown : ℕ → ℕ → ℕ → Type 0 = λ v w u. value_text (v ∷ w ∷ u ∷ rest) ≡ say (get_or (value_texts y z) x []) rest in
    subst (λ v. shown v b d) p (subst (λ v. shown x v d) q (subst (λ v. shown x y v) r refl))

pub returns-in_default : goal.returns-in_default
returns-in_default c = puts_none (λ l. value_short _ (rw length-drop (omega (arith, c.in_default.ensures.lookup.0)))) c.stop.ensures

pub returns-in_default-rest : goal.returns-in_default-rest
returns-in_default-rest c =
    let part = c.in-Some.ensures.lookup.0 in
    puts_none (λ l. value_short _ (rw length-drop (omega arith))) c.stop-in_default-rest.ensures

pub returns : goal.returns
returns c =
    let ws = c.args.words.now in
    let at = c.args.c.at in
    let rest = c.in-Some.rest.now in
    let part = c.in-Some.ensures.lookup.0 in
    let same : (k j : ℕ) → at + k ≡ j → j < length ws → get_or rest k 0 ≡ get_or ws j 0 = λ k j. word_behind ws rest at k j part.2 in
    puts_three (omega arith)
    (value_shown _ _ _ _ _ _ (same 0 at (omega arith) (omega arith)) (same 1 (at + 1) refl (omega arith)) (same 2 (at + 2) refl (omega arith)))
    (puts_said refl c.put_value-place.ensures)
