-- What the readers make of the next words.
use Rattle.std.specs.Prelude.{◌≡◌, refl, List, [], ◌∷◌, ℕ, zero, suc, ◌≤◌, ◌<◌, length, get_or}
use Rattle.std.proofs.Common.{arith}
use Rattle.std.proofs.Math.ListN.{get_or-eq_default}
use Rattle.meaning.specs.Text.{Text}
use Rattle.nesting.specs.decoding.Lines.{value_texts}
use Rattle.nesting.specs.decoding.Decode.{Decoded, decoded, nothing, WordReader, next_word}
use Rattle.text_cursor.specs.Lines.{shown}
use Rattle.text_cursor.specs.Texts.{value_text, either_by, plain_by}

-- A reading that goes on with what another goes on with.
pub next_next : {A B C : Type 0} (x : Decoded A) (f : A → WordReader B) (g : B → WordReader C)
    → next_word (next_word x f) g ≡ next_word x λ a ws. next_word (f a ws) g
unfolding next_word
next_next (decoded a ws) f g = refl
next_next nothing f g = refl

pub next_decoded : {A B : Type 0} (a : A) (ws : List ℕ) (f : A → WordReader B) → next_word (decoded a ws) f ≡ f a ws
unfolding next_word
next_decoded a ws f = refl

pub either_none : (z o : Text) (w : ℕ) → (w ≡ 0 → ⊥) → (w ≡ 1 → ⊥) → (rest : List ℕ) → either_by z o w rest ≡ nothing
either_none z o zero a b rest = absurd (a refl)
either_none z o (suc zero) a b rest = absurd (b refl)
either_none z o (suc (suc w)) a b rest = refl

pub value_short : (ws : List ℕ) → length ws < 3 → value_text ws ≡ nothing
unfolding shown next_word
value_short [] h = refl
value_short (k ∷ []) h = refl
value_short (k ∷ r ∷ []) h = refl
value_short (k ∷ r ∷ i ∷ ws) h = absurd (omega arith)

pub value_other : (r k kind : ℕ) → 6 ≤ kind → get_or (value_texts r k) kind [] ≡ []
value_other r k kind h = get_or-eq_default (value_texts r k) [] {n = kind} h

pub plain_none : (w : ℕ) → (w ≡ 1 → ⊥) → (w ≡ 2 → ⊥) → (w ≡ 3 → ⊥) → (rest : List ℕ) → plain_by w rest ≡ nothing
plain_none zero a b c rest = refl
plain_none (suc zero) a b c rest = absurd (a refl)
plain_none (suc (suc zero)) a b c rest = absurd (b refl)
plain_none (suc (suc (suc zero))) a b c rest = absurd (c refl)
plain_none (suc (suc (suc (suc w)))) a b c rest = refl
