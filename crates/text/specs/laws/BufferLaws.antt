-- What is put after what was put; a place beyond the end.
use Rattle.std.specs.Prelude.{◌≡◌, refl, List, [], ◌∷◌, ◌++◌, ℕ, ◌+◌, ◌<◌, length, set}
use Rattle.std.proofs.Common.{sym, ap, subst, ◌∙◌, arith, le-leb}
use Rattle.std.proofs.Math.Seq.{set_out}
use Rattle.std.proofs.lemmas.Bool.{lt-leb}
use Rattle.text.specs.Buffer.{Buffer, buffer, put_byte_at, puts, Wrote}

puts_append : (o : Buffer) (t u : List ℕ) → puts o (t ++ u) ≡ puts (puts o t) u
unfolding puts
puts_append o [] u = refl
puts_append o (b ∷ t) u = puts_append (put_byte_at o b) t u

pub wrote_none : {o : Buffer} → Wrote o [] o
unfolding puts
wrote_none = record { is = refl }

pub wrote_byte : (o : Buffer) (b : ℕ) → Wrote o (b ∷ []) (put_byte_at o b)
unfolding puts
wrote_byte o b = record { is = refl }

-- A part of a text was written, then the rest of it.
infixl 30 ◌▸◌
pub ◌▸◌ : {o p q : Buffer} {t u : List ℕ} → Wrote o t p → Wrote p u q → Wrote o (t ++ u) q
◌▸◌ {o} {t = t} {u} a b = record { is = b.is ∙ ap (λ x. puts x u) a.is ∙ sym (puts_append o t u) }

pub of_text : {o p : Buffer} {t u : List ℕ} → t ≡ u → Wrote o t p → Wrote o u p
of_text {o} {p} e w = subst (λ x. Wrote o x p) e w

pub put_inside : (bytes : List ℕ) (at b : ℕ) → at < length bytes → Wrote (buffer bytes at) (b ∷ []) (buffer (set bytes at b) (at + 1))
put_inside bytes at b h = rw (le-leb at (length bytes) (omega arith)) at (wrote_byte (buffer bytes at) b)

pub put_end : (bytes : List ℕ) (at b : ℕ) → length bytes ≡ at → Wrote (buffer bytes at) (b ∷ []) (buffer bytes (at + 1))
put_end bytes at b h = rw (le-leb at (length bytes) (omega arith), set_out bytes at b (omega arith)) at (wrote_byte (buffer bytes at) b)

pub put_beyond : (bytes : List ℕ) (at b : ℕ) → length bytes < at → Wrote (buffer bytes at) (b ∷ []) (buffer bytes at)
put_beyond bytes at b h = rw (lt-leb at (length bytes) h, set_out bytes at b (omega arith)) at (wrote_byte (buffer bytes at) b)
