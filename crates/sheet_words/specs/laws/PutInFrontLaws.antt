-- How parts join: what is put in front of a part makes one part of both, and the note twice goes along. All crates that write lines cite
-- it.
use Rattle.std.specs.Prelude.{◌≡◌, refl, Bool, ◌||◌, List, [], ◌∷◌, ◌++◌, ℕ, suc, ◌-◌, ◌≤◌, length, set}
use Rattle.std.proofs.Math.Path.{sym}
use Rattle.std.proofs.Common.{◌∙◌, arith, length-append}
use Rattle.std.proofs.Math.Bool.{or-false}
use Rattle.std.proofs.Math.Seq.{set_out}
use Rattle.meaning.specs.facts.Tests.{or_assoc_comm}
use Rattle.nesting.specs.Nesting.{plain}
use Rattle.sheet_words.specs.declared.place.Place.{Place}
use Rattle.sheet_words.specs.PutInFront.{written, Part, Puts, noted}

infixr 35 ◌⊕◌
abbrev pub ◌⊕◌ : Part → Part → Part
◌⊕◌ a b = record { value = a.value ++ b.value; twice = a.twice || b.twice }

-- ---- One part after another.
written_append : (out : List ℕ) (end : ℕ) (a b : List ℕ) → written (written out end b) (end - length b) a ≡ written out end (a ++ b)
unfolding written
written_append out end [] b = refl
written_append out end (x ∷ a) b =
    let n = length-append a b in
    let e : end - length b - suc (length a) ≡ end - suc (length (a ++ b)) = omega arith in
    rw (e, written_append out end a b)

pub puts_then : {out out₁ out₂ : List ℕ} {at at₁ at₂ : Place} {a b : Part} → Puts out at b out₁ at₁ → Puts out₁ at₁ a out₂ at₂
    → Puts out at (a ⊕ b) out₂ at₂
puts_then {out} {at = at} {a = a} {b} p q =
    let n = length-append a.value b.value in
    let e = p.end in
    let f = q.end in
    record {
      end = omega arith;
      twice = q.twice ∙ rw p.twice (or_assoc_comm at.twice b.twice a.twice);
      words = q.words ∙ rw (p.words, p.end) (written_append out at.end a.value b.value);
    }

pub puts_none : (out : List ℕ) (at : Place) → Puts out at (plain []) out at
unfolding written
puts_none out at = record { end = omega arith; twice = sym (or-false at.twice); words = refl }

-- By what the part is.
pub puts_as : {out out' : List ℕ} {at at' : Place} {x y : Part} → Puts out at x out' at' → x ≡ y → Puts out at y out' at'
puts_as p e = rw e at p

-- Where no word is lent, any words of that number.
pub nothing_lent : {out out' : List ℕ} {at at' : Place} {x y : Part} → length out ≤ 0 → length x.value ≡ length y.value
    → x.twice ≡ y.twice → Puts out at x out' at' → Puts out at y out' at'
unfolding written
nothing_lent {out} {at = at} {x = x} {y} none same met p =
    record {
      end = p.end ∙ rw same;
      twice = p.twice ∙ rw met;
      words = p.words ∙ stays x.value ∙ sym (stays y.value);
    }
  where
    stays : (xs : List ℕ) → written out at.end xs ≡ out
    stays [] = refl
    stays (x ∷ xs) = rw (stays xs) (set_out out (at.end - suc (length xs)) x (omega arith))

-- ---- One word, stored or not.
module _ (out : List ℕ) (at : Place) (x : ℕ) {e : ℕ} (before : e ≡ at.end - 1) where
  pub put_stored : Puts out at (plain (x ∷ [])) (set out e x) (record { end = e; twice = at.twice })
  unfolding written
  put_stored = record { end = before; twice = sym (or-false at.twice); words = rw before }

  pub put_nowhere : length out ≤ e → Puts out at (plain (x ∷ [])) out (record { end = e; twice = at.twice })
  unfolding written
  put_nowhere h = record { end = before; twice = sym (or-false at.twice); words = sym (rw (← before) (set_out out e x h)) }

-- A note taken first, then its words.
pub puts_noted : {out out' : List ℕ} {at at₁ at' : Place} {b : Bool} {xs : List ℕ} → at₁ ≡ noted at b → Puts out at₁ (plain xs) out' at'
    → Puts out at (record { value = xs; twice = b }) out' at'
puts_noted {at} {b = b} e p =
    let q = rw e at p in record { end = q.end; twice = q.twice ∙ or-false (at.twice || b); words = q.words }
