-- Readings with their values forgotten: what is left of each reader, in the order in which the code goes.
use Rattle.std.specs.Prelude.{◌≡◌, List, ℕ, ◌+◌, ◌-◌, ◌≤◌, ◌<◌, length, get_or, take}
use Rattle.std.proofs.Math.Path.{refl, sym, ap}
use Rattle.std.proofs.Common.{◌∙◌, arith, add-one}
use Rattle.std.proofs.Math.ListN.{length-take}
use Rattle.std.proofs.Math.Seq.{get_or-take}
use borrow.Author.Tests.{lt-ltb, le-ltb, le-leb, lt-leb}
use Rattle.format.specs.Read.{Read, got, bad, Reader, read_then, word, within, many, counted}
use Rattle.format.specs.Places.{next, forget_value, after}
use Rattle.meaning.specs.facts.Numbers.{one_less, none_left}
use Rattle.meaning.specs.facts.Tests.{clash}
use Rattle.format.specs.laws.Readers.{many_step, many_stop}
use Rattle.format.specs.Refusals.{wrong_word_count, out_of_range}

-- The value is forgotten at the end of a sequence; what is only given there is forgotten, and what does not look at a value may
-- have it forgotten.
pub forget_value_follow : {A B : Type 0} (r : Read A) (k : A → ℕ → Read B)
    → forget_value (read_then r k) ≡ read_then r (λ a i. forget_value (k a i))
forget_value_follow (got a i) k = refl
forget_value_follow (bad n) k = refl

pub forget_value_given : {A : Type 0} (r : Read A) → read_then r (λ a i. got tt i) ≡ forget_value r
forget_value_given (got a i) = refl
forget_value_given (bad n) = refl

pub follow_forget_value : {A B : Type 0} (r : Read A) (k : ℕ → Read B) → read_then (forget_value r) (λ u i. k i) ≡ read_then r (λ a i. k i)
follow_forget_value (got a i) k = refl
follow_forget_value (bad n) k = refl

pub follow_follow : {A B C : Type 0} (r : Read A) (j : A → ℕ → Read B) (k : B → ℕ → Read C)
    → read_then (read_then r j) k ≡ read_then r (λ a i. read_then (j a i) k)
follow_follow (got a i) j k = refl
follow_follow (bad n) j k = refl

-- A word of the record is one of the lent words, in front of the end.
module _ (w : List ℕ) (end at : ℕ) where
  pub word_in : at < end → at < length w → word (take end w) at ≡ got (get_or w at 0) (at + 1)
  unfolding word
  word_in h l = rw (word, lt-ltb at (length (take end w)) (omega (arith, length-take end w)), get_or-take end w at 0 h)

  outside : length (take end w) ≤ at → word (take end w) at ≡ bad wrong_word_count
  unfolding word
  outside h = rw (word, le-ltb at (length (take end w)) h)

  pub word_out : end ≤ at → word (take end w) at ≡ bad wrong_word_count
  word_out h = outside (omega (arith, length-take end w))

  pub word_past : length w ≤ at → word (take end w) at ≡ bad wrong_word_count
  word_past h = outside (omega (arith, length-take end w))

module _ (low high : ℕ) (ws : List ℕ) (at : ℕ) where
  pub within_stop : {m : ℕ} → word ws at ≡ bad m → within low high ws at ≡ bad m
  unfolding within
  within_stop h = rw h

  pub within_low : {n e : ℕ} → word ws at ≡ got n e → n < low → within low high ws at ≡ bad out_of_range
  unfolding within
  within_low {n} h l = rw (h, lt-leb low n l)

  pub within_high : {n e : ℕ} → word ws at ≡ got n e → low ≤ n → high < n → within low high ws at ≡ bad out_of_range
  unfolding within
  within_high {n} h l m = rw (h, le-leb low n l, lt-leb n high m)

  pub within_in : {n e : ℕ} → word ws at ≡ got n e → low ≤ n → n ≤ high → within low high ws at ≡ got n e
  unfolding within
  within_in {n} h l m = rw (h, le-leb low n l, le-leb n high m)

pub next_of : {A : Type 0} (r : Read A) {e : ℕ} → forget_value r ≡ got tt e → e ≡ next r
next_of (got a i) h = cc
next_of (bad m) h = absurd (clash (cc))

-- The k-th turn of a loop that reads n of them: the rest is read from a place, where k of them end.
pub record Going {A : Type 0} (p : Reader A) (ws : List ℕ) (n from k at : ℕ) : Type 0 where
  pub bound : k ≤ n
  pub rest : forget_value (many n p ws from) ≡ forget_value (many (n - k) p ws at)
  pub place : at ≡ after k p ws from

module _ {A : Type 0} {p : Reader A} {ws : List ℕ} {n from : ℕ} where
  pub going_start : Going p ws n from 0 from
  unfolding after
  going_start = record { bound = omega arith; rest = ap (λ k. forget_value (many k p ws from)) (omega arith); place = refl }

  pub going_next : {k at e : ℕ} → Going p ws n from k at → k < n → forget_value (p ws at) ≡ got tt e → Going p ws n from (k + 1) e
  unfolding after
  going_next {k} {at} {e} g l h =
      record {
        bound = omega arith;
        rest = g.rest ∙ ap (λ m. forget_value (many m p ws at)) (one_less n k l) ∙ many_step p ws (n - (k + 1)) at h;
        place = next_of (p ws at) h ∙ ap (λ i. next (p ws i)) g.place ∙ ap (λ j. after j p ws from) (sym (add-one k));
      }

  pub going_stop : {k at m : ℕ} → Going p ws n from k at → k < n → forget_value (p ws at) ≡ bad m → forget_value (many n p ws from) ≡ bad m
  going_stop {k} {at} {m} g l h = g.rest ∙ ap (λ j. forget_value (many j p ws at)) (one_less n k l) ∙ many_stop p ws (n - (k + 1)) at h

  pub going_end : {k at : ℕ} → Going p ws n from k at → n ≤ k → forget_value (many n p ws from) ≡ got tt at
  unfolding many
  going_end {k} {at} g l = g.rest ∙ ap (λ j. forget_value (many j p ws at)) (none_left n k l)

module _ {A : Type 0} (low high : ℕ) (p : Reader A) (ws : List ℕ) (at : ℕ) where
  pub counted_stop : {m : ℕ} → within low high ws at ≡ bad m → forget_value (counted low high p ws at) ≡ bad m
  unfolding counted
  counted_stop h = rw h

  pub counted_rest : {n e : ℕ} → within low high ws at ≡ got n e → forget_value (many n p ws e) ≡ forget_value (counted low high p ws at)
  unfolding counted
  counted_rest h = rw h
