-- The words of values: what each range stands for, and that below 4,096 two words are equal just if their values are.
use Rattle.std.specs.Prelude.{◌≡◌, refl, Bool, true, false, ◌&&◌, ℕ, zero, suc, ◌+◌, ◌-◌, ◌/◌, ◌%◌, ◌≤◌, ◌<◌, eqb}
use Rattle.std.proofs.Common.{sym, ap, ◌∙◌}
use native.Mathlib.Omega.{arith}
use Rattle.std.proofs.Math.Decide.{dec_lt}
use borrow.Author.Tests.{lt-ltb, le-ltb, eq-eqb, ne_eqb, eqb-true}
use Rattle.meaning.specs.Graph.{Value, const, input, instr, output, bool, undef, held, no_value, code_of, same_value}
use Rattle.meaning.specs.facts.Tests.{clash}
use Rattle.meaning.specs.facts.Tests.{and_both}
use Rattle.state_words.specs.Values.{input_region, input_index, output_word, undef_word, region_word, bool_from, false_word, true_word}
use Rattle.nesting.specs.Nesting.{most_regions, most_outputs}
use Rattle.state_shown.specs.Values.{value}
use Rattle.state_words.specs.Values.{held_from, input_from, input_word_at, instr_from, instr_word_at, names_nothing, output_from}
use Rattle.state_words.specs.Values.{undef_from}

-- By which range a word stands for its value.
pub data Ranged (x : ℕ) (v : Value) : Type 0 where
  in_const : x < bool_from → v ≡ const x → Ranged x v
  in_false : x ≡ false_word → v ≡ bool false → Ranged x v
  in_true : x ≡ true_word → v ≡ bool true → Ranged x v
  in_undef : undef_from ≤ x → x < output_from → v ≡ undef (x - undef_from) → Ranged x v
  in_output : output_from ≤ x → x < input_from → v ≡ output (x - output_from) → Ranged x v
  in_input : input_from ≤ x → x < held_from → v ≡ input (input_region x) (input_index x) → Ranged x v
  in_held : held_from ≤ x → x < instr_from → v ≡ held (input_region x) (input_index x) → Ranged x v
  in_instr : instr_from ≤ x → x < names_nothing → v ≡ instr ((x - instr_from) / 64) (x % 64) → Ranged x v
  in_none : names_nothing ≤ x → v ≡ no_value → Ranged x v

above : (x : ℕ) → instr_from ≤ x → Ranged x (value x)
unfolding value
above x h =
    let n : bool_from ≤ x = omega arith in
    let p : undef_from ≤ x = omega arith in
    let q : output_from ≤ x = omega arith in
    let r : input_from ≤ x = omega arith in
    let s : held_from ≤ x = omega arith in
    elim (dec_lt x names_nothing) [
      | yes a ↦ in_instr h a
          (rw (le-ltb _ _ n, le-ltb _ _ p, le-ltb _ _ q, le-ltb _ _ r, le-ltb _ _ s, le-ltb _ _ h, lt-ltb _ _ a))
      | no a ↦ (let b : names_nothing ≤ x = omega arith in
          in_none b (rw (le-ltb _ _ n, le-ltb _ _ p, le-ltb _ _ q, le-ltb _ _ r, le-ltb _ _ s, le-ltb _ _ h, le-ltb _ _ b)))
    ]

pub ranged : (x : ℕ) → Ranged x (value x)
unfolding value
ranged x =
    elim (dec_lt x bool_from) [
      | yes a ↦ in_const a (rw (lt-ltb _ _ a))
      | no a ↦ let n : bool_from ≤ x = omega arith in
          elim (dec_lt x true_word) [
            | yes b ↦ (let e : x ≡ false_word = omega arith in in_false e (rw e))
            | no b ↦
                elim (dec_lt x undef_from) [
                  | yes c ↦ (let e : x ≡ true_word = omega arith in in_true e (rw e))
                  | no c ↦ let p : undef_from ≤ x = omega arith in
                      elim (dec_lt x output_from) [
                        | yes d ↦ in_undef p d (rw (le-ltb _ _ n, le-ltb _ _ p, lt-ltb _ _ d))
                        | no d ↦ let q : output_from ≤ x = omega arith in
                            elim (dec_lt x input_from) [
                              | yes e ↦ in_output q e (rw (le-ltb _ _ n, le-ltb _ _ p, le-ltb _ _ q, lt-ltb _ _ e))
                              | no e ↦ let r : input_from ≤ x = omega arith in
                                  elim (dec_lt x held_from) [
                                    | yes f ↦ in_input r f (rw (le-ltb _ _ n, le-ltb _ _ p, le-ltb _ _ q, le-ltb _ _ r, lt-ltb _ _ f))
                                    | no f ↦ let s : held_from ≤ x = omega arith in
                                        elim (dec_lt x instr_from) [
                                          | yes g ↦ in_held s g
                                              (rw (le-ltb _ _ n, le-ltb _ _ p, le-ltb _ _ q, le-ltb _ _ r, le-ltb _ _ s, lt-ltb _ _ g))
                                          | no g ↦ above x (omega arith)
                                        ]
                                  ]
                            ]
                      ]
                ]
          ]
    ]

-- The word of a value, by its code; where the numbers fit a word's ranges it stands for the value.
unfoldable pub word_by : ℕ → ℕ → ℕ → ℕ
word_by zero r k = k
word_by (suc zero) r k = input_word_at input_from r k
word_by (suc (suc zero)) r k = instr_word_at r k
word_by (suc (suc (suc zero))) r k = output_from + k
word_by (suc (suc (suc (suc zero)))) r k = 64 + k
word_by (suc (suc (suc (suc (suc zero))))) r k = undef_from + k
word_by (suc (suc (suc (suc (suc (suc zero)))))) r k = input_word_at held_from r k
word_by (suc (suc (suc (suc (suc (suc (suc n))))))) r k = names_nothing

abbrev pub word_of : Value → ℕ
word_of v = word_by (code_of v).kind (code_of v).region (code_of v).index

-- The word comes back, but for those beyond 4096.
pub word_of_value : (x : ℕ) → x ≤ names_nothing → word_of (value x) ≡ x
unfolding word_by
word_of_value x h = go (ranged x)
  where
    go : {v : Value} → Ranged x v → word_of v ≡ x
    go (in_const a e) = rw e
    go (in_false a e) = rw (e, a)
    go (in_true a e) = rw (e, a)
    go (in_undef a b e) = rw e (omega arith)
    go (in_output a b e) = rw e (omega arith)
    go (in_input a b e) = rw e (omega arith)
    go (in_held a b e) = rw e (omega arith)
    go (in_instr a b e) = rw e (omega arith)
    go (in_none a e) = rw e (omega arith)

beyond_value : (x : ℕ) → names_nothing ≤ x → word_of (value x) ≡ names_nothing
unfolding value word_by
beyond_value x h = go (ranged x)
  where
    go : {v : Value} → Ranged x v → word_of v ≡ names_nothing
    go (in_const a e) = absurd (omega arith)
    go (in_false a e) = absurd (omega arith)
    go (in_true a e) = absurd (omega arith)
    go (in_undef a b e) = absurd (omega arith)
    go (in_output a b e) = absurd (omega arith)
    go (in_input a b e) = absurd (omega arith)
    go (in_held a b e) = absurd (omega arith)
    go (in_instr a b e) = absurd (omega arith)
    go (in_none a e) = rw e

-- A word has the value of a word below 4096 only if it is that word.
coded_word : (x y : ℕ) → y < names_nothing → word_of (value x) ≡ word_of (value y) → x ≡ y
coded_word x y h e =
    let z = word_of_value y (omega arith) in
    elim (dec_lt x names_nothing) [
      | yes a ↦ let c = word_of_value x (omega arith) in omega arith
      | no a ↦ let c = beyond_value x (omega arith) in absurd (omega arith)
    ]

pub same_word : (x y : ℕ) → y < names_nothing → value x ≡ value y → x ≡ y
same_word x y h e = coded_word x y h (ap word_of e)

-- Equal words, equal values.
same_self : (v : Value) → same_value v v ≡ true
same_self v = rw (
  eq-eqb (code_of v).kind (code_of v).kind refl,
  eq-eqb (code_of v).region (code_of v).region refl,
  eq-eqb
      (code_of v).index (code_of v).index refl,
)

same_coded : (v w : Value) → same_value v w ≡ true → word_of v ≡ word_of w
same_coded v w h =
    let x = and_both (eqb (code_of v).kind (code_of w).kind)
    (eqb (code_of v).region (code_of w).region && eqb (code_of v).index (code_of w).index) h in
    let y = and_both (eqb (code_of v).region (code_of w).region) (eqb (code_of v).index (code_of w).index) x.1 in
    rw (
      eqb-true (code_of v).kind (code_of w).kind x.0,
      eqb-true (code_of v).region (code_of w).region y.0,
      eqb-true
          (code_of v).index (code_of w).index y.1,
    )

pub equal_values : (x y : ℕ) → y < names_nothing → same_value (value x) (value y) ≡ eqb x y
equal_values x y h = go (same_value (value x) (value y)) refl
  where
    go : (b : Bool) → same_value (value x) (value y) ≡ b → b ≡ eqb x y
    go true e = sym (eq-eqb x y (coded_word x y h (same_coded (value x) (value y) e)))
    go false e = sym (ne_eqb x y (λ p. let s : same_value (value x) (value y) ≡ true = rw p (same_self (value y)) in clash (cc)))

-- ---- The words that steps make.
pub value_output : (o : ℕ) → o < most_outputs → value (output_word o) ≡ output o
unfolding output_word
value_output o h = rw (lt-ltb o most_outputs h) (go (ranged (output_from + o)))
  where
    go : {v : Value} → Ranged (output_from + o) v → v ≡ output o
    go (in_const a e) = absurd (omega arith)
    go (in_false a e) = absurd (omega arith)
    go (in_true a e) = absurd (omega arith)
    go (in_undef a b e) = absurd (omega arith)
    go (in_output a b e) = e ∙ (let z : output_from + o - output_from ≡ o = omega arith in rw z)
    go (in_input a b e) = absurd (omega arith)
    go (in_held a b e) = absurd (omega arith)
    go (in_instr a b e) = absurd (omega arith)
    go (in_none a e) = absurd (omega arith)

-- What the definition takes beyond a list's end.
pub value_beyond : value undef_from ≡ undef 0
unfolding value
value_beyond = refl

pub value_undef : (ty : ℕ) → ty < 256 → value (undef_word ty) ≡ undef ty
unfolding undef_word
value_undef ty h = rw (lt-ltb ty 256 h) (go (ranged (undef_from + ty)))
  where
    go : {v : Value} → Ranged (undef_from + ty) v → v ≡ undef ty
    go (in_const a e) = absurd (omega arith)
    go (in_false a e) = absurd (omega arith)
    go (in_true a e) = absurd (omega arith)
    go (in_undef a b e) = e ∙ (let z : undef_from + ty - undef_from ≡ ty = omega arith in rw z)
    go (in_output a b e) = absurd (omega arith)
    go (in_input a b e) = absurd (omega arith)
    go (in_held a b e) = absurd (omega arith)
    go (in_instr a b e) = absurd (omega arith)
    go (in_none a e) = absurd (omega arith)

module _ (r k : ℕ) (h : r < most_regions) (j : k < 4) where
  pub value_input : value (region_word input_from r k) ≡ input r k
  unfolding region_word
  value_input = rw (lt-ltb r most_regions h, lt-ltb k 4 j) (go (ranged (input_word_at input_from r k)))
    where
      go : {v : Value} → Ranged (input_word_at input_from r k) v → v ≡ input r k
      go (in_const a e) = absurd (omega arith)
      go (in_false a e) = absurd (omega arith)
      go (in_true a e) = absurd (omega arith)
      go (in_undef a b e) = absurd (omega arith)
      go (in_output a b e) = absurd (omega arith)
      go (in_input a b e) =
          let y : input_region (input_word_at input_from r k) ≡ r = omega arith in let z : input_index
          (input_word_at input_from r k) ≡ k = omega arith in e
          ∙ rw (y, z)
      go (in_held a b e) = absurd (omega arith)
      go (in_instr a b e) = absurd (omega arith)
      go (in_none a e) = absurd (omega arith)

  pub value_held : value (region_word held_from r k) ≡ held r k
  unfolding region_word
  value_held = rw (lt-ltb r most_regions h, lt-ltb k 4 j) (go (ranged (input_word_at held_from r k)))
    where
      go : {v : Value} → Ranged (input_word_at held_from r k) v → v ≡ held r k
      go (in_const a e) = absurd (omega arith)
      go (in_false a e) = absurd (omega arith)
      go (in_true a e) = absurd (omega arith)
      go (in_undef a b e) = absurd (omega arith)
      go (in_output a b e) = absurd (omega arith)
      go (in_input a b e) = absurd (omega arith)
      go (in_held a b e) =
          let y : input_region (input_word_at held_from r k) ≡ r = omega arith in let z : input_index
          (input_word_at held_from r k) ≡ k = omega arith in e
          ∙ rw (y, z)
      go (in_instr a b e) = absurd (omega arith)
      go (in_none a e) = absurd (omega arith)
