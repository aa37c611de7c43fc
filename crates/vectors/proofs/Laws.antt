-- What one more turn of the reader's loops does.
use mathlib.Core.Path.{◌≡◌, refl, sym, ap, ◌∙◌}
use mathlib.Core.Bool.{Bool, true, false}
use mathlib.Core.List.{List, [], ◌∷◌, ◌++◌, append-nil}
use Prim.Native.Nat.{ℕ, suc, ◌+◌, ◌-◌, ◌*◌, ◌≤◌, ◌<◌}
use native.Mathlib.Numerals.{add-one}
use native.Mathlib.Omega.{arith}
use lib.ListN.{length, get_or, take, drop, set, length-take, length-drop}
use lib.Seq.{drop-cons, take_all, take-suc-set, append_snoc}
use lib.Dec.{eqb}
use borrow.Author.Tests.{lt-ltb, le-ltb}
use Rattle.std.specs.Prelude.{cond, Some, None}
use Rattle.std.specs.List.{position, position_from}
use Rattle.std.proofs.lemmas.Iterator.Adapters.{position_from-zero}
use Rattle.vectors.specs.Parts.{behind, hex_byte, hex_bytes, line_and_answer, listed_store, answer_of}
use Rattle.vectors.specs.declared.VectorReader.{VectorReader}
use Rattle.vectors.specs.Reading.{Reading, kept_text, ends_at, read_byte, read_bytes, reading_of, counted_of, KeptSoFar, Reads}

-- ---- behind the first b
pub behind_within : (b : ℕ) (l : List ℕ) → behind b l ≤ length l
unfolding behind
behind_within b [] = omega arith
behind_within b (x ∷ xs) = by_test (eqb x b) (behind_within b xs)
  where
    by_test : (t : Bool) → behind b xs ≤ length xs → elim t [ true ↦ 1 | false ↦ suc (behind b xs) ] ≤ suc (length xs)
    by_test true h = omega arith
    by_test false h = omega arith

-- by the place of the first b, of a list whose first place is i
module _ (b : ℕ) where
  behind_at : (i : ℕ) (l : List ℕ) (k : ℕ) → position_from (λ x. eqb x b) i l ≡ Some k → k + 1 ≡ i + behind b l
  unfolding behind
  behind_at i [] k h = cc
  behind_at i (x ∷ xs) k h = by_test (eqb x b) h (behind_at (i + 1) xs k)
    where
      by_test : (t : Bool) → cond t (Some i) (position_from (λ x. eqb x b) (i + 1) xs) ≡ Some k
          → (position_from (λ x. eqb x b) (i + 1) xs ≡ Some k → k + 1 ≡ i + 1 + behind b xs)
          → k + 1 ≡ i + elim t [ true ↦ 1 | false ↦ suc (behind b xs) ]
      by_test true h later = let here : i ≡ k = cc in omega arith
      by_test false h later = let there = later h in omega arith

  behind_all : (i : ℕ) (l : List ℕ) → position_from (λ x. eqb x b) i l ≡ None → length l ≡ behind b l
  unfolding behind
  behind_all i [] h = refl
  behind_all i (x ∷ xs) h = by_test (eqb x b) h (behind_all (i + 1) xs)
    where
      by_test : (t : Bool) → cond t (Some i) (position_from (λ x. eqb x b) (i + 1) xs) ≡ None
          → (position_from (λ x. eqb x b) (i + 1) xs ≡ None → length xs ≡ behind b xs)
          → suc (length xs) ≡ elim t [ true ↦ 1 | false ↦ suc (behind b xs) ]
      by_test true h later = cc
      by_test false h later = ap suc (later h)

  pub behind_some : (l : List ℕ) (k : ℕ) → position (λ x. eqb x b) l ≡ Some k → k + 1 ≡ behind b l
  behind_some l k h = let there = behind_at 0 l k (sym (position_from-zero (λ x. eqb x b) l) ∙ h) in omega arith

  pub behind_none : (l : List ℕ) → position (λ x. eqb x b) l ≡ None → length l ≡ behind b l
  behind_none l h = behind_all 0 l (sym (position_from-zero (λ x. eqb x b) l) ∙ h)

-- ---- the line and the answer
-- &l[n..]
to_end : (n : ℕ) (l : List ℕ) → take (length l - n) (drop n l) ≡ drop n l
to_end n l = take_all (length l - n) (drop n l) (omega (arith, length-drop n l))

-- The line and the answer of a vector v, as `rest`, and the line's end.
pub record Parted (v rest : List ℕ) (end : ℕ) : Type 0 where
  pub within : end ≤ length rest
  pub line : length (take end rest) ≤ length v
  pub store : hex_bytes (take end rest) ≡ listed_store v
  pub answer : take (length rest - end) (drop end rest) ≡ answer_of v

pub parted : (v : List ℕ) {at end : ℕ} → at ≡ behind 32 v → end ≡ behind 10 (take (length v - at) (drop at v))
    → Parted v (take (length v - at) (drop at v)) end
unfolding line_and_answer listed_store answer_of
parted v {at} {end} p q =
    let is : take (length v - at) (drop at v) ≡ line_and_answer v = to_end at v ∙ ap (λ k. drop k v) p in
    let line : end ≡ behind 10 (line_and_answer v) = q ∙ ap (behind 10) is in
    rw is
    record {
      within = rw line (behind_within 10 (line_and_answer v));
      line = omega (arith, length-take end (line_and_answer v), length-drop (behind 32 v) v);
      store = ap (λ k. hex_bytes (take k (line_and_answer v))) line;
      answer = to_end end (line_and_answer v) ∙ ap (λ k. drop k (line_and_answer v)) line;
    }

-- ---- digits
hex_none : (l : List ℕ) → length l ≤ 1 → hex_bytes l ≡ []
unfolding hex_bytes
hex_none [] h = refl
hex_none (a ∷ []) h = refl
hex_none (a ∷ b ∷ l) h = absurd (omega arith)

module _ (digits bytes : List ℕ) (n : ℕ) (sofar : take n bytes ++ hex_bytes (drop (2 * n) digits) ≡ hex_bytes digits) where
  pub decoded_all : length digits ≤ 2 * n + 1 → take n bytes ≡ hex_bytes digits
  decoded_all h =
      let none = hex_none (drop (2 * n) digits) (omega (arith, length-drop (2 * n) digits)) in
      sym (append-nil (take n bytes)) ∙ ap (λ l. take n bytes ++ l) (sym none) ∙ sofar

  pub decoded_more : 2 * n + 1 < length digits → n < length bytes → (x : ℕ)
      → x ≡ hex_byte (get_or digits (2 * n) 0) (get_or digits (2 * n + 1) 0)
      → take (n + 1) (set bytes n x) ++ hex_bytes (drop (2 * (n + 1)) digits) ≡ hex_bytes digits
  unfolding hex_bytes
  decoded_more h k x is =
      let a = get_or digits (2 * n) 0 in
      let b = get_or digits (2 * n + 1) 0 in
      let two : suc (2 * n + 1) ≡ 2 * (n + 1) = omega arith in
      let one : suc (2 * n) ≡ 2 * n + 1 = omega arith in
      let pair : drop (2 * n) digits ≡ a ∷ b ∷ drop (2 * (n + 1)) digits =
      drop-cons digits (2 * n) 0 (omega arith)
      ∙ ap (λ j. a ∷ drop j digits) one
      ∙ ap (λ l. a ∷ l) (drop-cons digits (2 * n + 1) 0 h)
      ∙ ap (λ j. a ∷ b ∷ drop j digits) two in
      let now : take (n + 1) (set bytes n x) ≡ take n bytes ++ (x ∷ []) =
      ap (λ j. take j (set bytes n x)) (add-one n) ∙ take-suc-set bytes n x k in
      ap (λ l. l ++ hex_bytes (drop (2 * (n + 1)) digits)) now
      ∙ append_snoc (take n bytes) x _
      ∙ ap (λ y. take n bytes ++ (y ∷ hex_bytes (drop (2 * (n + 1)) digits))) is
      ∙ ap (λ l. take n bytes ++ hex_bytes l) (sym pair)
      ∙ sofar

-- ---- kept bytes
module _ (text : List ℕ) (size b : ℕ) (l : length text ≡ 65536) where
  pub kept_more : size < 65536 → kept_text (take size text) b ≡ take (size + 1) (set text size b)
  kept_more h =
      rw (kept_text, lt-ltb (length (take size text)) 65536 (omega (arith, length-take size text)))
      (sym (ap (λ j. take j (set text size b)) (add-one size) ∙ take-suc-set text size b (omega arith)))

  pub kept_full : 65536 ≤ size → kept_text (take size text) b ≡ take size text
  kept_full h = rw (kept_text, le-ltb (length (take size text)) 65536 (omega (arith, length-take size text)))

-- ---- one more byte of a list
module _ (agrees : List ℕ → Bool) {r : VectorReader} {before : List ℕ} where
  pub ended : {b : ℕ} → ends_at r.fresh b ≡ true → {a : Bool} → a ≡ agrees (take r.size before)
      → {next : VectorReader} → next ≡ counted_of r a
      → (after : List ℕ) → Reads agrees r (b ∷ []) before after next
  unfolding read_byte read_bytes
  ended e is same after =
      record { reads = ap (λ n. reading_of n after) same ∙ rw (read_byte, e, ← is); within = rw same (omega arith) }

  pub kept : {b : ℕ} → ends_at r.fresh b ≡ false → r.size ≤ 65536 → {after : List ℕ} {next : VectorReader}
      → KeptSoFar r b before after next
      → Reads agrees r (b ∷ []) before after next
  unfolding read_byte read_bytes
  kept e small k = record { reads = k.reads ∙ rw (read_byte, e); within = k.within small }

  -- the byte at place i, of a list that is read from there on
  pub read_next : (bs : List ℕ) (i : ℕ) → i < length bs → {after : List ℕ} {next : VectorReader}
      → Reads agrees r (get_or bs i 0 ∷ []) before after next
      → {all : Reading} → read_bytes agrees (reading_of r before) (drop i bs) ≡ all
      → read_bytes agrees (reading_of next after) (drop (i + 1) bs) ≡ all
  unfolding read_bytes
  read_next bs i h {after} {next} k is =
      ap (λ x. read_bytes agrees x (drop (i + 1) bs)) k.reads
      ∙ ap (λ j. read_bytes agrees (reading_of r before) (get_or bs i 0 ∷ drop j bs)) (add-one i)
      ∙ ap (read_bytes agrees (reading_of r before)) (sym (drop-cons bs i 0 h))
      ∙ is
