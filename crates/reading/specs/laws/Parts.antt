-- What the reading of a word, of a word within bounds and of a counted list consists of.
use Rattle.std.specs.Prelude.{◌≡◌, refl, Bool, true, false, ◌&&◌, List, ℕ, ◌+◌, ◌≤◌, ◌<◌, length, get_or, leb, ltb}
use Rattle.std.proofs.Common.{sym, ap, ◌∙◌, arith, ltb-true, leb-true}
use Rattle.format.specs.Read.{got, bad, Reader, read_then, expect, word, within, many, counted}
use Rattle.meaning.specs.facts.Tests.{clash, and_both}
use Rattle.format.specs.laws.Readers.{part, many_length}
use Rattle.format.specs.Refusals.{wrong_word_count}

-- a word stands below W
pub record WordParts (ws : List ℕ) (at n e : ℕ) : Type 0 where
  pub inside : at < length ws
  pub is : n ≡ get_or ws at 0
  pub end : e ≡ at + 1

pub word_parts : (ws : List ℕ) (at : ℕ) {n e : ℕ} → word ws at ≡ got n e → WordParts ws at n e
unfolding word
word_parts ws at {n} {e} h = by_test (ltb at (length ws)) refl h
  where
    by_test : (t : Bool) → ltb at (length ws) ≡ t → elim t [ true ↦ got (get_or ws at 0) (at + 1) | false ↦ bad wrong_word_count ] ≡ got n e
        → WordParts ws at n e
    by_test true q r = record { inside = ltb-true at (length ws) q; is = cc; end = cc }
    by_test false q r = absurd (clash (cc))

pub record WithinParts (low high : ℕ) (ws : List ℕ) (at n e : ℕ) : Type 0 where
  pub inside : at < length ws
  pub is : n ≡ get_or ws at 0
  pub end : e ≡ at + 1
  pub low_bound : low ≤ n
  pub high_bound : n ≤ high

pub within_parts : (low high : ℕ) (ws : List ℕ) (at : ℕ) {n e : ℕ} → within low high ws at ≡ got n e → WithinParts low high ws at n e
unfolding within
within_parts low high ws at {n} {e} h =
    let a = part (word ws at) (λ k i. read_then (expect (leb low k && leb k high) ws i) λ u j. got k j) n e h in
    by_test a.value a.place (leb low a.value && leb a.value high) refl (word_parts ws at a.first) a.second
  where
    by_test : (k i : ℕ) (t : Bool) → (leb low k && leb k high) ≡ t → WordParts ws at k i
        → read_then (expect t ws i) (λ u j. got k j) ≡ got n e → WithinParts low high ws at n e
    by_test k i true q w r =
        let same : k ≡ n = cc in
        let there : i ≡ e = cc in
        let bounds = and_both (leb low k) (leb k high) q in
        record {
          inside = w.inside;
          is = sym same ∙ w.is;
          end = sym there
              ∙ w.end;
          low_bound = omega (arith, leb-true low k bounds.0);
          high_bound = omega (arith, leb-true k high bounds.1);
        }
    by_test k i false q w r = absurd (clash (cc))

-- a count, and so many from the next place on
pub record CountedParts {A : Type 0} (low high : ℕ) (p : Reader A) (ws : List ℕ) (at : ℕ) (xs : List A) (e : ℕ) : Type 0 where
  pub inside : at < length ws
  pub count : get_or ws at 0 ≡ length xs
  pub low_bound : low ≤ length xs
  pub high_bound : length xs ≤ high
  pub items : many (length xs) p ws (at + 1) ≡ got xs e

pub counted_parts : {A : Type 0} (low high : ℕ) (p : Reader A) (ws : List ℕ) (at : ℕ) {xs : List A} {e : ℕ}
    → counted low high p ws at ≡ got xs e → CountedParts low high p ws at xs e
unfolding counted
counted_parts low high p ws at {xs} {e} h =
    let a = part (within low high ws at) (λ n i. many n p ws i) xs e h in
    let w = within_parts low high ws at a.first in
    let size : length xs ≡ a.value = many_length p ws a.value a.place a.second in
    let items : many (length xs) p ws (at + 1) ≡ got xs e = ap (λ n. many n p ws (at + 1)) size ∙ ap (many a.value p ws) (sym w.end)
    ∙ a.second in
    record {
      inside = w.inside;
      count = sym (size ∙ w.is);
      low_bound = omega (arith, w.low_bound);
      high_bound =
          omega (arith, w.high_bound);
      items = items;
    }
