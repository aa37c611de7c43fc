-- For the proofs of exits.rt: an edge is added to each bundle whose target the exit list names, bundle by bundle; the record stands through
-- all turns, since a turn reads the exit list from it.
use Rattle.std.specs.Prelude.{◌≡◌, Bool, true, false, List, length, get_or, drop}
use Rattle.std.proofs.Common.{sym, ◌∙◌, eqb, drop_of_length-le, drop-cons}
use Prim.Native.Nat.{ℕ, zero, suc, ◌+◌, ◌-◌, ◌≤◌, ◌<◌, min}
use native.Mathlib.Omega.{arith}
use Rattle.std.proofs.Math.Numerals.{add-one}
use Rattle.std.specs.List.{list_any, range_with_len}
use Rattle.meaning.specs.Graph.{Graph}
use Rattle.meaning.specs.facts.Tests.{eqb_sym}
use Rattle.meaning.specs.Lists.{pick, is_in}
use Rattle.state_words.specs.Sections.{word, stored, bundles, set_starts, set_lengths}
use Rattle.record.specs.Stands.{OfRecord}
use Rattle.nesting.specs.Nesting.{exit_targets}
use Rattle.state_sets.specs.SetTables.{bundle_at}
use Rattle.state_words.specs.Totals.{edges_word}
use Rattle.state_words.specs.laws.Edges.{edges_sum}
use Rattle.state_shown.specs.Front.{SameKinds}
use Rattle.state_shown.specs.laws.FrontKept.{stands_kept, kinds_same, kinds_stored, kinds_then}
use Rattle.cfg_loops.specs.Exits.{exit_added, exits_from, exits_added, ExitsLeft}
use Rattle.state_words.specs.Rows.{bundle_count, bundle_count_at, bundle_target, largest}

-- ---- The functions, path by path.
module _ (g : Graph) (r p : ℕ) (l : List ℕ) {t : ℕ} {b : Bool} (of_target : t ≡ bundle_target l p)
    (told : b ≡ is_in t (exit_targets g r)) where
  tells : is_in (bundle_target l p) (exit_targets g r) ≡ b
  tells = rw (← of_target) (sym told)

  pub exit_counted : b ≡ true → {n m : ℕ} {l' : List ℕ} → (n ≡ bundle_count l p) × (n ≤ largest) → m ≡ min (n + 1) 4294967295
      → l' ≡ stored l bundles (bundle_count_at p) (edges_word m) → l' ≡ exit_added g r p l
  unfolding exit_added
  exit_counted e {n} a c q = q ∙ rw (tells, e, c, edges_sum n 1 a.1 (omega arith), a.0)

  pub exit_not : b ≡ false → l ≡ exit_added g r p l
  unfolding exit_added
  exit_not e = rw (tells, e)

-- ---- The search in a list by its places, from place a on.
by_places : (t : ℕ) (xs : List ℕ) (n a : ℕ) → length xs ≡ n + a
    → list_any (λ k. eqb (get_or xs k 0) t) (range_with_len a n) ≡ is_in t (drop a xs)
by_places t xs zero a e = rw (drop_of_length-le xs {i = a} (omega arith))
by_places t xs (suc n) a e =
    rw (add-one a, drop-cons xs a 0 (omega arith), eqb_sym t (get_or xs a 0), by_places t xs n (suc a) (omega arith))

pub any_in_places : (t : ℕ) (xs : List ℕ) {n : ℕ} → n ≡ length xs
    → list_any (λ k. eqb (get_or xs k 0) t) (range_with_len 0 n) ≡ is_in t xs
any_in_places t xs {n} e = by_places t xs n 0 (omega arith)

-- ---- The turns over a set: the record stands on, and what is left makes the whole.
pub exit_front : (g : Graph) (r p : ℕ) (l : List ℕ) → SameKinds l (exit_added g r p l)
unfolding exit_added
exit_front g r p l = go (is_in (bundle_target l p) (exit_targets g r))
  where
    go : (b : Bool) → SameKinds l (pick b (stored l bundles (bundle_count_at p) (edges_word (bundle_count l p + 1))) l)
    go true = kinds_stored l bundles (omega arith) (bundle_count_at p) (edges_word (bundle_count l p + 1))
    go false = kinds_same l

pub exits_start : (g : Graph) (r start n : ℕ) (l : List ℕ) → ExitsLeft g r start n 0 l l
exits_start g r start n l = let e : n - 0 ≡ n = omega arith in record { front = kinds_same l; left = rw e }

module _ {r start n i : ℕ} {l₀ l : List ℕ} (left : OfRecord l₀ (λ g. ExitsLeft g r start n i l₀ l)) where
  pub exits_turn : i < n → {p : ℕ} {l' : List ℕ} → p ≡ bundle_at start i → OfRecord l (λ g. l' ≡ exit_added g r p l)
      → OfRecord l₀ (λ g. ExitsLeft g r start n (i + 1) l₀ l')
  unfolding exits_from
  exits_turn h {p} {l'} at step g s =
      let x = left g s in
      let e : l' ≡ exit_added g r (bundle_at start i) l = rw (← at) (step g (stands_kept x.front s)) in
      let m : n - i ≡ suc (n - (i + 1)) = omega arith in
      record {
        front = rw e (kinds_then x.front (exit_front g r (bundle_at start i) l));
        left = rw (e, add-one i) (rw (add-one i) at (rw m at x.left));
      }

  pub exits_stop : n ≤ i → start ≡ word l₀ set_starts r → n ≡ word l₀ set_lengths r → OfRecord l₀ (λ g. l ≡ exits_added g r l₀)
  unfolding exits_from
  exits_stop h a b g s =
      let m : n - i ≡ 0 = omega arith in
      let e = rw m at (left g s).left in
      e ∙ rw (a, b)
