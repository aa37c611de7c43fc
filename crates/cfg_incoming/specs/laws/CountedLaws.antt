-- One more for each target makes what the definition counts of the list; and how far a count can have grown, so that none passes 32 bits.
use Rattle.std.specs.Prelude.{◌≡◌, List, ℕ, ◌+◌, ◌≤◌, ◌<◌, eqb, length, get_or, drop}
use Rattle.std.proofs.Common.{sym, ap, ◌∙◌, add-one, arith, drop-cons}
use Rattle.std.proofs.lemmas.List.{length-map}
use Rattle.meaning.specs.Graph.{Graph, region, edges_of, targets_of}
use Rattle.meaning.specs.Lists.{pick, times_in}
use Rattle.meaning.specs.facts.Tests.{at_or_else, eqb_self}
use Rattle.cfg_incoming.specs.Counted.{AtMost, OneMore, CountedUpTo, Grows}

pub targets_counted : (g : Graph) (r : ℕ) {n : ℕ} → n ≡ length (edges_of (region g r).terminator) → n ≡ length (targets_of g r)
targets_counted g r e = e ∙ sym (length-map (edges_of (region g r).terminator) _)

module _ (ts : List ℕ) {n : ℕ} (size : n ≡ length ts) {c c' : List ℕ} {j : ℕ} (h : CountedUpTo c c' j ts) where
  pub counting_turn : {d : List ℕ} {x : ℕ} → j < n → x ≡ get_or ts j 0 → OneMore c' d x → CountedUpTo c d (j + 1) ts
  counting_turn l e o =
      record {
        each =
            λ a k. let step = ap (times_in a) (drop-cons ts j 0 (omega arith)) in
            let next = ap (λ i. times_in a (drop i ts)) (add-one j) in
            let more = o.each a k ∙ ap (λ y. get_or c' a 0 + pick (eqb a y) 1 0) e in
            omega (arith, h.each a k);
      }

pub bit_small : (a x : ℕ) → pick (eqb a x) 1 0 ≤ 1
bit_small a x = at_or_else _ a x (λ e. rw (e, eqb_self x) (omega arith)) (λ e. rw e (omega arith))

pub grows_turn : {c c' d : List ℕ} {x j : ℕ} → Grows c c' j → OneMore c' d x → Grows c d (j + 1)
grows_turn {x = x} {j} h o =
    record { most = λ n m. record { each = λ a k. omega (arith, (h.most n m).each a k, o.each a k, bit_small a x) } }

pub grows_most : {c c' : List ℕ} {j : ℕ} (k : ℕ) → j ≤ k → Grows c c' j → Grows c c' k
grows_most k l h = record { most = λ n m. record { each = λ a i. omega (arith, (h.most n m).each a i) } }

pub grown : {c c' : List ℕ} {j m : ℕ} (k : ℕ) → Grows c c' j → AtMost c m → m + j ≤ k → AtMost c' k
grown k h m l = record { each = λ a i. omega (arith, (h.most _ m).each a i) }
