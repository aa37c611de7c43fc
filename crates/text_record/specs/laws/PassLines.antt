-- The pass lines of a terminator and the lists of values that it was read with: each list stands in one line.
use Rattle.std.specs.Prelude.{◌≡◌, Bool, length, eqb}
use Rattle.std.proofs.Math.Path.{refl, ap}
use Rattle.std.proofs.Common.{sym, ◌∙◌, arith, eq-eqb, ne_eqb}
use Rattle.std.proofs.Math.Bool.{true, false}
use mathlib.Core.List.{List, [], ◌∷◌, map}
use Prim.Native.Nat.{ℕ, ◌+◌, ◌≤◌}
use Rattle.std.proofs.Math.ListN.{get_or}
use Rattle.std.proofs.lemmas.Bool.{eqb-false}
use Rattle.meaning.specs.Graph.{Value, Edge}
use Rattle.meaning.specs.Lists.{total, is_in, Distinct, distinct_from, rank}
use Rattle.format.specs.Read.{edges_passed}
use Rattle.format.specs.References.{first_edges}
use Rattle.meaning.specs.facts.Tests.{neither}
use Rattle.meaning.specs.facts.Distinct.{distinct, rank_here, rank_next}

-- The edges to the targets that stand for the first time.
module _ (passed : ℕ → List Value) where
  abbrev edge_to : ℕ → Edge
  edge_to t = record { target = t; inputs = passed t }

  first_edges_are : (ts seen : List ℕ) → first_edges seen (map edge_to ts) ≡ map edge_to (distinct_from seen ts)
  unfolding first_edges distinct_from
  first_edges_are [] seen = refl
  first_edges_are (t ∷ ts) seen = by_test (is_in t seen) (first_edges_are ts seen) (first_edges_are ts (t ∷ seen))
    where
      by_test : (b : Bool) → first_edges seen (map edge_to ts) ≡ map edge_to (distinct_from seen ts)
          → first_edges (t ∷ seen) (map edge_to ts) ≡ map edge_to (distinct_from (t ∷ seen) ts)
          → elim b [ true ↦ first_edges seen (map edge_to ts) | false ↦ edge_to t ∷ first_edges (t ∷ seen) (map edge_to ts) ] ≡ map edge_to
          (elim b [ true ↦ distinct_from seen ts | false ↦ t ∷ distinct_from (t ∷ seen) ts ])
      by_test true again new = again
      by_test false again new = ap (λ es. edge_to t ∷ es) new

-- The list at the rank of each distinct target: every list once.
module _ (f : List Value → ℕ) where
  abbrev ranked : List (List Value) → List ℕ → ℕ → ℕ
  ranked passes ts t = f (get_or passes (rank t ts) [])

  behind : (d : ℕ) (p : List Value) (ps : List (List Value)) (ds us : List ℕ) → is_in d us ≡ false
      → total (ranked (p ∷ ps) (d ∷ ds)) us ≡ total (ranked ps ds) us
  behind d p ps ds [] h = refl
  behind d p ps ds (u ∷ us) h =
      let apart = neither (eqb d u) (is_in d us) h in
      let other : eqb u d ≡ false = ne_eqb u d (λ e. eqb-false d u apart.0 (sym e)) in
      ap (λ n. f (get_or (p ∷ ps) n []) + total (ranked (p ∷ ps) (d ∷ ds)) us) (rank_next u d ds other)
      ∙ ap (λ n. ranked ps ds u + n) (behind d p ps ds us apart.1)

  ranked_total : (ds : List ℕ) → Distinct ds → (passes : List (List Value)) → length passes ≡ length ds
      → total (ranked passes ds) ds ≤ total f passes
  ranked_total [] w passes h = omega arith
  ranked_total (d ∷ ds) w [] h = absurd (omega arith)
  ranked_total (d ∷ ds) w (p ∷ ps) h =
      let here : ranked (p ∷ ps) (d ∷ ds) d ≡ f p = ap (λ n. f (get_or (p ∷ ps) n [])) (rank_here d d ds (eq-eqb d d refl)) in
      omega (arith, behind d p ps ds ds w.0, ranked_total ds w.1 ps (omega arith))

  over_edges : (passed : ℕ → List Value) (ts : List ℕ)
      → total (λ (e : Edge). f e.inputs) (map (edge_to passed) ts) ≡ total (λ t. f (passed t)) ts
  over_edges passed [] = refl
  over_edges passed (t ∷ ts) = ap (λ n. f (passed t) + n) (over_edges passed ts)

  pub pass_lists : (ts : List ℕ) (passes : List (List Value)) → length passes ≡ length (distinct_from [] ts)
      → total (λ (e : Edge). f e.inputs) (first_edges [] (edges_passed ts passes)) ≤ total f passes
  unfolding edges_passed
  pass_lists ts passes h =
      let passed : ℕ → List Value = λ t. get_or passes (rank t (distinct_from [] ts)) [] in
      let same = ap (total (λ (e : Edge). f e.inputs)) (first_edges_are passed ts []) ∙ over_edges passed (distinct_from [] ts) in
      omega (arith, same, ranked_total (distinct_from [] ts) (distinct ts []) passes h)
