-- The walk over a terminator's edges, each target once, by its first standing.
use Rattle.std.specs.Prelude.{◌≡◌, Bool, true, false, length, get_or, drop}
use Rattle.std.proofs.Math.Path.{refl, ap}
use Rattle.std.proofs.Common.{sym, ◌∙◌, add-one, arith}
use mathlib.Core.List.{List, ◌∷◌, map}
use Prim.Native.Nat.{ℕ, ◌+◌, ◌<◌}
use Rattle.std.proofs.Math.ListN.{length-map, get_or-map}
use Rattle.meaning.specs.Graph.{Edge, no_edge}
use Rattle.format.specs.Store.{Answer, accepted, if_accepted}
use Rattle.meaning.specs.Lists.{is_in, pick}
use Rattle.format.specs.References.{first_refusal, first_edges}
use Rattle.format.specs.laws.FirstEdges.{edges_again, edges_new, same_members}
use Rattle.fields.specs.ByNumber.{before, stands_before}
use Rattle.fields.specs.laws.Repeats.{stands_within}
use Rattle.meaning.specs.facts.Parts.{from_place, none_from}
use Rattle.meaning.specs.facts.Members.{seen_twice}
use Rattle.references.specs.laws.Walk.{Walk}

module _ (f : Edge → Answer Unit) (es : List Edge) {m : ℕ} (size : m ≡ length es) where
  pub edges_walk : Walk (λ k. first_refusal f (first_edges (before (map (λ e. e.target) es) k) (drop k es)))
      (λ k. pick (stands_before (map (λ e. e.target) es) k) (accepted tt) (f (get_or es k no_edge))) m
  unfolding first_refusal first_edges before
  edges_walk =
      record {
        more = λ k l. by_test k l (is_in (get_or ts k 0) (before ts k)) refl
            ∙ ap (λ b. if_accepted (pick b (accepted tt) (f (get_or es k no_edge)))
            (λ _. first_refusal f (first_edges (before ts (k + 1)) (drop (k + 1) es))))
            (sym (stands_within ts k (omega (arith, length-map es (λ e. e.target)))));
        done =
            λ k l. ap (λ us. first_refusal f (first_edges (before ts k) us)) (none_from es no_edge size k l);
      }
    where
      ts : List ℕ
      ts = map (λ e. e.target) es

      target : (k : ℕ) → get_or ts k 0 ≡ (get_or es k no_edge).target
      target k = get_or-map (λ e. e.target) es k no_edge

      next : (k : ℕ) → get_or ts k 0 ∷ before ts k ≡ before ts (k + 1)
      next k = ap (before ts) (sym (add-one k))

      by_test : (k : ℕ) → k < m → (b : Bool) → is_in (get_or ts k 0) (before ts k) ≡ b
          → first_refusal f (first_edges (before ts k) (drop k es)) ≡ if_accepted
          (pick (is_in (get_or ts k 0) (before ts k)) (accepted tt) (f (get_or es k no_edge)))
          (λ _. first_refusal f (first_edges (before ts (k + 1)) (drop (k + 1) es)))
      by_test k l true q =
          let known : is_in (get_or es k no_edge).target (before ts k) ≡ true = ap (λ t. is_in t (before ts k)) (sym (target k)) ∙ q in
          ap (λ us. first_refusal f (first_edges (before ts k) us)) (from_place es no_edge size k l)
          ∙ ap (first_refusal f) (edges_again (before ts k) (get_or es k no_edge) (drop (k + 1) es) known)
          ∙ ap (first_refusal f) (same_members (drop (k + 1) es) (before ts k) (before ts (k + 1))
          (λ x. sym (seen_twice x (get_or ts k 0) (before ts k) q) ∙ ap (is_in x) (next k)))
          ∙ sym (ap (λ c. if_accepted (pick c (accepted tt) (f (get_or es k no_edge)))
          (λ _. first_refusal f (first_edges (before ts (k + 1)) (drop (k + 1) es)))) q)
      by_test k l false q =
          let known : is_in (get_or es k no_edge).target (before ts k) ≡ false = ap (λ t. is_in t (before ts k)) (sym (target k)) ∙ q in
          ap (λ us. first_refusal f (first_edges (before ts k) us)) (from_place es no_edge size k l)
          ∙ ap (first_refusal f) (edges_new (before ts k) (get_or es k no_edge) (drop (k + 1) es) known)
          ∙ ap (λ seen. if_accepted (f (get_or es k no_edge)) (λ _. first_refusal f (first_edges seen (drop (k + 1) es))))
          (ap (λ t. t ∷ before ts k) (sym (target k)) ∙ next k)
          ∙ sym (ap (λ c. if_accepted (pick c (accepted tt) (f (get_or es k no_edge)))
          (λ _. first_refusal f (first_edges (before ts (k + 1)) (drop (k + 1) es)))) q)
