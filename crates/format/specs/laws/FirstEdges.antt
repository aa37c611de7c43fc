-- The edges to the targets that stand for the first time, edge by edge.
use Rattle.std.specs.Prelude.{◌≡◌, refl, Bool, true, false, ◌||◌, List, [], ◌∷◌, ℕ, eqb}
use Rattle.std.proofs.Common.{sym, ap, ◌∙◌}
use Rattle.meaning.specs.Graph.{Edge}
use Rattle.meaning.specs.Lists.{is_in}
use Rattle.format.specs.References.{first_edges}

-- One edge more.
pub edges_again : (seen : List ℕ) (e : Edge) (es : List Edge) → is_in e.target seen ≡ true → first_edges seen (e ∷ es) ≡ first_edges
    seen es
unfolding first_edges
edges_again seen e es h = rw (h, first_edges)

pub edges_new : (seen : List ℕ) (e : Edge) (es : List Edge) → is_in e.target seen ≡ false
    → first_edges seen (e ∷ es) ≡ e ∷ first_edges (e.target ∷ seen) es
unfolding first_edges
edges_new seen e es h = rw (h, first_edges)

-- What stood before counts by its members alone.
pub same_members : (es : List Edge) (seen other : List ℕ) → ((x : ℕ) → is_in x seen ≡ is_in x other)
    → first_edges seen es ≡ first_edges other es
unfolding first_edges
same_members [] seen other same = refl
same_members (e ∷ es) seen other same =
    by_test (is_in e.target seen) refl (same_members es seen other same)
    (same_members es (e.target ∷ seen) (e.target ∷ other) (λ x. ap (λ b. eqb x e.target || b) (same x)))
  where
    by_test : (b : Bool) → is_in e.target seen ≡ b → first_edges seen es ≡ first_edges other es
        → first_edges (e.target ∷ seen) es ≡ first_edges (e.target ∷ other) es → first_edges seen (e ∷ es) ≡ first_edges other (e ∷ es)
    by_test true q again new = edges_again seen e es q ∙ again ∙ sym (edges_again other e es (sym (same e.target) ∙ q))
    by_test false q again new = edges_new seen e es q ∙ ap (λ l. e ∷ l) new ∙ sym (edges_new other e es (sym (same e.target) ∙ q))
