-- Conditions made real: which values stand for a lazy condition, as the outputs stand.
use Rattle.std.specs.Prelude.{false, true, List, [], ◌∷◌, ◌⊎◌, ◌≡◌, suc, zero, ℕ, get_or}
use Rattle.std.proofs.Common.{inl, inr}
use Rattle.std.proofs.Math.Option.{Option, none, some}
use Rattle.meaning.specs.Graph.{Value, bool, bool_cond, output, undef}
use Rattle.meaning.specs.Runs.{Word, word}
use Rattle.meaning.specs.facts.Tests.{clash}
use Rattle.nesting.specs.Nesting.{LazyCond, LazyConds, ◌&◌, false_cond, merge, true_cond, undef_cond, no_conds, NodeOutput}
use Rattle.follows.specs.simulation.Key.{OutputAt}
use Rattle.follows.specs.simulation.Tables.{stays}
use Rattle.meaning.specs.facts.Elements.{Extends}

-- v is what materializing a condition gives, as the outputs stand
unfoldable mutual
  pub Mat : LazyCond → List NodeOutput → Value → Type 0
  Mat true_cond os v = v ≡ bool true
  Mat false_cond os v = v ≡ bool false
  Mat undef_cond os v = v ≡ undef 1
  Mat (merge n kind sc cs) os v =
      ((kind ≡ bool_cond) × (v ≡ sc) × Mats cs os (bool true ∷ bool false ∷ []))
      ⊎ ((k : ℕ) × (o : NodeOutput) × (v ≡ output k) × OutputAt n os k o × Mats cs os o.values)

  pub Mats : LazyConds → List NodeOutput → List Value → Type 0
  Mats no_conds os vs = vs ≡ []
  Mats (c & cs) os vs = (v : Value) × (ws : List Value) × (vs ≡ v ∷ ws) × Mat c os v × Mats cs os ws

-- A test of it succeeds.
pub record Truthy (w : Word) : Type 0 where
  pub less : ℕ
  pub is : w ≡ word (suc less)

abbrev pub condition_at : LazyConds → ℕ → Option LazyCond
condition_at no_conds j = none
condition_at (c & cs) zero = some c
condition_at (c & cs) (suc j) = condition_at cs j

pub mats_at : (cs : LazyConds) (os : List NodeOutput) (vs : List Value) (j : ℕ) (c : LazyCond) → Mats cs os vs → condition_at cs j ≡ some c
    → Mat c os (get_or vs j (undef 0))
unfolding Mats
mats_at no_conds os vs j c ms p = absurd (clash (cc))
mats_at (c' & cs) os vs zero c ms p = let e : c' ≡ c = cc in rw (ms.2, ← e) ms.3
mats_at (c' & cs) os vs (suc j) c ms p = rw ms.2 (mats_at cs os ms.1 j c ms.4 p)

-- ---- a condition stays
mutual
  unfolding Mat

  pub mat_stays : (c : LazyCond) (a b : List NodeOutput) → Extends a b → (v : Value) → Mat c a v → Mat c b v
  mat_stays true_cond a b p v h = h
  mat_stays false_cond a b p v h = h
  mat_stays undef_cond a b p v h = h
  mat_stays (merge n kind sc cs) a b p v (inl (x, y, ms)) = inl (x, y, mats_stay cs a b p _ ms)
  mat_stays (merge n kind sc cs) a b p v (inr (k, o, e, at_k, ms)) = inr (k, o, e, stays p at_k, mats_stay cs a b p _ ms)

  pub mats_stay : (cs : LazyConds) (a b : List NodeOutput) → Extends a b → (vs : List Value) → Mats cs a vs → Mats cs b vs
  mats_stay no_conds a b p vs h = h
  mats_stay (c & cs) a b p vs (v, ws, e, h, hs) = (v, ws, e, mat_stays c a b p v h, mats_stay cs a b p ws hs)
