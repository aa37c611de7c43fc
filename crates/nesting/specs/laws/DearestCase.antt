-- Each case of a select costs at most the dearest.
use Rattle.std.specs.Prelude.{ℕ, zero, suc, ◌≤◌}
use Rattle.std.proofs.Common.{arith}
use Rattle.meaning.specs.Runs.{Nodes, ⟨⟩, Cases, ∅, case}
use Rattle.nesting.specs.Sheet.{figure, dearest}

-- the children of the case at place j
abbrev pub case_at : Cases → ℕ → Nodes
case_at ∅ j = ⟨⟩
case_at (case c ks cs) zero = ks
case_at (case c ks cs) (suc j) = case_at cs j

pub dearest_case : (test_cost : ℕ) (cs : Cases) (j : ℕ) → figure test_cost (case_at cs j) ≤ dearest test_cost cs
unfolding figure
dearest_case test_cost ∅ j = omega arith
dearest_case test_cost (case c ks cs) zero = omega arith
dearest_case test_cost (case c ks cs) (suc j) = let z = dearest_case test_cost cs j in omega arith
