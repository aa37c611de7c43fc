use Rattle.cfg_merging.specs.Rewriting.{rewrite_case_input}
use Rattle.cfg_merging.specs.Turns.{turned}
use mathlib.Core.Path.{◌≡◌}
use Prim.Native.Nat.{◌-◌}
use Rattle.cfg_merging.proofs.rewriting.rewrite_inputs.Given as goal

abbrev pub invariant-loop-k : goal.invariant-loop-k
invariant-loop-k l = turned (λ m i. rewrite_case_input m l.j i) l.w (l.n - l.k) l.k ≡ turned (λ m i. rewrite_case_input m l.j i) l.initial.w l.n 0
