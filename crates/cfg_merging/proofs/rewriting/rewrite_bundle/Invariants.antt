use Rattle.cfg_merging.specs.Rewriting.{rewrite_input}
use Rattle.cfg_merging.specs.Turns.{turned}
use mathlib.Core.Path.{◌≡◌}
use Prim.Native.Nat.{◌-◌}
use Rattle.cfg_merging.proofs.rewriting.rewrite_bundle.Given as goal

abbrev pub invariant-loop-k : goal.invariant-loop-k
invariant-loop-k l = turned (λ m i. rewrite_input m l.p.0 i) l.w (l.n - l.k) l.k ≡ turned (λ m i. rewrite_input m l.p.0 i) l.initial.w l.n 0
