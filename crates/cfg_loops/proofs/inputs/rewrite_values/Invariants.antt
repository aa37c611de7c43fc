use Rattle.cfg_loops.specs.Inputs.{RewritesValues}
use Rattle.cfg_loops.proofs.inputs.rewrite_values.Given as goal

abbrev pub invariant-loop-k : goal.invariant-loop-k
invariant-loop-k l = RewritesValues l.n l.k l.initial.w l.initial.vs l.w l.vs
