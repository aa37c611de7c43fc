use Rattle.cfg_merging.specs.Rewriting.{rewrite_case}
use Rattle.cfg_merging.specs.Turns.{Left}
use Rattle.record.specs.Stands.{OfRecord}
use Rattle.cfg_merging.proofs.rewriting.rewrite_cases.Given as goal

abbrev pub invariant-loop-j : goal.invariant-loop-j
invariant-loop-j l = OfRecord l.initial.w (Left (λ l. l) (λ g m k. rewrite_case g m k) l.initial.w l.n l.w l.j)
