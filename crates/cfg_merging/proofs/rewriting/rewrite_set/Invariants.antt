use Rattle.cfg_merging.specs.Rewriting.{rewrite_bundle}
use Rattle.cfg_merging.specs.Turns.{Left}
use Rattle.record.specs.Stands.{OfRecord}
use Rattle.state_sets.specs.SetTables.{bundle_at}
use Rattle.cfg_merging.proofs.rewriting.rewrite_set.Given as goal

abbrev pub invariant-loop-i : goal.invariant-loop-i
invariant-loop-i l = OfRecord l.initial.w (Left (λ l. l) (λ g m k. rewrite_bundle g m (bundle_at l.start.0 k)) l.initial.w l.n l.w l.i)
