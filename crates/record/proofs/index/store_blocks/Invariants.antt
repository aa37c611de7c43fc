-- The loop's invariant: the words stored so far are a row, and no other word changed.
use lib.ListN.{get_or}
use Rattle.record.specs.Index.{Row}
use Rattle.record.proofs.index.store_blocks.Given as goal

abbrev pub invariant-loop-b : goal.invariant-loop-b
invariant-loop-b l = Row l.initial.w l.w l.at l.b (λ k. get_or l.places k 0)
