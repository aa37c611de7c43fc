-- The measure is the condition's number: a part's is smaller. The loop's invariant: the parts from place j on are put.
use Prim.Native.Nat.{◌-◌}
use Rattle.nesting.specs.Nesting.{LazyCond}
use Rattle.state_shown.specs.Tables.{ShowsCond}
use Rattle.sheet_words.specs.PutInFront.{Puts}
use Rattle.sheet_words.specs.laws.Rows.{run}
use Rattle.sheet_defers.specs.Conditions.{condition_part}
use Rattle.sheet_defers.proofs.conditions.+put_condition.Given as goal

abbrev pub invariant-loop-j : goal.invariant-loop-j
invariant-loop-j l =
    (t : LazyCond) → ShowsCond l.w l.c t → Puts l.initial.out l.initial.to (run (condition_part t) l.j (l.n - l.j)) l.out l.to

abbrev pub decreases-put_condition : goal.decreases-put_condition
decreases-put_condition l = l.c
