-- `put_numbers` meets its contract. The measure is the list's handle: a list within a list has an earlier one. The loop's invariant: the
-- numbers behind list h are put.
use Prim.Native.Nat.{◌≤◌}
use Rattle.sheet_regions.specs.Lists.{ListPut}
use Rattle.sheet_regions.proofs.+put_numbers.Given as goal

abbrev pub invariant-loop-h : goal.invariant-loop-h
invariant-loop-h l = ListPut l.w l.initial.h.0 l.h.0 l.initial.out l.initial.y l.out l.y × (l.h.0 ≤ l.initial.h.0)

abbrev pub decreases-loop-h : goal.decreases-loop-h
decreases-loop-h l = l.h.0

abbrev pub decreases-put_numbers : goal.decreases-put_numbers
decreases-put_numbers l = l.list.0
