use Rattle.sheet_nodes.specs.Regions.{SetsFrom}
use Rattle.sheet.proofs.leftover.put_sets.Given as goal

abbrev pub invariant-loop-r : goal.invariant-loop-r
invariant-loop-r l = SetsFrom l.w l.initial.r l.r l.initial.out l.initial.e l.out l.e
