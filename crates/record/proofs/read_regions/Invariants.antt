-- The loop follows `regions_from`, and the index has each region passed (`RegionsGoing`).
use Rattle.std.specs.Prelude.{◌≡◌}
use Rattle.record.specs.laws.IndexSteps.{RegionsGoing}
use Rattle.record.proofs.read_regions.Given as goal

abbrev pub invariant-loop-r : goal.invariant-loop-r
invariant-loop-r l = RegionsGoing l.n l.initial.c.end l.initial.c.at l.initial.w l.r-counter l.c.at l.w × (l.c.end ≡ l.initial.c.end)
