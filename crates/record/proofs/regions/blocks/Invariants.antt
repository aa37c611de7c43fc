-- The loop follows `many`, and keeps the place of each block passed (`BlocksGoing`).
use Rattle.std.specs.Prelude.{◌≡◌, take}
use Rattle.record.specs.laws.RegionSteps.{BlocksGoing}
use Rattle.record.proofs.regions.blocks.Given as goal

abbrev pub invariant-loop-i : goal.invariant-loop-i
invariant-loop-i l = BlocksGoing l.n (take l.initial.c.end l.w) l.initial.c.at l.i l.c.at l.places × (l.c.end ≡ l.initial.c.end)
