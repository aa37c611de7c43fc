use Rattle.sheet_regions.specs.Lists.{BlocksPut}
use Rattle.sheet_regions.proofs.put_block_numbers.Given as goal

abbrev pub invariant-loop-b : goal.invariant-loop-b
invariant-loop-b l = BlocksPut l.w l.r l.first l.b l.initial.out l.initial.y l.out l.y
