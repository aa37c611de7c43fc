use Rattle.fields.specs.ByNumber.{BlocksBefore}
use Rattle.fields.proofs.blocks_before.Given as goal

abbrev pub invariant-loop-i : goal.invariant-loop-i
invariant-loop-i l = BlocksBefore l.w l.i l.sum
