use Rattle.std.proofs.Common.{refl, arith}
use Rattle.cfg_loops.specs.Inputs.{none_taken, one_taken}
use Rattle.cfg_loops.specs.laws.paths.InputsLaws.{few_kept, all_taken}
use Rattle.cfg_loops.proofs.inputs.take_inputs.Goals as goal

pub loop-k-init : goal.loop-k-init
loop-k-init c = (none_taken refl refl refl refl refl, omega arith)

pub loop-k-preserved : goal.loop-k-preserved
loop-k-preserved c =
    let taken = rw c.from-i.ensures at c.take_input-x.ensures in
    (rw c.from-i.ensures (one_taken c.loop-k.invariant.0 taken refl refl), few_kept taken c.loop-k.invariant.1)

pub returns : goal.returns
returns c = all_taken c.loop-k.invariant.0 (omega arith) (omega arith) refl
