use Rattle.std.proofs.Common.{refl, arith}
use Rattle.cfg_loops.specs.Inputs.{none_yet, one_more}
use Rattle.cfg_loops.specs.laws.paths.InputsLaws.{all_rewritten}
use Rattle.cfg_loops.proofs.inputs.rewrite_values.Goals as goal

pub loop-k-init : goal.loop-k-init
loop-k-init c = none_yet refl refl refl

pub loop-k-preserved : goal.loop-k-preserved
loop-k-preserved c = rw c.from-i.ensures (one_more c.loop-k.invariant (rw c.from-i.ensures at c.rewrite_value.ensures) refl refl)

pub returns : goal.returns
returns c = all_rewritten c.loop-k.invariant (omega arith) (omega arith)
