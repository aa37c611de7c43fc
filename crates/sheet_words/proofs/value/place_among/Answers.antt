use mathlib.Core.Path.{refl}
use native.Mathlib.Omega.{arith}
use Rattle.sheet_words.specs.Outputs.{node_times}
use Rattle.sheet_words.specs.laws.OutputsLaws.{one_more, no_more}
use Rattle.sheet_words.proofs.value.place_among.Goals as goal
use Rattle.sheet_words.proofs.value.place_among.Goals.{then-output_node-node, else-output_node-node}

pub loop-i-init : goal.loop-i-init
unfolding node_times
loop-i-init c = (refl, omega arith)

pub loop-i-preserved : goal.loop-i-preserved
loop-i-preserved c =
    let args = c.args in
    let read = c.output_node.ensures in (
      elim c.if-output_node-node.branch [
        | then-output_node-node w ↦
            one_more args.w.now args.node c.loop-i.i c.loop-i.invariant.0 read w.if-output_node-node.true w.sum-is
        | else-output_node-node w ↦
            no_more args.w.now args.node c.loop-i.i c.loop-i.invariant.0 read w.if-output_node-node.false w.sum-is
      ],
      elim c.if-output_node-node.branch [
        | then-output_node-node w ↦ omega (arith, w.sum-is)
        | else-output_node-node w ↦ omega (arith, w.sum-is)
      ],
    )
