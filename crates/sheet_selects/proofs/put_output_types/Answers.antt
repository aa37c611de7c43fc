use mathlib.Core.Path.{refl}
use native.Mathlib.Omega.{arith}
use Rattle.sheet_words.specs.laws.Rows.{run_start}
use Rattle.sheet_selects.specs.OwnOutputs.{own, type_word}
use Rattle.sheet_selects.specs.laws.OwnOutputsLaws.{own_put, other_passed, own_counted, other_not_counted, output_types_put}
use Rattle.sheet_selects.proofs.put_output_types.Goals as goal

pub loop-o-init : goal.loop-o-init
loop-o-init c = (
  run_start (own c.args.w.now c.args.node (type_word
      c.args.w.now)) c.output_count-o.result c.args.out.now
      c.args.at,
  omega arith,
  omega arith,
)

pub loop-o-preserved-then-output_node-node : goal.loop-o-preserved-then-output_node-node
loop-o-preserved-then-output_node-node c = (
  own_put _ _ (type_word _) _ _ c.output_node.ensures
      c.loop-o-test.true (omega arith)
      c.loop-o.invariant.0
      c.if-output_node-node.true (rw c.output_type.ensures at
      c.put_word-e.ensures),
  own_counted _ _ _ _ _ c.output_node.ensures
      c.loop-o-test.true
      c.loop-o.invariant.1
      c.if-output_node-node.true refl,
  omega arith,
)

pub loop-o-preserved : goal.loop-o-preserved
loop-o-preserved c = (
  other_passed _ _ (type_word _) _ _ c.output_node.ensures c.loop-o-test.true (omega arith)
      c.loop-o.invariant.0 c.if-output_node-node.false refl refl,
  other_not_counted _ _ _ _ _ c.output_node.ensures c.loop-o-test.true
      c.loop-o.invariant.1 c.if-output_node-node.false refl,
  omega arith,
)

pub returns : goal.returns
returns c =
    output_types_put _ _ _ c.output_count-o.ensures
    c.loop-o-test.false c.loop-o.invariant.1
    c.put_word.ensures c.loop-o.invariant.0
