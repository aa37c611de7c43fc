use mathlib.Core.Path.{refl}
use native.Mathlib.Omega.{arith}
use Rattle.sheet_words.specs.laws.Rows.{run_start}
use Rattle.sheet_selects.specs.OwnOutputs.{own, case_value}
use Rattle.sheet_selects.specs.laws.OwnOutputsLaws.{own_put, other_passed, own_counted, other_not_counted, case_outputs_put}
use Rattle.sheet_selects.proofs.put_case_outputs.Goals as goal

pub loop-o-init : goal.loop-o-init
loop-o-init c = (
  λ g s x. run_start (own c.args.w.now c.args.node (case_value
      c.args.w.now c.args.j s)) c.output_count-o.result c.args.out.now
      c.args.at,
  omega arith,
  omega arith,
)

pub loop-o-preserved-then-output_node-node : goal.loop-o-preserved-then-output_node-node
loop-o-preserved-then-output_node-node c = (
  λ g s x. own_put _ _ (case_value _ _ s) _ _ c.output_node.ensures
      c.loop-o-test.true (omega arith)
      (c.loop-o.invariant.0 g s x)
      c.if-output_node-node.true (rw c.output_value.ensures at
      (c.put_value-e.ensures g s x)),
  own_counted _ _ _ _ _ c.output_node.ensures
      c.loop-o-test.true
      c.loop-o.invariant.1
      c.if-output_node-node.true refl,
  omega arith,
)

pub loop-o-preserved : goal.loop-o-preserved
loop-o-preserved c = (
  λ g s x. other_passed _ _ (case_value _ _ s) _ _ c.output_node.ensures c.loop-o-test.true (omega arith)
      (c.loop-o.invariant.0 g s x) c.if-output_node-node.false refl refl,
  other_not_counted _ _ _ _ _ c.output_node.ensures c.loop-o-test.true
      c.loop-o.invariant.1 c.if-output_node-node.false refl,
  omega arith,
)

pub returns : goal.returns
returns c =
    case_outputs_put _ _ _ c.output_count-o.ensures
    c.loop-o-test.false c.loop-o.invariant.1
    c.put_word.ensures _ c.loop-o.invariant.0
