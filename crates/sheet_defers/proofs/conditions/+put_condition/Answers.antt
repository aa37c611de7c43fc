use native.Mathlib.Omega.{arith}
use Rattle.sheet_words.specs.laws.PutInFrontLaws.{puts_then, puts_as}
use Rattle.sheet_words.specs.laws.Rows.{run_start, run_turn, run_all}
use Rattle.sheet_defers.specs.laws.ConditionsLaws.{part_turn, merge_is}
use Rattle.sheet_defers.specs.laws.ConditionsLaws.{low_condition, part_falls}
use Rattle.sheet_defers.proofs.conditions.+put_condition.Goals as goal

pub returns-then-c-lt-MERGE : goal.returns-then-c-lt-MERGE
returns-then-c-lt-MERGE t c =
    low_condition c.args.w.now c.if-c-lt-MERGE.true c.put_word.ensures

pub loop-j-init : goal.loop-j-init
loop-j-init t c = λ t x. run_start _ _ _ _

pub put_condition-to-requires : goal.put_condition-to-requires
put_condition-to-requires t c =
    (omega (arith, part_falls _ c.cond_part.ensures c.if-c-lt-MERGE.false), tt)

pub loop-j-preserved : goal.loop-j-preserved
loop-j-preserved t c =
    λ t x. run_turn _ _ _ c.loop-j-test.true c.loop-j.auto.j (c.loop-j.invariant t x)
    (part_turn c.args.w.now c.if-c-lt-MERGE.false c.shape_size-n.ensures c.cond_shape.ensures (omega arith)
    c.cond_part.ensures c.put_condition-to.ensures x)

pub returns-after-loop-j : goal.returns-after-loop-j
returns-after-loop-j t c =
    λ t x. puts_as (puts_then (run_all _ _ _ c.loop-j-test.false (c.loop-j.invariant t x)) c.put_three.ensures)
    (merge_is c.args.w.now c.if-c-lt-MERGE.false c.shape_size-n.ensures c.cond_shape.ensures
    c.cond_node.ensures x)
