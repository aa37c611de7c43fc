use mathlib.Core.Path.{sym, ap, ◌∙◌}
use native.Mathlib.Omega.{arith}
use Rattle.fields.specs.laws.Numbered.{this_block, later_block, no_block}
use Rattle.fields.proofs.output_type.Goals as goal

pub returns-then-left-length : goal.returns-then-left-length
returns-then-left-length c g s =
    ap (λ x. x.ty) (c.instruction.ensures g s)
    ∙ ap (λ x. x.type) (sym (this_block _ (c.block_count-n.ensures g s) _ _ c.loop-b-test.true
    (rw (c.block_length-length.ensures g s) at c.if-left-length.true)))
    ∙ c.loop-b.invariant g s

pub loop-b-preserved : goal.loop-b-preserved
loop-b-preserved c g s =
    rw (c.block_length-length.ensures g s)
    (ap (λ x. x.type) (sym (later_block _ (c.block_count-n.ensures g s) _ _
    c.loop-b-test.true (rw (c.block_length-length.ensures g s) at c.if-left-length.false)))
    ∙ c.loop-b.invariant g s)

pub returns : goal.returns
returns c g s =
    sym (ap (λ x. x.type) (no_block _ (c.block_count-n.ensures g s) _ _ c.loop-b-test.false))
    ∙ c.loop-b.invariant g s
