use borrow.Author.Rules.{rules}
use Rattle.cfg_regions.specs.ByInst.{no_blocks, some_blocks}
use mathlib.Core.Path.{sym, ◌∙◌}
use Rattle.cfg_regions.proofs.inst.add_blocks.Goals as goal
use Rattle.cfg_regions.proofs.inst.add_blocks.Goals.{then-block_count-eq0, else-block_count-eq0}

pub returns : goal.returns
returns c = elim c.if-block_count-eq0.branch [
  | then-block_count-eq0 w ↦ λ g st.
      no_blocks (sym (c.block_count.ensures g st) ∙ w.if-block_count-eq0.true) (rw (w.w-is, w.h-is) at c.set_children.ensures)
  | else-block_count-eq0 w ↦ λ g st.
      some_blocks (λ e. w.if-block_count-eq0.false (c.block_count.ensures g st ∙ e)) w.add_cell-h.ensures
      (rw (w.w-is, w.h-is) at c.set_children.ensures)
]
