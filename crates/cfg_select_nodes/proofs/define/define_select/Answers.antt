use Rattle.cfg_select_nodes.specs.Selects.{regions_full, scrutinee_full, node_full, select_defined}
use Rattle.state_words.specs.laws.Filled.{full_of_err}
use borrow.Author.Rules.{rules}
use Rattle.cfg_select_nodes.proofs.define.define_select.Goals as goal

pub returns-in_err-case_regions : goal.returns-in_err-case_regions
returns-in_err-case_regions c =
    rw (full_of_err c.from_residual.ensures.0) (regions_full (rw c.in_err-case_regions.was at c.case_regions.ensures))

pub returns-in_err-v : goal.returns-in_err-v
returns-in_err-v c =
    rw (full_of_err c.from_residual-in_err-v.ensures.0)
    (scrutinee_full (rw c.in_ok-case_regions.was at c.case_regions.ensures) (rw c.in_err-v.was at c.scrutinee_value.ensures))

pub returns-in_err-node : goal.returns-in_err-node
returns-in_err-node c =
    rw (full_of_err c.from_residual-in_err-node.ensures.0)
    (node_full (rw c.in_ok-case_regions.was at c.case_regions.ensures)
    (rw c.in_ok-v.was at c.scrutinee_value.ensures)
    (rw c.in_err-node.was at c.define_node.ensures))

pub returns : goal.returns
returns c =
    select_defined (rw c.in_ok-case_regions.was at c.case_regions.ensures)
    (rw c.in_ok-v.was at c.scrutinee_value.ensures)
    (rw c.in_ok-node.was at c.define_node.ensures)
    c.add_select-h.ensures
