use Rattle.sheet_selects.specs.laws.SelectLinesLaws.{select_line_put}
use Rattle.sheet_selects.proofs.put_select_line.Goals as goal

pub returns : goal.returns
returns c =
    select_line_put _ _
    c.select_node-node.ensures
    c.put_output_types-types.ensures
    c.select_cases.ensures
    c.put_case_numbers-cases.ensures c.select_scrutinee.ensures
    c.put_value-value.ensures
    c.select_shape.ensures c.kind_word-kind.ensures
    c.put_three.ensures
