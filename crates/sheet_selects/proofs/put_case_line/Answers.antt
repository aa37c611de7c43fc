use Rattle.sheet_selects.specs.laws.SelectLinesLaws.{case_line_put}
use Rattle.sheet_selects.proofs.put_case_line.Goals as goal

pub returns : goal.returns
returns c =
    case_line_put _ _ _ _
    c.put_case_outputs-outputs.ensures c.case_region-r.ensures c.children_of_case-list.ensures
    c.put_region_line.ensures
