use native.Mathlib.Omega.{arith}
use Rattle.sheet_selects.specs.laws.CaseNumbersLaws.{case_numbers_put}
use Rattle.sheet_selects.proofs.put_case_numbers.Goals as goal

pub returns : goal.returns
returns c =
    case_numbers_put _ (omega arith) c.put_regions-x.ensures
    c.put.ensures
