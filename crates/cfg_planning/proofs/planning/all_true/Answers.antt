use Prim.Native.Nat.{◌≤◌}
use Rattle.std.proofs.Common.{rules, tests, refl, ◌∙◌, arith, ap}
use lib.ListN.{get_or}
use Rattle.std.proofs.lemmas.Iterator.{YieldsList-from_range, serves_from_Range}
use Rattle.std.proofs.lemmas.Iterator.Search.{all_from_yields_List}
use Rattle.cfg_planning.specs.Planning.{all_from, is_true, per_case_condition}
use Rattle.cfg_planning.specs.laws.paths.PlanningLaws.{few_total, all_listed}
use Rattle.cfg_planning.proofs.planning.all_true.Goals as goal

pub all-requires-clause-callable : goal.all-requires-clause-callable
all-requires-clause-callable c =
    let few : c.case_count.result ≤ 8 = few_total _ _ c.case_count.ensures in
    serves_from_Range (λ x q k. search rules) (λ x a b. search rules)

pub returns : goal.returns
returns c =
    all_from_yields_List (λ j. is_true (per_case_condition c.args.w.now j (get_or c.args.places.now j 0))) _ _ c.all.result c.all.ensures.ran
    (YieldsList-from_range 0 c.case_count.result c.case_count.result refl (omega arith)) (λ x b q k. search (rules, tests))
    ∙ all_listed c.args.w.now c.args.places.now c.case_count.result 0 ∙ ap (λ n. all_from c.args.w.now c.args.places.now n 0) c.case_count.ensures
