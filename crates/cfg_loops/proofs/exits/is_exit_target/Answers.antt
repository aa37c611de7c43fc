use Rattle.std.proofs.Common.{◌∙◌, refl, eqb, get_or, rules, tests, arith}
use Rattle.std.proofs.lemmas.Iterator.{YieldsList-from_range}
use Rattle.std.proofs.lemmas.Iterator.Search.{any_from_yields_List}
use Rattle.meaning.specs.Graph.{region}
use Rattle.nesting.specs.Nesting.{exit_targets}
use Rattle.cfg_loops.specs.laws.paths.ExitsLaws.{any_in_places}
use Rattle.cfg_loops.proofs.exits.is_exit_target.Goals as goal

pub returns : goal.returns
unfolding exit_targets
returns c = λ g s.
    any_from_yields_List (λ k. eqb (get_or (region g c.args.r).exits k 0) c.args.t) _ _ _ c.any.ensures.ran
    (YieldsList-from_range 0 c.exit_count.result c.exit_count.result refl (omega arith))
    (λ x b q k. search (rules, tests))
    ∙ any_in_places _ _ (c.exit_count.ensures g s)
