use Rattle.cfg_bundles.specs.laws.paths.Paths.{run_then}
use mathlib.Core.List.{[], ◌∷◌}
use Rattle.state_words.specs.Sections.{bundles}
use Rattle.state_words.specs.Totals.{edges_word}
use Rattle.cfg_bundles.proofs.bundles.put_bundle.Goals as goal

pub returns : goal.returns
returns c = run_then _ bundles _
    (c.args.t ∷ edges_word c.args.n.0
    ∷ c.args.c ∷ []) _ c.set_bundle.ensures c.set_target_inputs.ensures
