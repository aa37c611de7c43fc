use mathlib.Core.Path.{◌∙◌}
use Rattle.state_words.specs.laws.Edges.{edges_fit}
use Rattle.sheet_words.specs.laws.PutInFrontLaws.{puts_then, puts_as}
use Rattle.sheet_defers.specs.laws.DeferParts.{line_is, condition_is}
use Rattle.sheet_defers.proofs.lines.put_bundle.Goals as goal

pub returns : goal.returns
returns c =
    λ g s x d e size shows. puts_as
    (puts_then
    (puts_then
    (puts_then (c.put_condition-condition.ensures _ (condition_is shows s c.args.r d c.condition_in.ensures size))
    (c.put_target_inputs-inputs.ensures g s x e shows))
    c.put_three-three.ensures)
    c.put_word.ensures)
    (line_is shows s c.args.r d c.target-to.ensures
    (c.to_word-count.ensures ∙ edges_fit _ c.accumulated_count.ensures.1 ∙ c.accumulated_count.ensures.0))
