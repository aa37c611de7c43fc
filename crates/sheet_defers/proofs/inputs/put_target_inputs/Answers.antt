use borrow.Author.Rules.{rules}
use Rattle.sheet_defers.specs.laws.Inputs.{count_is, input_is}
use Rattle.sheet_defers.proofs.inputs.put_target_inputs.Goals as goal

pub returns : goal.returns
returns c = λ g s x e shows.
    c.put_values.ensures g s x _ (count_is x shows c.target.ensures c.target_input_count-n.ensures)
    (λ k v h called. input_is x shows c.target.ensures c.target_input_count-n.ensures k h (search rules))
