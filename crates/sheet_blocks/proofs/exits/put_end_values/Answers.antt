use borrow.Author.Rules.{rules}
use Rattle.sheet_blocks.proofs.exits.put_end_values.Goals as goal

pub returns : goal.returns
returns c = λ g s x.
    c.put_values.ensures g s x _ (c.value_count-n.ensures g x.state.stands) (λ k v h called. search rules)
