use borrow.Author.Rules.{rules}
use Rattle.sheet_blocks.proofs.blocks.put_reads.Goals as goal

pub returns : goal.returns
returns c = λ g s x size.
    c.put_values.ensures g s x _ size (λ k v h called. search rules)
