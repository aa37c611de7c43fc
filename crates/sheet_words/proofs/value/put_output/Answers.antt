use mathlib.Core.Path.{refl}
use borrow.Author.Rules.{rules}
use Rattle.sheet_words.specs.laws.PutInFrontLaws.{nothing_lent}
use Rattle.sheet_words.proofs.value.put_output.Goals as goal
use Rattle.sheet_words.proofs.value.put_output.Goals.{then-is_empty, else-is_empty}

pub returns : goal.returns
returns c =
    elim c.if-is_empty.branch [
      | then-is_empty w ↦ nothing_lent (search rules) refl refl c.put_three.ensures
      | else-is_empty w ↦ rw (← c.node_of-node.ensures, ← w.place_among-place.ensures, ← w.place-is) c.put_three.ensures
    ]
