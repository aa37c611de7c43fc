use mathlib.Core.Path.{sym, ◌∙◌}
use Rattle.replay.specs.Agrees.{agrees}
use Rattle.vectors.proofs.Laws.{ended, kept}
use Rattle.replay.proofs.fed.Goals as goal

pub returns-then-ends : goal.returns-then-ends
returns-then-ends c =
    ended agrees (sym c.ends.ensures ∙ c.if-ends.true) c.agrees.ensures c.counted.ensures _

pub returns-else-ends : goal.returns-else-ends
returns-else-ends c =
    kept agrees (sym c.ends.ensures ∙ c.if-ends.false) c.requires c.keep.ensures
