use mathlib.Core.Path.{sym, ◌∙◌}
use Rattle.replay_sheets.proofs.Words.{as_long, differs_here, same_here, same_to_end}
use Rattle.replay_sheets.proofs.sheets.is_written.Goals as goal

pub returns-then-out-i : goal.returns-then-out-i
returns-then-out-i c =
    differs_here _ _ (c.requires.0 ∙ as_long _ _ c.requires.1) c.loop-i.i
    c.loop-i-test.true (λ e. c.if-out-i.true (e ∙ sym c.word_at.ensures))
    ∙ c.loop-i.invariant

pub loop-i-preserved : goal.loop-i-preserved
loop-i-preserved c =
    same_here _ _ (c.requires.0 ∙ as_long _ _ c.requires.1) c.loop-i.i
    c.loop-i-test.true (c.if-out-i.false ∙ c.word_at.ensures)
    ∙ c.loop-i.invariant

pub returns : goal.returns
returns c =
    same_to_end _ _ (c.requires.0 ∙ as_long _ _ c.requires.1) c.loop-i.i c.loop-i-test.false
    ∙ c.loop-i.invariant
