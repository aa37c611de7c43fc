use Rattle.state_sets.specs.laws.Finds.{find_found, find_turn, find_stop}
use mathlib.Core.Path.{sym, ◌∙◌}
use Rattle.state_sets.proofs.sets.find_by_target.Goals as goal

pub returns-then-target-t-clause-number : goal.returns-then-target-t-clause-number
returns-then-target-t-clause-number c = c.numbered.ensures.number ∙ c.bundle_at-b.ensures
    ∙ find_found _ _ _ _ _ c.loop-i-test.true (rw c.bundle_at-b.ensures at (sym c.target.ensures ∙ c.if-target-t.true))
    c.loop-i.invariant

pub loop-i-preserved : goal.loop-i-preserved
loop-i-preserved c = find_turn _ _ _ _ _ c.loop-i-test.true
    (λ e. c.if-target-t.false (c.target.ensures ∙ rw c.bundle_at-b.ensures e))
    c.loop-i.invariant

pub returns-clause-number : goal.returns-clause-number
returns-clause-number c = find_stop _ _ _ _ _ c.loop-i-test.false c.loop-i.invariant
