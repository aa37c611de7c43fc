use mathlib.Core.Path.{ap, ◌∙◌}
use Rattle.std.proofs.Common.{⊎_elim}
use Rattle.format.specs.References as format
use Rattle.references.specs.laws.Steps.{test_bool, test_number}
use Rattle.references.specs.Checks.{typed}
use Rattle.references.proofs.values_right.Goals as goal

pub returns-in-Unreachable : goal.returns-in-Unreachable
unfolding format.values_right
returns-in-Unreachable c g s =
    ⊎_elim (λ e. ap (format.values_right g _) (rw e at (c.terminator.ensures g s)))
    (λ e. ap (format.values_right g _) (rw e at (c.terminator.ensures g s)))
    c.in-Unreachable.is

pub returns-in-Return : goal.returns-in-Return
unfolding format.values_right
returns-in-Return c g s =
    c.returned_right.ensures g s ∙ ap (format.values_right g _)
    (rw c.in-Return.is at (c.terminator.ensures g s))

pub returns-in-ExitInvocation : goal.returns-in-ExitInvocation
unfolding format.values_right
returns-in-ExitInvocation c g s =
    c.exit_values_right.ensures g s ∙ ap (format.values_right g _)
    (rw c.in-ExitInvocation.is at (c.terminator.ensures g s))

pub returns-in-SelectBool : goal.returns-in-SelectBool
returns-in-SelectBool c g s =
    c.named_of_type.ensures g s ∙ ap (typed g _ 1) (c.value.ensures g s)
    ∙ test_bool g _ _ (rw c.in-SelectBool.is at (c.terminator.ensures g s))

pub returns-in-SelectNumber : goal.returns-in-SelectNumber
returns-in-SelectNumber c g s =
    c.named_right.ensures g s ∙ rw (c.instruction_count.ensures g s)
    (ap (format.named_right g _ _) (c.value-in-SelectNumber.ensures g s)
    ∙ test_number g _ _ (rw c.in-SelectNumber.is at (c.terminator.ensures g s)))
