use mathlib.Core.Path.{sym, ap, ◌∙◌}
use Rattle.meaning.specs.Graph.{region}
use Rattle.fields.specs.Shape.{terminator_is}
use Rattle.text.specs.laws.BufferLaws.{◌▸◌, of_text}
use Rattle.text.specs.Text.{labeled}
use Rattle.text_record.specs.laws.Ends.{unreachable_text, return_text, exit_text, branch_text, bool_text, number_text}
use Rattle.text_record.proofs.regions.put_terminator.Goals as goal

pub returns-in-Unreachable : goal.returns-in-Unreachable
returns-in-Unreachable c =
    λ g s.
    let x = (region g c.args.r).terminator in
    of_text (unreachable_text x (ap (λ t. terminator_is t x) (sym c.in-Unreachable.is)
    ∙ c.terminator.ensures g s)) c.put_text.ensures

pub returns-in-Return : goal.returns-in-Return
returns-in-Return c =
    λ g s.
    let x = (region g c.args.r).terminator in
    of_text (return_text x (ap (λ t. terminator_is t x) (sym c.in-Return.is)
    ∙ c.terminator.ensures g s)) (c.put_end_values.ensures g s)

pub returns-in-ExitInvocation : goal.returns-in-ExitInvocation
returns-in-ExitInvocation c =
    λ g s.
    let x = (region g c.args.r).terminator in
    of_text (exit_text x _ (ap (λ t. terminator_is t x) (sym c.in-ExitInvocation.is) ∙ c.terminator.ensures g s))
    (c.put_labeled-place.ensures ▸ c.put_end_values-in-ExitInvocation.ensures g s)

pub returns-in-Branch : goal.returns-in-Branch
unfolding labeled
returns-in-Branch c =
    λ g s.
    let x = (region g c.args.r).terminator in
    of_text (branch_text x (ap (λ t. terminator_is t x) (sym c.in-Branch.is)
    ∙ c.terminator.ensures g s))
    (of_text (ap (labeled "branch to ") (c.target.ensures g s))
    c.put_labeled-place-in-Branch.ensures ▸ c.put_byte.ensures)

pub returns-in-SelectBool : goal.returns-in-SelectBool
returns-in-SelectBool c =
    λ g s.
    let x = (region g c.args.r).terminator in
    of_text (bool_text x (ap (λ t. terminator_is t x) (sym c.in-SelectBool.is) ∙ c.terminator.ensures g s))
    (c.put_select.ensures g s)

pub returns-in-SelectNumber : goal.returns-in-SelectNumber
returns-in-SelectNumber c =
    λ g s.
    let x = (region g c.args.r).terminator in
    of_text (number_text x (ap (λ t. terminator_is t x) (sym c.in-SelectNumber.is)
    ∙ c.terminator.ensures g s)) (c.put_select-in-SelectNumber.ensures g s)
