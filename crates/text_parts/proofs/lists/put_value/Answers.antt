use mathlib.Core.Path.{sym, ap, refl, ◌∙◌}
use Rattle.fields.specs.Shape.{value_is}
use Rattle.text.specs.Text.{labeled}
use Rattle.text.specs.laws.BufferLaws.{of_text}
use Rattle.text_parts.specs.Listing.{value_listing}
use Rattle.text_parts.proofs.lists.put_value.Goals as goal

pub returns-then-b : goal.returns-then-b
unfolding value_listing labeled
returns-then-b c =
    of_text (sym (ap (λ v. value_listing (value_is v)) c.in-Bool.is ∙ rw c.if-b.true refl))
    c.put_text.ensures

pub returns-in-Const : goal.returns-in-Const
unfolding value_listing labeled
returns-in-Const c =
    of_text (sym (ap (λ v. value_listing (value_is v)) c.in-Const.is)) c.put_labeled.ensures

pub returns-in-Input : goal.returns-in-Input
unfolding value_listing
returns-in-Input c =
    of_text (sym (ap (λ v. value_listing (value_is v)) c.in-Input.is)) c.put_of_region.ensures

pub returns-in-Instr : goal.returns-in-Instr
unfolding value_listing
returns-in-Instr c =
    of_text (sym (ap (λ v. value_listing (value_is v)) c.in-Instr.is)) c.put_of_region-in-Instr.ensures

pub returns-else-b : goal.returns-else-b
unfolding value_listing
returns-else-b c =
    of_text (sym (ap (λ v. value_listing (value_is v)) c.in-Bool.is ∙ rw c.if-b.false refl))
    c.put_text-in-Bool.ensures

pub returns-in-Undef : goal.returns-in-Undef
unfolding value_listing labeled
returns-in-Undef c =
    of_text (sym (ap (λ v. value_listing (value_is v)) c.in-Undef.is)) c.put_labeled-in-Undef.ensures

pub returns-in-Nothing : goal.returns-in-Nothing
unfolding value_listing labeled
returns-in-Nothing c =
    of_text (sym (ap (λ v. value_listing (value_is v)) c.in-Nothing.is)) c.put_labeled-in-Nothing.ensures
