use mathlib.Core.Path.{sym, ap, subst, ◌∙◌}
use Rattle.text.specs.Whole.{Whole, written_to}
use Rattle.text.specs.laws.WholeTexts.{whole}
use Rattle.text.specs.Text.{labeled, refusal_text}
use Rattle.text.specs.laws.BufferLaws.{◌▸◌}
use Rattle.text.proofs.refusal.Goals as goal

pub returns : goal.returns
unfolding refusal_text labeled
returns c =
    let a = c.args in
    let text = refusal_text a.number a.word in
    let answer = c.finish.ensures ∙ ap (λ n. written_to n c.put_byte-place.result)
    (c.put_byte-place.auto.out ∙ c.put_labeled-place-2.auto.out ∙ c.put_labeled-place.auto.out) in
    subst (Whole text a.out.now c.put_byte-place.new.out) (sym answer)
    (whole text _ _ c.put_byte-place.result
    (c.put_labeled-place.ensures ▸ c.put_labeled-place-2.ensures ▸ c.put_byte-place.ensures))
