use mathlib.Core.Path.{◌∙◌}
use Rattle.cfg_emits.specs.laws.paths.EmitsLaws.{value_none, value_some}
use borrow.Author.Rules.{rules}
use Rattle.cfg_emits.proofs.emit.value_in_case.Goals as goal

pub returns-then-p-eq-NO_BUNDLE : goal.returns-then-p-eq-NO_BUNDLE
returns-then-p-eq-NO_BUNDLE c = c.undef.ensures ∙ value_none _ _ _ _ c.if-p-eq-NO_BUNDLE.true

pub returns-else-p-eq-NO_BUNDLE : goal.returns-else-p-eq-NO_BUNDLE
returns-else-p-eq-NO_BUNDLE c = c.target_input.ensures ∙ value_some _ _ _ _ c.if-p-eq-NO_BUNDLE.false
