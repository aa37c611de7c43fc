use Rattle.std.proofs.Common.{refl, sym, ◌∙◌, rules}
use Rattle.std.proofs.lemmas.Bool.{eqb-true, eqb-false, false≢true}
use Rattle.state_regions.specs.laws.KindsBack.{state_is, state_not}
use Rattle.cfg_regions.specs.laws.ByStateLaws.{trivial_set, trivial_children, trivial_state}
use Rattle.cfg_regions.proofs.claim.is_trivial.Goals as goal
use Rattle.cfg_regions.proofs.claim.is_trivial.Goals.{then-eq, else-eq}

pub returns-then-set_length-eq0 : goal.returns-then-set_length-eq0
returns-then-set_length-eq0 c = elim c.if-eq.branch [
  | then-eq w ↦
      c.eq-then-set_length-eq0.ensures
      ∙ trivial_children _ _ _ refl (state_is c.region_state.ensures (search rules)) _ w.set_length.ensures
      (eqb-true _ _ (sym w.value-is ∙ c.if-set_length-eq0.true)) _ c.children.ensures
  | else-eq w ↦ absurd (false≢true (sym w.if-eq.false ∙ sym w.value-is ∙ c.if-set_length-eq0.true))
]

pub returns-else-set_length-eq0 : goal.returns-else-set_length-eq0
returns-else-set_length-eq0 c = elim c.if-eq.branch [
  | then-eq w ↦
      c.if-set_length-eq0.false
      ∙ trivial_set _ _ _ refl (state_is c.region_state.ensures (search rules)) _ w.set_length.ensures
      (eqb-false _ _ (sym w.value-is ∙ c.if-set_length-eq0.false))
  | else-eq w ↦ c.if-set_length-eq0.false ∙ trivial_state _ _ _ refl (state_not c.region_state.ensures (search rules))
]
