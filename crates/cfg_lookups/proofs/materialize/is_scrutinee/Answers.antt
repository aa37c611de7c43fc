use Rattle.std.proofs.Common.{sym, ◌∙◌, rules}
use Rattle.std.proofs.lemmas.Bool.{eqb-true, eqb-false}
use Rattle.cfg_lookups.specs.laws.paths.MaterializedLaws.{scrutinee_number, scrutinee_not, scrutinee_if}
use Rattle.cfg_lookups.proofs.materialize.is_scrutinee.Goals as goal
use Rattle.cfg_lookups.proofs.materialize.is_scrutinee.Goals.{then-shape-eq-BOOL_COND, else-shape-eq-BOOL_COND}

pub returns-then-vs-eq-TRUE : goal.returns-then-vs-eq-TRUE
returns-then-vs-eq-TRUE c = elim c.if-shape-eq-BOOL_COND.branch [
  | then-shape-eq-BOOL_COND w ↦
      scrutinee_if c.args.shape c.args.vs.now w.if-shape-eq-BOOL_COND.true
      (eqb-true _ _ (sym w.value-is ∙ c.if-vs-eq-TRUE.true))
  | else-shape-eq-BOOL_COND w ↦ absurd (w.if-shape-eq-BOOL_COND.false (eqb-true _ _ (sym w.value-is ∙ c.if-vs-eq-TRUE.true)))
]

pub returns-else-vs-eq-TRUE : goal.returns-else-vs-eq-TRUE
returns-else-vs-eq-TRUE c = elim c.if-shape-eq-BOOL_COND.branch [
  | then-shape-eq-BOOL_COND w ↦
      c.if-vs-eq-TRUE.false ∙ scrutinee_not c.args.shape c.args.vs.now w.if-shape-eq-BOOL_COND.true
      (eqb-false _ _ (sym w.value-is ∙ c.if-vs-eq-TRUE.false))
  | else-shape-eq-BOOL_COND w ↦ c.if-vs-eq-TRUE.false ∙ scrutinee_number c.args.shape c.args.vs.now w.if-shape-eq-BOOL_COND.false
]
