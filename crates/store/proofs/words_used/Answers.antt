use mathlib.Core.Path.{sym, ap, ◌∙◌}
use Rattle.std.proofs.lemmas.Result.{err_from_is_err_and}
use Rattle.format.specs.Store.{accepted, count_right}
use Rattle.format.specs.laws.Stores.{length_zero, length_over, length_part, length_right_true}
use Rattle.store.specs.laws.Store.{length_wrong, blocks_wrong, count_wrong, words_right}
use Rattle.store.proofs.words_used.Goals as goal
use Rattle.store.proofs.words_used.Goals.{then-length-eq0-via-then-length-eq0, then-length-eq0-via-else-length-eq0+then-length-gt8192}
use Rattle.store.proofs.words_used.Goals.{then-length-eq0-via-else-length-eq0+else-length-gt8192+then-length-ne0}

pub returns-then-length-eq0 : goal.returns-then-length-eq0
returns-then-length-eq0 c =
    length_wrong c.args.bytes.now
    (elim c.then-length-eq0.branch [
      | then-length-eq0-via-then-length-eq0 w ↦ length_zero _ w.if-length-eq0.true
      | then-length-eq0-via-else-length-eq0+then-length-gt8192 w ↦ length_over _ w.if-length-gt8192.true
      | then-length-eq0-via-else-length-eq0+else-length-gt8192+then-length-ne0 w ↦
          length_part _ w.if-length-eq0.false w.if-length-gt8192.false w.if-length-ne0.true
    ])

pub returns-in_err-blocks_checked : goal.returns-in_err-blocks_checked
returns-in_err-blocks_checked c =
    let p = err_from_is_err_and c.from_residual.result c.from_residual.ensures.1 in
    rw (p.1, p.2)
    (blocks_wrong c.args.bytes.now _ _
    (length_right_true _ c.if-length-eq0.false c.if-length-gt8192.false c.if-length-ne0.false)
    c.in_err-blocks_checked.ensures)

pub returns-then-count_right : goal.returns-then-count_right
returns-then-count_right c =
    ap accepted c.pair_at-w.ensures ∙ words_right c.args.bytes.now
    (length_right_true _ c.if-length-eq0.false c.if-length-gt8192.false c.if-length-ne0.false)
    c.in_ok-blocks_checked.ensures
    (sym c.if-count_right.true ∙ c.count_right.ensures ∙ ap (count_right _ _) c.pair_at-w.ensures)

pub returns-else-count_right : goal.returns-else-count_right
returns-else-count_right c =
    count_wrong c.args.bytes.now
    (length_right_true _ c.if-length-eq0.false c.if-length-gt8192.false c.if-length-ne0.false)
    c.in_ok-blocks_checked.ensures
    (sym c.if-count_right.false ∙ c.count_right.ensures ∙ ap (count_right _ _) c.pair_at-w.ensures)
