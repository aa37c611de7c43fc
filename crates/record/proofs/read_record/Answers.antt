-- The record is too long, its head is refused, or the regions decide.
use Rattle.reading.specs.laws.AnswerSteps.{exit_is}
use Rattle.std.proofs.Common.{sym, ◌∙◌, arith, rules}
use Rattle.record.specs.laws.RecordSteps.{mapped_ok, mapped_err, in_words, record_stop, record_whole, head_few}
use Rattle.record.proofs.read_record.Goals as goal

pub returns-in_err-n : goal.returns-in_err-n
returns-in_err-n c =
    let m = mapped_err c.read_head.result c.map_err.result _ _ c.map_err.ensures.cases c.in_err-n.was in
    let h = rw m.is at c.read_head.ensures in
    rw (exit_is c.from_residual.result c.from_residual.ensures.1) (in_words _ _ _ _ (c.from-count.ensures ∙ c.word_at.ensures) c.if-count-gt-RECORD_END.false
    (record_stop _ _ c.in_err-n.field-0.0 h (let t = m.told in search rules)))

pub read_regions-requires : goal.read_regions-requires
read_regions-requires c =
    let is = mapped_ok c.read_head.result c.map_err.result _ c.map_err.ensures.cases c.in_ok-n.was in
    let a = rw is at c.read_head.ensures in
    (omega (arith, a.same, c.if-count-gt-RECORD_END.false), head_few _ a.is)

pub returns : goal.returns
returns c =
    let is = mapped_ok c.read_head.result c.map_err.result _ c.map_err.ensures.cases c.in_ok-n.was in
    let head = rw is at c.read_head.ensures in
    in_words _ _ _ _ (c.from-count.ensures ∙ c.word_at.ensures) c.if-count-gt-RECORD_END.false
    (record_whole _ _ _ _ _ _ c.if-count-gt-RECORD_END.false (sym (c.from-count.ensures ∙ c.word_at.ensures)) (record { room = omega arith; few = omega arith })
    head.is (rw head.same at c.read_regions.ensures))
