use Rattle.std.proofs.lemmas.Result.{err_from_is_err_and}
use Rattle.nester.specs.laws.NestingRecord.{written_words, written_few}
use Rattle.nester.proofs.write_or_refuse.Goals as goal

pub returns : goal.returns
returns c = written_words _ _ _ c.write_sheet.ensures c.in_ok-n.was

pub returns-in_err-n : goal.returns-in_err-n
returns-in_err-n c =
    let p = err_from_is_err_and c.from_residual.result c.from_residual.ensures.1 in
    rw (p.1, p.2) (written_few _ _ _ c.write_sheet.ensures c.in_err-n.was)
