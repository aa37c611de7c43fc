use Rattle.sheet_words.specs.laws.PutInFrontLaws.{put_stored, put_nowhere}
use Rattle.sheet_words.proofs.place.put.Goals as goal

pub returns-then-end-out : goal.returns-then-end-out
returns-then-end-out c = put_stored c.args.out.now c.args.at
    c.args.x c.saturating_sub-end.ensures

pub returns-else-end-out : goal.returns-else-end-out
returns-else-end-out c = put_nowhere c.args.out.now c.args.at
    c.args.x c.saturating_sub-end.ensures c.if-end-out.false
