use Rattle.std.proofs.Common.{rules, ◌≡◌, ◌+◌, ◌*◌, get_or}
use Rattle.replay_sheets.specs.Sheets.{word_from}
use Rattle.replay_sheets.proofs.Words.{as_lent, as_listed}
use Rattle.replay_sheets.proofs.sheets.word_at.Goals as goal

pub returns-then-listed-i : goal.returns-then-listed-i
returns-then-listed-i c = as_lent _ _ c.args.i c.if-listed-i.true

pub returns : goal.returns
returns c =
    let bytes = c.args.listed.now in
    let at = 4 * c.args.i in
    let word : c.from_be_bytes.result
    ≡ word_from (get_or bytes at 0) (get_or bytes (at + 1) 0) (get_or bytes (at + 2) 0) (get_or bytes (at + 3) 0) = search rules in
    as_listed _ _ c.args.i c.if-listed-i.false word
