use mathlib.Core.Path.{sym, ap, ◌∙◌}
use native.Mathlib.Omega.{arith}
use lib.ListN.{take}
use lib.Seq.{length-take-le}
use Rattle.vectors.specs.Parts.{hex_bytes}
use Rattle.vectors.specs.Same.{same_list}
use Rattle.vectors.proofs.Laws.{behind_within}
use Rattle.replay_sheets.specs.Compared.{as_shown}
use Rattle.replay_sheets.proofs.Nested.{printed_front, words_kept, behind_line, words_differ}
use Rattle.replay_sheets.proofs.Nested.{text_decides}
use Rattle.replay_sheets.proofs.sheets.is_nested.Goals as goal

pub slice_bounds-decode-end : goal.slice_bounds-decode-end
slice_bounds-decode-end c = sym (length-take-le _ _ (rw c.behind-end.ensures (behind_within _ _)))

pub slice_bounds-same-count : goal.slice_bounds-same-count
slice_bounds-same-count c = rw c.behind-end.ensures (behind_within _ _)

pub slice_bounds-same-start : goal.slice_bounds-same-start
slice_bounds-same-start c = omega (arith, c.behind-end.ensures, behind_within 10 c.args.listed.now)

pub returns-then-is_written : goal.returns-then-is_written
returns-then-is_written c =
    let listed = c.args.listed.now in
    let line = c.decode-m.ensures.bytes ∙ ap (λ k. hex_bytes (take k listed)) c.behind-end.ensures in
    let front = printed_front c.print.ensures c.lend-lent.ensures c.in-Ok.is in
    let text = as_shown front c.same.ensures ∙ ap (same_list _) (behind_line listed c.behind-end.ensures) in
    text_decides _ listed (words_kept c.print.ensures c.lend-lent.ensures)
    (take c.decode-m.result c.decode-m.new.bytes) line c.lend-lent.ensures c.is_written.ensures
    c.if-is_written.true text

pub returns-else-is_written : goal.returns-else-is_written
returns-else-is_written c =
    let listed = c.args.listed.now in
    let line = c.decode-m.ensures.bytes ∙ ap (λ k. hex_bytes (take k listed)) c.behind-end.ensures in
    c.if-is_written.false ∙ words_differ _ listed (words_kept c.print.ensures c.lend-lent.ensures)
    (take c.decode-m.result c.decode-m.new.bytes) line c.lend-lent.ensures c.is_written.ensures
    c.if-is_written.false
