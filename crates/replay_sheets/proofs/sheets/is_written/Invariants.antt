use mathlib.Core.Path.{◌≡◌}
use lib.ListN.{drop}
use Rattle.vectors.specs.Same.{same_list}
use Rattle.replay_sheets.specs.Sheets.{words_from_bytes, put_over}
use Rattle.replay_sheets.proofs.sheets.is_written.Given as goal

abbrev pub invariant-loop-i : goal.invariant-loop-i
invariant-loop-i l =
    same_list (drop l.i l.out) (drop l.i (put_over (words_from_bytes l.listed) l.lent))
    ≡ same_list l.out (put_over (words_from_bytes l.listed) l.lent)
