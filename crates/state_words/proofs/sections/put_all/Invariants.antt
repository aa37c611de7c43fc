use Rattle.std.proofs.Common.{◌≡◌, ◌+◌, drop}
use Rattle.state_words.specs.Sections.{stored_all_at}
use Rattle.state_words.proofs.sections.put_all.Given as goal

abbrev pub invariant-loop-j : goal.invariant-loop-j
invariant-loop-j l =
    stored_all_at l.section.from l.section.words l.w (l.i + l.j) (drop l.j l.xs)
    ≡ stored_all_at l.section.from l.section.words l.initial.w l.i l.xs
