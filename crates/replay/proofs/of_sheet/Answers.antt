use native.Mathlib.Omega.{arith}
use Rattle.vectors.proofs.Laws.{behind_within}
use Rattle.replay.proofs.of_sheet.Goals as goal

pub bounds-vector-at : goal.bounds-vector-at
bounds-vector-at c =
    omega (arith, c.behind-at.ensures, behind_within 32 c.args.vector.now)
