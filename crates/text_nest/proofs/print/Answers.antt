use mathlib.Core.Path.{refl}
use native.Mathlib.Omega.{arith}
use Rattle.text_nest.specs.laws.Printing.{sheet_printed, refusal_printed}
use Rattle.text_nest.proofs.print.Goals as goal

pub returns-in-Ok : goal.returns-in-Ok
returns-in-Ok c = sheet_printed c.in-Ok.ensures refl c.sheet_text.ensures

pub returns-in-Err : goal.returns-in-Err
returns-in-Err c =
    refusal_printed c.in-Err.ensures (omega arith) (omega arith)
    (rw (c.number.ensures, c.word.ensures) at c.refusal.ensures)
