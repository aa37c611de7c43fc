use native.Mathlib.Omega.{arith}
use Rattle.text_cursor.specs.laws.WordsToTextSteps.{puts_none}
use Rattle.text_lines.specs.laws.LineTexts.{no_line}
use Rattle.text_lines.proofs.lines.line_by.Goals as goal

pub returns-in_default : goal.returns-in_default
returns-in_default c = puts_none (λ l. no_line c.args.lead (omega arith) _) c.stop.ensures
