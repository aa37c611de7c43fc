use mathlib.Core.Path.{sym}
use native.Mathlib.Omega.{arith}
use Rattle.text.specs.laws.BufferLaws.{of_text, wrote_none}
use Rattle.text_cursor.specs.laws.Readers.{value_other}
use Rattle.text_cursor.proofs.cursor.put_value.Goals as goal

pub returns-in_default : goal.returns-in_default
returns-in_default c =
    let a = c.args in
    of_text (sym (value_other a.r a.k a.kind (omega arith))) wrote_none
