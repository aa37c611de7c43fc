use mathlib.Core.Path.{sym}
use Rattle.text.specs.laws.Digits.{decimal_small, decimal_more}
use Rattle.text.specs.laws.BufferLaws.{◌▸◌, of_text}
use Rattle.text.proofs.+put_number.Goals as goal

pub returns-then-n-lt10 : goal.returns-then-n-lt10
returns-then-n-lt10 t c = of_text (sym (decimal_small _ c.if-n-lt10.true)) c.put_byte.ensures

pub returns : goal.returns
returns t c =
    of_text (sym (decimal_more _ c.if-n-lt10.false))
    (c.put_number-place.ensures ▸ c.put_byte-2.ensures)
