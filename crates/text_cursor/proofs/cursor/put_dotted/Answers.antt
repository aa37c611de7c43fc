use mathlib.Core.List.{append_assoc}
use Rattle.meaning.specs.Text.{joined}
use Rattle.text.specs.laws.BufferLaws.{◌▸◌, of_text}
use Rattle.text_cursor.proofs.cursor.put_dotted.Goals as goal

pub returns : goal.returns
unfolding joined
returns c =
    of_text (simp append_assoc) (c.put_byte-place.ensures ▸ c.put_number-place.ensures
    ▸ c.put_labeled.ensures)
