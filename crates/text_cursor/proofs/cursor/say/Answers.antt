use mathlib.Core.Path.{refl}
use Rattle.text_cursor.specs.laws.WordsToTextSteps.{puts_said}
use Rattle.text_cursor.proofs.cursor.say.Goals as goal

pub returns : goal.returns
returns c = λ ws. puts_said refl c.put_text-place.ensures
