use mathlib.Core.Path.{refl}
use Rattle.replay_sheets.specs.Sheets.{lent_words}
use Rattle.replay_sheets.proofs.sheets.lend.Goals as goal

pub returns : goal.returns
unfolding lent_words
returns c = refl
