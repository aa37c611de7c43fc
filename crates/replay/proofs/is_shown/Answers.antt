use Rattle.text_show.specs.laws.Showing.{shown_front}
use Rattle.replay_sheets.specs.Compared.{as_shown}
use Rattle.replay.proofs.is_shown.Goals as goal

pub returns : goal.returns
returns c =
    let front = shown_front c.show.ensures c.in-Ok.is in
    as_shown front c.same.ensures
