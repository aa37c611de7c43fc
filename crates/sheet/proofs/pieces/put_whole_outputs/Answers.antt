use Rattle.sheet.specs.laws.RegionsLaws.{outputs_put}
use Rattle.sheet.proofs.pieces.put_whole_outputs.Goals as goal

pub returns : goal.returns
returns c =
    outputs_put _ _ c.set_start.ensures c.bundle_at.ensures c.put_target_inputs.ensures
