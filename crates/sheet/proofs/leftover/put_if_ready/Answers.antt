use mathlib.Core.Path.{refl}
use Rattle.state_regions.specs.laws.KindsBack.{state_is, state_not}
use Rattle.sheet.specs.laws.RegionsLaws.{ready_put, ready_not_put}
use Rattle.sheet.proofs.leftover.put_if_ready.Goals as goal

pub returns-in-Ready : goal.returns-in-Ready
returns-in-Ready c = ready_put _ _ refl (state_is c.region_state.ensures c.in-Ready.is) c.put_piece.ensures

pub returns-in_default : goal.returns-in_default
returns-in_default c = ready_not_put _ _ refl _ _ (state_not c.region_state.ensures c.in_default.not-Ready)
