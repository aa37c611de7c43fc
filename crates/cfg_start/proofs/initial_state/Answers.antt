use Rattle.cfg_start.specs.laws.paths.InitialStateLaws.{started_by}
use Rattle.cfg_start.proofs.initial_state.Goals as goal

pub returns : goal.returns
returns c =
    started_by _ c.region_count-n.ensures
    c.set_no_rewrites.ensures
    c.start_kinds.ensures
    c.start_slots.ensures c.start_totals.ensures c.start_returned.ensures
