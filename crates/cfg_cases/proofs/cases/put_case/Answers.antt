use Rattle.cfg_bundles.specs.laws.paths.Paths.{run_then}
use Rattle.state_words.specs.Sections.{cases}
use Rattle.state_regions.specs.RegionTables.{case_words}
use Rattle.cfg_cases.proofs.cases.put_case.Goals as goal

pub returns : goal.returns
returns c = run_then _ cases _ (case_words c.args.x) _
    c.set_case.ensures c.set_case_inputs.ensures
