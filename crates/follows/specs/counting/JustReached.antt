-- The list of reachable regions is just what the entry reaches, each once.
use Rattle.meaning.specs.Graph.{Graph}
use Rattle.nesting.specs.Nesting.{reachable}
use Rattle.follows.specs.Statements.{JustReached}
use Rattle.follows.specs.counting.Reach.{reachable_sound, reachable_complete, reachable_once}

pub just_reached : (g : Graph) → JustReached g (reachable g)
just_reached g = record { once = reachable_once g; sound = reachable_sound g; complete = reachable_complete g }
