use Rattle.std.proofs.Common.{◌≡◌, ◌-◌}
use Rattle.state_nodes.specs.NodeTables.{cleared}
use Rattle.state_nodes.proofs.rewrites.reach.Given as goal

abbrev pub invariant-loop-q : goal.invariant-loop-q
invariant-loop-q l = cleared (l.r - l.q) l.q l.w ≡ cleared (l.r - l.set) l.set l.initial.w
