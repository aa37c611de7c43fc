use Rattle.std.proofs.Common.{◌≡◌, ◌+◌, ◌-◌}
use Rattle.nesting.specs.Nesting.{most_regions}
use Rattle.cfg_lookups.specs.LookUps.{turns}
use Rattle.cfg_lookups.proofs.look_up.look_up.Given as goal

abbrev pub invariant-loop : goal.invariant-loop
invariant-loop l = turns (most_regions + 1 - l.counter) l.w l.x ≡ turns (most_regions + 1) l.w l.v
