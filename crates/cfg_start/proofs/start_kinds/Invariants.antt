use mathlib.Core.Path.{◌≡◌}
use Prim.Native.Nat.{◌-◌}
use Rattle.state_words.specs.Sections.{kinds, filled}
use Rattle.cfg_start.specs.InitialState.{nothing_begun}
use Rattle.cfg_start.proofs.start_kinds.Given as goal

abbrev pub invariant-loop-r : goal.invariant-loop-r
invariant-loop-r l = filled kinds (λ r. r) (λ r. 0) (l.n - l.r) l.r l.w ≡ nothing_begun l.n l.initial.w
