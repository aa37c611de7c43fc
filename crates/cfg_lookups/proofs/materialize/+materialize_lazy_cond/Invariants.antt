-- The measure is the condition's number: a part's is smaller. The loop's invariant: the parts passed are made.
use mathlib.Core.Path.{◌≡◌, refl}
use Prim.Native.Nat.{ℕ, ◌-◌, ◌<◌, ◌≤◌}
use native.Mathlib.Omega.{arith}
use lib.ListN.{length, length-set}
use borrow.Author.Rules.{rules}
use Rattle.state_words.specs.Sections.{word, conditions}
use Rattle.cfg_lookups.specs.Materialized.{PartsMade, no_part, made_true, made_false, made_undef}
use Rattle.cfg_lookups.specs.laws.paths.MaterializedLaws.{part_turn}
use Rattle.cfg_lookups.specs.laws.paths.MaterializedLaws.{few_parts, part_below}
use Rattle.cfg_lookups.specs.laws.paths.MaterializedLaws.{part_full}
use Rattle.cfg_lookups.specs.laws.paths.MaterializedLaws.{parts_all}
use Rattle.state_words.specs.Rows.{merge_part_at}
use Rattle.cfg_lookups.proofs.materialize.+materialize_lazy_cond.Given as goal

abbrev pub invariant-loop-j : goal.invariant-loop-j
invariant-loop-j l = PartsMade l.initial.w l.c l.j l.w l.vs × (length l.vs ≡ 8) × (l.j ≤ l.n)

abbrev pub decreases-materialize_lazy_cond : goal.decreases-materialize_lazy_cond
decreases-materialize_lazy_cond l = l.c
