use mathlib.Core.Path.{◌∙◌}
use native.Mathlib.Omega.{arith}
use Rattle.state_shown.specs.Sets.{no_bundle}
use Rattle.sheet_words.specs.laws.Rows.{run_start, run_turn}
use Rattle.sheet_words.specs.Parts.{defer_part}
use Rattle.sheet_words.specs.laws.PartLaws.{puts_each}
use Rattle.sheet_defers.specs.laws.DeferParts.{bundle_shown}
use Rattle.sheet_defers.proofs.lines.put_set.Goals as goal

pub loop-i-init : goal.loop-i-init
loop-i-init c = λ g s x d set. run_start _ _ _ _

pub loop-i-preserved : goal.loop-i-preserved
loop-i-preserved c =
    λ g s x d set. run_turn _ _ _ c.loop-i-test.true c.loop-i.auto.i (c.loop-i.invariant g s x d set)
    (c.put_bundle-to.ensures g s x d _ (c.set_length-n.ensures ∙ set.size)
    (bundle_shown c.args.r set c.set_length-n.ensures c.set_start-start.ensures (omega arith)
    c.bundle_at.ensures))

pub returns : goal.returns
returns c =
    λ g s x d set. puts_each (defer_part s c.args.r d) no_bundle d (c.set_length-n.ensures ∙ set.size) c.loop-i-test.false
    (c.loop-i.invariant g s x d set)
