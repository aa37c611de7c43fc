use Rattle.std.proofs.Common.{◌∙◌}
use Rattle.meaning.specs.facts.Tests.{passed_over, picked, is_below, not_below}
use Rattle.state_words.specs.Sections.{rewrites}
use Rattle.state_words.specs.Rows.{rewrite_kind_at}
use Rattle.state_words.specs.laws.Stored.{fill_turn, fill_stop}
use Rattle.state_nodes.specs.NodeTables.{reached}
use Rattle.state_nodes.proofs.rewrites.reach.Goals as goal

pub loop-q-preserved : goal.loop-q-preserved
loop-q-preserved c =
    rw (c.put.ensures, c.from.ensures, c.from-none.ensures) (fill_turn rewrites (λ q. rewrite_kind_at q) (λ q. 0) _ _ _ c.loop-q-test.true c.loop-q.invariant)

pub returns-after-loop-q : goal.returns-after-loop-q
unfolding reached
returns-after-loop-q c =
    let number = c.entries-set.ensures in
    let all = fill_stop rewrites (λ q. rewrite_kind_at q) (λ q. 0) _ _ _ c.loop-q-test.false c.loop-q.invariant in
    (rw (all, number) at c.put-then-set-r.ensures) ∙ passed_over _ _ (not_below c.if-set-r.true number)

pub returns-else-set-r : goal.returns-else-set-r
unfolding reached
returns-else-set-r c = picked _ _ (is_below c.if-set-r.false c.entries-set.ensures)
