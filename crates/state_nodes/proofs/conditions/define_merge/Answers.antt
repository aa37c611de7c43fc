use Rattle.state_words.specs.laws.Stored.{one_and_run}
use Rattle.state_nodes.specs.NodeTables.{merge_defined, merges_full}
use Rattle.state_words.specs.Sections.{stored_all_at}
use mathlib.Core.Path.{refl}
use native.Mathlib.Omega.{arith}
use borrow.Author.Rules.{rules}
use Rattle.state_nodes.proofs.conditions.define_merge.Goals as goal

pub returns-then-m-lt-MOST_MERGES : goal.returns-then-m-lt-MOST_MERGES
returns-then-m-lt-MOST_MERGES c =
    merge_defined c.head-m.ensures c.if-m-lt-MOST_MERGES.true refl
    (rw (one_and_run _ _ _ _ _ _ c.put.ensures c.put_all.ensures) at c.set_head.ensures)

pub returns : goal.returns
unfolding stored_all_at
returns c = merges_full (omega (arith, c.head-m.ensures)) refl
