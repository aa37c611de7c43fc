use Rattle.state_words.specs.Totals.{defined, full}
use mathlib.Core.Path.{refl}
use native.Mathlib.Omega.{arith}
use borrow.Author.Rules.{rules}
use Rattle.state_words.proofs.defined.define.Goals as goal

pub returns-then-n-limit : goal.returns-then-n-limit
returns-then-n-limit c = defined c.head-n.ensures c.if-n-limit.true c.set_head.ensures

pub returns : goal.returns
returns c = full (omega (arith, c.head-n.ensures)) refl
