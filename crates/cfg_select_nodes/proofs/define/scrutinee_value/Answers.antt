use mathlib.Core.Path.{refl}
use Rattle.cfg_select_nodes.specs.Selects.{given_value, made_value}
use borrow.Author.Rules.{rules}
use Rattle.cfg_select_nodes.proofs.define.scrutinee_value.Goals as goal

pub returns-in-Value : goal.returns-in-Value
returns-in-Value c = rw c.in-Value.is (given_value refl)

pub returns-in-Lazy : goal.returns-in-Lazy
returns-in-Lazy c = rw c.in-Lazy.is (made_value c.materialize_lazy_cond.ensures)
