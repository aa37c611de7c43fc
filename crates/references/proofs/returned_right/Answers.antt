use native.Mathlib.Omega.{arith}
use mathlib.Core.Path.{◌∙◌}
use Rattle.std.proofs.lemmas.Result.{err_from_is_err_and}
use lib.ListN.{drop}
use Rattle.format.specs.References as format
use Rattle.fields.specs.ByNumber.{end_values}
use Rattle.references.specs.laws.Walks.{types_walk}
use Rattle.references.specs.laws.Steps.{sizes_differ, sizes_agree, return_count, return_type}
use Rattle.references.specs.laws.Rounds.{call_passed, call_refused}
use Rattle.references.proofs.returned_right.Goals as goal

pub returns-then-n-value_count : goal.returns-then-n-value_count
returns-then-n-value_count c g s =
    let types = return_count g (c.first_return-q.ensures g s) (c.value_count.ensures g s) in
    sizes_differ g _ (format.return_types g) _ (c.value_count-n.ensures g s) types c.if-n-value_count.true

pub loop-k-init : goal.loop-k-init
loop-k-init c =
    let r = c.args.r in
    let first = c.first_return-q in
    record {
      bound = omega arith;
      left = λ g k. format.types_right g r (drop k (format.return_types g)) (drop k (end_values g r));
      walk = λ g s.
          let types = return_count g (first.ensures g s) (c.value_count.ensures g s) in
          types_walk g r (format.return_types g) (end_values g r) (c.if-n-value_count.false ∙ types) (c.value_count-n.ensures g s);
      rest = λ g s.
          let types = return_count g (first.ensures g s) (c.value_count.ensures g s) in
          sizes_agree g _ (format.return_types g) _ (c.value_count-n.ensures g s) types c.if-n-value_count.false;
    }

pub returns-in_err-named_of_type : goal.returns-in_err-named_of_type
returns-in_err-named_of_type c =
    let first = c.first_return-q in
    let p = err_from_is_err_and c.from_residual.result c.from_residual.ensures.1 in
    rw (p.1, p.2)
    (call_refused c.loop-k.invariant c.loop-k-test.true
    (λ g s. c.named_of_type.ensures g s
    ∙ rw (c.return_type.ensures g s ∙ return_type g _ (first.ensures g s), c.value.ensures g s))
    c.in_err-named_of_type.was)

pub loop-k-preserved : goal.loop-k-preserved
loop-k-preserved c =
    let first = c.first_return-q in
    call_passed c.loop-k.invariant c.loop-k-test.true
    (λ g s. c.named_of_type.ensures g s
    ∙ rw (c.return_type.ensures g s ∙ return_type g _ (first.ensures g s), c.value.ensures g s))
    c.in_ok-named_of_type.was
