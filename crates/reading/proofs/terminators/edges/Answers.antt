-- Where the targets are read, each stands among the lent words, and the scan counts the distinct ones.
use Rattle.std.proofs.Common.{arith, rules}
use Rattle.reading.specs.laws.TerminatorsForgotten.{edges_stop, edges_rest, targets_inside}
use Rattle.reading.specs.laws.AnswerSteps.{exit_is, reads_rest}
use Rattle.reading.specs.laws.Turns.{reads_many}
use Rattle.reading.proofs.terminators.edges.Goals as goal

pub distinct-k-requires : goal.distinct-k-requires
distinct-k-requires c = λ j l. omega (arith, (targets_inside c.args.n c.args.w.now c.args.c.end c.args.c.at c.in_ok-e.ensures.is j l).1)

pub returns-in_err-e : goal.returns-in_err-e
returns-in_err-e c = rw (exit_is c.from_residual.result c.from_residual.ensures.1) (edges_stop _ c.args.w.now c.args.c.end _ c.in_err-e.ensures)

pub returns : goal.returns
returns c =
    let a = c.in_ok-e.ensures in
    reads_rest _ _ _ _ _ a.same (edges_rest _ c.args.w.now c.args.c.end _ c.distinct-k.ensures a.is) _
    (reads_many _ c.args.w.now _ (λ d r h. search rules) c.distinct-k.result c.in_ok-e.e _ c.many.ensures)
