use mathlib.Core.Path.{◌∙◌}
use Rattle.std.proofs.lemmas.Result.{err_from_is_err_and}
use Rattle.meaning.specs.Graph.{region}
use Rattle.format.specs.References as format
use Rattle.references.specs.laws.Rounds.{passed_on, stopped}
use Rattle.references.specs.laws.Steps.{after_reads, after_values, after_targets, after_edges}
use Rattle.references.proofs.region_right.Goals as goal

pub returns-in_err-reads_right : goal.returns-in_err-reads_right
unfolding format.region_right
returns-in_err-reads_right c g s =
    let r = c.args.r in
    let x = region g r in
    let p = err_from_is_err_and c.from_residual.result c.from_residual.ensures.1 in
    rw (p.1, p.2)
    (stopped (after_reads g r x) (c.reads_right.ensures g s) c.in_err-reads_right.was)

pub returns-in_err-values_right : goal.returns-in_err-values_right
unfolding format.region_right
returns-in_err-values_right c g s =
    let r = c.args.r in
    let x = region g r in
    let p = err_from_is_err_and c.from_residual-in_err-values_right.result c.from_residual-in_err-values_right.ensures.1 in
    rw (p.1, p.2)
    (stopped (after_values g r x) (c.values_right.ensures g s) c.in_err-values_right.was
    ∙ passed_on (after_reads g r x) (c.reads_right.ensures g s) c.in_ok-reads_right.was)

pub returns-in_err-targets_right : goal.returns-in_err-targets_right
unfolding format.region_right
returns-in_err-targets_right c g s =
    let r = c.args.r in
    let x = region g r in
    let p = err_from_is_err_and c.from_residual-in_err-targets_right.result c.from_residual-in_err-targets_right.ensures.1 in
    rw (p.1, p.2)
    (stopped (after_targets g r x) (c.targets_right.ensures g s) c.in_err-targets_right.was
    ∙ passed_on (after_values g r x) (c.values_right.ensures g s) c.in_ok-values_right.was
    ∙ passed_on (after_reads g r x) (c.reads_right.ensures g s) c.in_ok-reads_right.was)

pub returns-in_err-edges_right : goal.returns-in_err-edges_right
unfolding format.region_right
returns-in_err-edges_right c g s =
    let r = c.args.r in
    let x = region g r in
    let p = err_from_is_err_and c.from_residual-in_err-edges_right.result c.from_residual-in_err-edges_right.ensures.1 in
    rw (p.1, p.2)
    (stopped (after_edges g r x) (c.edges_right.ensures g s) c.in_err-edges_right.was
    ∙ passed_on (after_targets g r x) (c.targets_right.ensures g s) c.in_ok-targets_right.was
    ∙ passed_on (after_values g r x) (c.values_right.ensures g s) c.in_ok-values_right.was
    ∙ passed_on (after_reads g r x) (c.reads_right.ensures g s) c.in_ok-reads_right.was)

pub returns : goal.returns
unfolding format.region_right
returns c g s =
    let r = c.args.r in
    let x = region g r in
    c.exits_right.ensures g s
    ∙ passed_on (after_edges g r x) (c.edges_right.ensures g s) c.in_ok-edges_right.was
    ∙ passed_on (after_targets g r x) (c.targets_right.ensures g s) c.in_ok-targets_right.was
    ∙ passed_on (after_values g r x) (c.values_right.ensures g s) c.in_ok-values_right.was
    ∙ passed_on (after_reads g r x) (c.reads_right.ensures g s) c.in_ok-reads_right.was
