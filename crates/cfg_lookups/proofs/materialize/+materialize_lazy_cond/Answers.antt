use mathlib.Core.Path.{◌≡◌, refl}
use Prim.Native.Nat.{ℕ, ◌-◌, ◌<◌, ◌≤◌}
use native.Mathlib.Omega.{arith}
use lib.ListN.{length, length-set}
use Rattle.state_words.specs.laws.Filled.{full_of_err}
use borrow.Author.Rules.{rules}
use Rattle.state_words.specs.Sections.{word, conditions}
use Rattle.cfg_lookups.specs.Materialized.{PartsMade, no_part, made_true, made_false, made_undef}
use Rattle.cfg_lookups.specs.laws.paths.MaterializedLaws.{part_turn}
use Rattle.cfg_lookups.specs.laws.paths.MaterializedLaws.{few_parts, part_below}
use Rattle.cfg_lookups.specs.laws.paths.MaterializedLaws.{part_full}
use Rattle.cfg_lookups.specs.laws.paths.MaterializedLaws.{parts_all}
use Rattle.state_words.specs.Rows.{merge_part_at}
use Rattle.cfg_lookups.proofs.materialize.+materialize_lazy_cond.Goals as goal

pub returns-then-c-eq-TRUE_COND : goal.returns-then-c-eq-TRUE_COND
returns-then-c-eq-TRUE_COND t c = made_true c.if-c-eq-TRUE_COND.true refl

pub returns-then-c-eq-FALSE_COND : goal.returns-then-c-eq-FALSE_COND
returns-then-c-eq-FALSE_COND t c = made_false c.if-c-eq-FALSE_COND.true refl

pub returns-then-c-lt-MERGE : goal.returns-then-c-lt-MERGE
returns-then-c-lt-MERGE t c = made_undef c.if-c-eq-TRUE_COND.false c.if-c-eq-FALSE_COND.false c.if-c-lt-MERGE.true
    c.undef.ensures refl

pub loop-j-init : goal.loop-j-init
loop-j-init t c = (no_part refl refl refl, refl, omega arith)

pub materialize_lazy_cond-requires : goal.materialize_lazy_cond-requires
materialize_lazy_cond-requires t c = (
  omega (
    arith,
    c.cond_part-part.ensures,
    part_below
        (word c.loop-j.w conditions
        (merge_part_at c.args.c c.loop-j.j))
        c.args.c
        c.if-c-lt-MERGE.false,
  ),
  tt,
)

pub returns-in_err-vs : goal.returns-in_err-vs
returns-in_err-vs t c =
    rw (full_of_err c.from_residual.ensures.0)
    (part_full _ _ c.loop-j.invariant.0
    c.shape_size-n.ensures
    c.cond_shape.ensures
    c.loop-j-test.true c.cond_part-part.ensures
    c.materialize_lazy_cond.ensures
    c.if-c-lt-MERGE.false c.in_err-vs.was)

pub bounds-vs-j : goal.bounds-vs-j
bounds-vs-j t c =
    omega (
      arith,
      c.loop-j-test.true,
      c.shape_size-n.ensures,
      few_parts
          c.cond_shape.result,
      c.loop-j.invariant.1,
    )

pub loop-j-preserved : goal.loop-j-preserved
loop-j-preserved t c = (
  part_turn _ _ c.loop-j.invariant.0
      c.shape_size-n.ensures
      c.cond_shape.ensures
      c.loop-j-test.true
      c.cond_part-part.ensures c.materialize_lazy_cond.ensures
      c.in_ok-vs.was,
  simp length-set c.loop-j.invariant.1,
  omega
      (arith, c.loop-j-test.true),
)

pub returns : goal.returns
returns t c =
    parts_all _ _ c.loop-j.invariant.0
    c.shape_size-n.ensures
    c.cond_shape.ensures
    c.if-c-lt-MERGE.false c.loop-j.invariant.2
    c.loop-j-test.false c.merged.ensures
