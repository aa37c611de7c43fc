use mathlib.Core.Path.{◌≡◌, sym, ◌∙◌}
use native.Mathlib.Omega.{arith}
use Rattle.cfg_select_nodes.specs.laws.paths.CasesLaws.{convergent_start, few_cases, convergent_skip, convergent_second}
use Rattle.cfg_select_nodes.specs.laws.paths.CasesLaws.{convergent_first, convergent_over, found_case, found_none}
use borrow.Author.Rules.{rules}
use Rattle.cfg_select_nodes.proofs.cases.convergent_case.Goals as goal
use Rattle.cfg_select_nodes.proofs.cases.convergent_case.Goals.{then-case_length-ne0+else-is_some, else-case_length-ne0}

pub loop-j-init : goal.loop-j-init
loop-j-init c = (convergent_start _ _ c.case_count-n.ensures, tt)

pub returns-then-is_some-clause-place : goal.returns-then-is_some-clause-place
returns-then-is_some-clause-place c = convergent_second _ _ _ _ c.loop-j.invariant.0 c.loop-j-test.true
    (λ e. c.if-case_length-ne0.true (c.case_length.ensures ∙ e)) (found_case c.loop-j.found c.loop-j.invariant.1 (sym c.is_some.ensures ∙ c.if-is_some.true))

pub loop-j-preserved : goal.loop-j-preserved
loop-j-preserved c =
    elim c.if-case_length-ne0.branch [
      | then-case_length-ne0+else-is_some w ↦
          rw w.found-is (
            convergent_first _ _ _ _ c.loop-j.invariant.0 c.loop-j-test.true (λ e. w.if-case_length-ne0.true (c.case_length.ensures ∙ e))
                (found_none c.loop-j.found (sym w.is_some.ensures ∙ w.if-is_some.false)),
            omega (arith, few_cases c.args.w.now, c.case_count-n.ensures, c.loop-j-test.true),
          )
      | else-case_length-ne0 w ↦
          rw w.found-is (
            convergent_skip _ _ _ _ c.loop-j.invariant.0 c.loop-j-test.true (sym c.case_length.ensures ∙ w.if-case_length-ne0.false),
            c.loop-j.invariant.1,
          )
    ]

pub returns : goal.returns
returns c = record { place = convergent_over _ _ _ _ c.loop-j.invariant.0 c.loop-j-test.false; few = c.loop-j.invariant.1 }
