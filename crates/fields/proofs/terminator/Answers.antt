use mathlib.Core.Path.{refl, sym}
use native.Mathlib.Omega.{arith}
use Rattle.fields.specs.laws.Terminators.{kind_by, terminator_by}
use Rattle.fields.specs.declared.shape.Terminator.TheVariants.{Unreachable, Return, ExitInvocation, Branch, SelectBool, SelectNumber}
use Rattle.fields.proofs.terminator.Goals as goal

pub returns-in-0 : goal.returns-in-0
returns-in-0 c g s = terminator_by s _ c.indexed-p.ensures c.word_at.ensures Unreachable c.in-0.is refl

pub returns-in-1 : goal.returns-in-1
returns-in-1 c g s =
    terminator_by s _ c.indexed-p.ensures c.word_at.ensures Return c.in-1.is refl

pub returns-in-2 : goal.returns-in-2
returns-in-2 c g s =
    terminator_by s _ c.indexed-p.ensures c.word_at.ensures (ExitInvocation _) c.in-2.is
    (sym c.word_at-in-2.ensures)

pub returns-in-3 : goal.returns-in-3
returns-in-3 c g s =
    terminator_by s _ c.indexed-p.ensures c.word_at.ensures Branch c.in-3.is refl

pub returns-in-4 : goal.returns-in-4
returns-in-4 c g s =
    terminator_by s _ c.indexed-p.ensures c.word_at.ensures SelectBool c.in-4.is refl

pub returns-in_default : goal.returns-in_default
returns-in_default c g s =
    let bound = kind_by s _ c.indexed-p.ensures
    c.word_at.ensures in
    terminator_by s _ c.indexed-p.ensures
    c.word_at.ensures SelectNumber (omega arith) refl
