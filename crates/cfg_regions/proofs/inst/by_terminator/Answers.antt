use borrow.Author.Rules.{rules}
use Rattle.cfg_regions.specs.ByInst.{at_unreachable, at_return, at_exit, at_branch, at_bool, at_number}
use Rattle.cfg_regions.specs.laws.ByInstLaws.{told_kind}
use mathlib.Core.Path.{refl}
use Rattle.cfg_regions.proofs.inst.by_terminator.Goals as goal

pub returns-in-Unreachable : goal.returns-in-Unreachable
returns-in-Unreachable c = λ g st. at_unreachable (told_kind _ (c.terminator-kind.ensures g st) c.in-Unreachable.is) refl

pub returns-in-Return : goal.returns-in-Return
returns-in-Return c = λ g st. at_return (told_kind _ (c.terminator-kind.ensures g st)
    c.in-Return.is) (c.defer_return.ensures g st)

pub returns-in-ExitInvocation : goal.returns-in-ExitInvocation
returns-in-ExitInvocation c = λ g st. at_exit (told_kind _ (c.terminator-kind.ensures g st)
    c.in-ExitInvocation.is) c.add_exit.ensures

pub returns-in-Branch : goal.returns-in-Branch
returns-in-Branch c = λ g st. at_branch (told_kind _ (c.terminator-kind.ensures g st)
    c.in-Branch.is) (c.branch-w.ensures g st)

pub returns-in-SelectBool : goal.returns-in-SelectBool
returns-in-SelectBool c = λ g st. at_bool (told_kind _ (c.terminator-kind.ensures g st)
    c.in-SelectBool.is) (c.select.ensures g st)

pub returns-in-SelectNumber : goal.returns-in-SelectNumber
returns-in-SelectNumber c = λ g st. at_number (told_kind _ (c.terminator-kind.ensures g st)
    c.in-SelectNumber.is) (c.select_number.ensures g st)
