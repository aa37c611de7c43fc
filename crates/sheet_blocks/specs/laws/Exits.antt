-- The opcode of an exit, as the code reads it.
use Rattle.std.specs.Prelude.{◌≡◌, List, ℕ}
use Rattle.std.proofs.Common.{ap, arith}
use Rattle.meaning.specs.Graph as graph
use Rattle.fields.specs.Shape.{terminator_is}
use Rattle.fields.specs.declared.shape.Terminator.{Terminator}
use Rattle.fields.specs.declared.shape.Terminator.TheVariants.{Unreachable, Return, ExitInvocation, Branch, SelectBool, SelectNumber}

pub exit_read : (t : Terminator) {x : graph.ControlInst} → terminator_is t x ≡ x → (op : ℕ) (vs : List graph.Value)
    → x ≡ graph.exit_invocation op vs → t ≡ ExitInvocation op
exit_read Unreachable p op vs e = absurd (let z : ◌≡◌ {A = ℕ} 0 1 = cc in omega arith)
exit_read Return p op vs e = absurd (let z : ◌≡◌ {A = ℕ} 0 1 = cc in omega arith)
exit_read (ExitInvocation o) p op vs e = let same : o ≡ op = cc in ap ExitInvocation same
exit_read Branch p op vs e = absurd (let z : ◌≡◌ {A = ℕ} 0 1 = cc in omega arith)
exit_read SelectBool p op vs e = absurd (let z : ◌≡◌ {A = ℕ} 0 1 = cc in omega arith)
exit_read SelectNumber p op vs e = absurd (let z : ◌≡◌ {A = ℕ} 0 1 = cc in omega arith)

pub same_opcode : {t : Terminator} {a b : ℕ} → t ≡ ExitInvocation a → t ≡ ExitInvocation b → a ≡ b
same_opcode p q = cc
