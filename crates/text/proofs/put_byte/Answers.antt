use mathlib.Core.Path.{sym}
use native.Mathlib.Omega.{arith}
use Rattle.text.specs.laws.BufferLaws.{put_inside, put_end, put_beyond}
use Rattle.text.proofs.put_byte.Goals as goal

pub returns-then-at-out : goal.returns-then-at-out
returns-then-at-out c = put_inside c.args.out.now _ c.args.b c.if-at-out.true

pub returns-then-at-out-2 : goal.returns-then-at-out-2
returns-then-at-out-2 c = put_end c.args.out.now _ c.args.b (sym c.if-at-out-2.true)

pub returns : goal.returns
returns c = put_beyond c.args.out.now _ c.args.b (omega arith)
