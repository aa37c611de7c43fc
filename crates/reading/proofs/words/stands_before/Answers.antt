use Rattle.std.specs.Prelude.{◌≡◌, refl, ◌+◌, get_or}
use Rattle.std.proofs.Common.{rules, arith}
use borrow.Author.Tests.{tests}
use Rattle.std.proofs.lemmas.Iterator.{cases_from_any, YieldsList-from_range}
use Rattle.reading.specs.laws.Targets.{stands_by_any}
use Rattle.reading.proofs.words.stands_before.Goals as goal

pub returns : goal.returns
returns c =
    stands_by_any _ _ _ _ _ (cases_from_any _ _ _ (λ i. c.args.t ≡ get_or c.args.w.now (c.args.from + i) 0)
    (λ i. c.args.t ≡ get_or c.args.w.now (c.args.from + i) 0 → ⊥) c.any.ensures.ran (YieldsList-from_range 0 c.args.n c.args.n refl (omega arith))
    (λ x q k. search (rules, tests)) (λ x q k. search (rules, tests)))
