-- What is concluded from each answer of the claim.
use Rattle.cfg.specs.laws.paths.FuncLaws.{of_claimed, of_unclaimed}
use Rattle.cfg.proofs.func.conclude.Goals as goal

pub returns-in-Claimed : goal.returns-in-Claimed
returns-in-Claimed c = λ g st. of_claimed (rw c.in-Claimed.is) (c.entry.ensures g st) c.outcome_of.ensures

pub returns-in-Unclaimed : goal.returns-in-Unclaimed
returns-in-Unclaimed c = λ g st. of_unclaimed (rw c.in-Unclaimed.is)
