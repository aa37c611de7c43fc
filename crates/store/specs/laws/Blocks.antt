-- Laws of the blocks' verdicts: the first refusal among the blocks stands.
use Rattle.std.specs.Prelude.{◌≡◌, refl, List, ℕ, ◌+◌, ◌*◌, ◌<◌, eqb}
use Rattle.std.proofs.Common.{sym, ◌∙◌, add-one, arith}
use Rattle.format.specs.Store.{accepted, refused, pair, weighted, blocks_checked}
use Rattle.format.specs.laws.Stores.{blocks_stay}
use Rattle.store.specs.Block.{first_wrong, block_checked}
use Rattle.store.specs.declared.refusals.Refusal.TheVariants.{WrongBlockNumber, WrongCheck}

pub blocks_more : (s : List ℕ) (n : ℕ) → blocks_checked s n ≡ accepted tt → blocks_checked s (n + 1) ≡ block_checked s n
unfolding blocks_checked
blocks_more s n e = rw (add-one, e) refl

-- The loop over the blocks stops at the first refusal.
pub blocks_stop : (s : List ℕ) (m n a b : ℕ) → blocks_checked s m ≡ accepted tt → m < n → refused a b ≡ block_checked s m
    → refused a b ≡ blocks_checked s n
blocks_stop s m n a b e l h = sym (blocks_stay s (m + 1) n a b (omega arith) (blocks_more s m e ∙ sym h))

-- The verdict by the numbers that were read.
pub block_by : (s : List ℕ) (b number low high sum : ℕ) → number ≡ pair s (512 * b) → low ≡ pair s (512 * b + 508)
    → high ≡ pair s (512 * b + 510) → sum ≡ weighted s (512 * b) 508
    → first_wrong (eqb number b) (WrongBlockNumber b) (eqb (low + 65536 * high) sum) (WrongCheck b) ≡ block_checked s b
block_by s b number low high sum p q r t = rw (p, q, r, t) refl
