-- What the loops over a header's four places need at their ends: no more inputs are kept than places were passed, and four are all.
use Rattle.std.specs.Prelude.{◌≡◌, List, ℕ, ◌+◌, ◌≤◌}
use Rattle.std.proofs.Common.{arith}
use Rattle.cfg_loops.specs.declared.inputs.LoopInputs.{LoopInputs}
use Rattle.cfg_loops.specs.Inputs.{RewritesValues, TakesInput, lifted, kept, beyond, TakesFrom, TakesInputs}

-- ---- The bound on the kept inputs.
pub few_kept : {r wrapper n k v : ℕ} {x y : LoopInputs} {l l' : List ℕ} → TakesInput r wrapper n k v x l l' y → x.count ≤ k
    → y.count ≤ k + 1
few_kept (lifted a b c d e f) h = omega arith
few_kept (kept a b c) h = let e = c.count in omega arith
few_kept (beyond a b c d e) h = omega arith

pub all_taken : {r wrapper n k h : ℕ} {x : LoopInputs} {l vs l' ws : List ℕ} → TakesFrom r wrapper n k l vs l' ws x → k ≤ 4 → 4 ≤ k
    → h ≡ x.cells.0 → TakesInputs r wrapper n l vs l' ws h
all_taken {k} {x} taken a b e = let all : k ≡ 4 = omega arith in record { last = x; taken = rw all at taken; cells = e }

pub all_rewritten : {n k : ℕ} {l vs l' us : List ℕ} → RewritesValues n k l vs l' us → k ≤ 4 → 4 ≤ k → RewritesValues n 4 l vs l' us
all_rewritten {k} made a b = let all : k ≡ 4 = omega arith in rw all at made
