-- A region's instructions, counted from 0 through its blocks.
use Rattle.std.specs.Prelude.{◌≡◌, ℕ, suc, ◌+◌, ◌-◌, ◌≤◌, ◌<◌, drop}
use Rattle.std.proofs.Common.{sym, ◌∙◌, add-one, length-append, drop_of_length-le, drop-cons, get_or-append-add}
use Rattle.std.proofs.Math.Path.{ap}
use mathlib.Core.List.{List, [], ◌++◌}
use native.Mathlib.Omega.{arith}
use Rattle.std.proofs.Math.ListN.{length, get_or, get_or-append}
use Rattle.meaning.specs.Graph.{Instr}
use Rattle.format.specs.References.{instructions, no_instr}

module _ (bs : List (List Instr)) where
  pub instructions_cons : (b : ℕ) → b < length bs → instructions (drop b bs) ≡ get_or bs b [] ++ instructions (drop (suc b) bs)
  unfolding instructions
  instructions_cons b l = ap instructions (drop-cons bs b [] l)

  -- By the number n of blocks that the code has: one block more is counted.
  module _ {n : ℕ} (size : n ≡ length bs) where
    pub count_more : (b sum all : ℕ) → b < n → sum + length (instructions (drop b bs)) ≡ all
        → sum + length (get_or bs b []) + length (instructions (drop (b + 1) bs)) ≡ all
    count_more b sum all l h =
        let step : length (instructions (drop b bs)) ≡ length (get_or bs b []) + length (instructions (drop (suc b) bs)) =
        ap length (instructions_cons b (omega arith)) ∙ length-append (get_or bs b []) _ in
        let next = ap (λ n. length (instructions (drop n bs))) (add-one b) in
        omega arith

    pub count_all : (b sum all : ℕ) → n ≤ b → sum + length (instructions (drop b bs)) ≡ all → sum ≡ all
    unfolding instructions
    count_all b sum all l h = let none = ap (λ x. length (instructions x)) (drop_of_length-le bs {i = b} (omega arith)) in omega arith

    -- Instruction k from block b on: of this block, of a later one, of none.
    pub this_block : (b k : ℕ) → b < n → k < length (get_or bs b [])
        → get_or (instructions (drop b bs)) k no_instr ≡ get_or (get_or bs b []) k no_instr
    this_block b k l h = ap (λ xs. get_or xs k no_instr) (instructions_cons b (omega arith)) ∙ get_or-append (get_or bs b []) _ no_instr k h

    pub later_block : (b k : ℕ) → b < n → length (get_or bs b []) ≤ k
        → get_or (instructions (drop b bs)) k no_instr ≡ get_or (instructions (drop (b + 1) bs)) (k - length (get_or bs b [])) no_instr
    later_block b k l h =
        let here = length (get_or bs b []) in
        let rest = instructions (drop (suc b) bs) in
        let split : k ≡ here + (k - here) = omega arith in
        ap (λ xs. get_or xs k no_instr) (instructions_cons b (omega arith))
        ∙ ap (λ n. get_or (get_or bs b [] ++ rest) n no_instr) split
        ∙ get_or-append-add (get_or bs b []) rest (k - here) no_instr
        ∙ ap (λ n. get_or (instructions (drop n bs)) (k - here) no_instr) (sym (add-one b))

    pub no_block : (b k : ℕ) → n ≤ b → get_or (instructions (drop b bs)) k no_instr ≡ no_instr
    unfolding instructions
    no_block b k l = ap (λ x. get_or (instructions x) k no_instr) (drop_of_length-le bs {i = b} (omega arith))
