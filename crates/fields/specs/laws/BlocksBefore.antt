-- How many blocks stand before a region: those of one region more. How many instructions before a block: those of one block more.
use Rattle.std.specs.Prelude.{◌≡◌, refl, List, [], ℕ, ◌+◌, ◌≤◌, length}
use Rattle.std.proofs.Common.{sym, arith, add-one}
use Rattle.meaning.specs.Graph.{Graph, Region, Instr, region, nowhere}
use Rattle.meaning.specs.facts.Sums.{total_next}
use Rattle.record.specs.Stands.{OfRecord}
use Rattle.fields.specs.ByNumber.{BlocksBefore, block_of, instructions_before}

pub none_before : (w : List ℕ) → BlocksBefore w 0 0
none_before w = record { is = λ g s. refl; within = omega arith }

pub blocks_more : {w : List ℕ} {r a n : ℕ} → BlocksBefore w r a → OfRecord w (λ g. n ≡ length (region g r).blocks) → n ≤ 65535
    → BlocksBefore w (r + 1) (a + n)
blocks_more {r = r} b e h =
    let within = b.within in
    record {
      is = λ g s. rw (add-one r) (rw (b.is g s, e g s)
          (sym (total_next (λ (z : Region). length z.blocks) nowhere g.regions r refl)));
      within = omega arith;
    }

-- ---- The same of the instructions before a block.
module _ (g : Graph) (r : ℕ) {sum n : ℕ} where
  pub more_instructions : (b : ℕ) → sum ≡ instructions_before (region g r).blocks b → n ≡ length (block_of g r b)
      → sum + n ≡ instructions_before (region g r).blocks (b + 1)
  more_instructions b e size =
      rw (e, size, add-one b) (sym (total_next (λ (x : List Instr). length x) [] (region g r).blocks b refl))
