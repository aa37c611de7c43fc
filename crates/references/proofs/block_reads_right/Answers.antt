use Prim.Native.Nat.{◌+◌}
use native.Mathlib.Omega.{arith}
use native.Mathlib.Nat.{add-zero}
use lib.ListN.{drop}
use Rattle.format.specs.References as format
use Rattle.fields.specs.ByNumber.{block_of}
use Rattle.references.specs.laws.Walks.{reads_walk}
use Rattle.references.proofs.block_reads_right.Goals as goal

pub loop-i-init : goal.loop-i-init
loop-i-init c =
    let a = c.args in
    record {
      bound = omega arith;
      left = λ g k. format.reads_right g a.r (a.before + k) (drop k (block_of g a.r a.b));
      walk = λ g s. reads_walk g a.r a.before (block_of g a.r a.b) (c.block_length-n.ensures g s);
      rest = λ g s. rw (add-zero a.before);
    }
