use native.Mathlib.Omega.{arith}
use mathlib.Core.Path.{refl, ap}
use lib.ListN.{drop}
use Rattle.meaning.specs.Graph.{no_value}
use Rattle.format.specs.References as format
use Rattle.fields.specs.ByNumber.{instr_of}
use Rattle.references.specs.laws.Walks.{each_walk}
use Rattle.references.proofs.instruction_reads_right.Goals as goal

pub loop-k-init : goal.loop-k-init
loop-k-init c =
    let a = c.args in
    record {
      bound = omega arith;
      left = λ g k. format.first_refusal (format.named_right g a.r a.before) (drop k (instr_of g a.r a.b a.i).reads);
      walk = λ g s.
          let size = ap (λ x. x.reads) (c.instruction-x.ensures g s) in
          each_walk (instr_of g a.r a.b a.i).reads no_value size (format.named_right g a.r a.before);
      rest = λ g s. refl;
    }
