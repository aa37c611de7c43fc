use mathlib.Core.Path.{◌≡◌}
use lib.ListN.{get_or, drop}
use Rattle.meaning.specs.Graph.{region}
use Rattle.format.specs.References.{instructions, no_instr, instr_type}
use Rattle.record.specs.Stands.{OfRecord}
use Rattle.fields.proofs.output_type.Given as goal

abbrev pub invariant-loop-b : goal.invariant-loop-b
invariant-loop-b l =
    OfRecord l.w (λ g. (get_or (instructions (drop l.b (region g l.r).blocks)) l.left no_instr).type ≡ instr_type
    (region g l.r) l.k)
