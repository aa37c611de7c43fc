use native.Mathlib.Omega.{arith}
use Rattle.meaning.specs.Graph.{region, edges_of}
use Rattle.text.specs.laws.BufferLaws.{of_text}
use Rattle.text_record.specs.laws.Passes.{passes_all, wrote_pass, wrote_passes}
use Rattle.text_record.proofs.regions.put_passes.Goals as goal

pub loop-j-preserved : goal.loop-j-preserved
loop-j-preserved c =
    let l = c.loop-j in
    λ g s q w.
    let size = c.target_count-n.ensures g s in
    l.invariant g s q
    (wrote_pass (edges_of (region g c.args.r).terminator)
    l.j (omega arith) (c.put_pass_once-place.ensures g s) w)

pub returns : goal.returns
returns c = λ g s.
    let es = edges_of (region g c.args.r).terminator in
    let size = c.target_count-n.ensures g s in
    of_text (passes_all es) (c.loop-j.invariant g s _ (wrote_passes es c.loop-j.j (omega arith)))
