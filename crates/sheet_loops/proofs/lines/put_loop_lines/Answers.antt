use Rattle.sheet_words.specs.laws.PutInFrontLaws.{puts_then}
use Rattle.sheet_loops.proofs.lines.put_loop_lines.Goals as goal

pub returns : goal.returns
returns c =
    λ g s x y v ns nodes repeat keeps.
    puts_then (c.put_body_line-body.ensures g s x y v ns nodes repeat keeps) (c.put_loop_line.ensures g s x y v ns nodes repeat keeps)
