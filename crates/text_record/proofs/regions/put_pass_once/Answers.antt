use mathlib.Core.Path.{sym, ap, ◌∙◌}
use lib.ListN.{get_or}
use Rattle.meaning.specs.Graph.{region, edges_of, no_edge}
use Rattle.text.specs.laws.BufferLaws.{of_text, wrote_none}
use Rattle.text_parts.specs.Parts.{pass_once}
use Rattle.text_record.proofs.regions.put_pass_once.Goals as goal

pub returns-then-target_again : goal.returns-then-target_again
unfolding pass_once
returns-then-target_again c = λ g s.
    let a = c.args in
    of_text (ap (λ b. pass_once b (get_or (edges_of (region g a.r).terminator) a.j no_edge))
    (sym c.if-target_again.true ∙ c.target_again.ensures g s)) wrote_none

pub returns : goal.returns
unfolding pass_once
returns c =
    λ g s.
    let a = c.args in
    of_text (ap (λ b. pass_once b (get_or (edges_of (region g a.r).terminator) a.j no_edge))
    (sym c.if-target_again.false ∙ c.target_again.ensures g s)) (c.put_pass.ensures g s)
