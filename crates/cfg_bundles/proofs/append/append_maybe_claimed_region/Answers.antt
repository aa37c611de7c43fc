use Rattle.cfg_bundles.specs.laws.paths.Paths.{append_claimed, append_edge}
use Rattle.cfg_bundles.specs.EdgesAndCases.{its_rest}
use borrow.Author.Rules.{rules}
use Rattle.cfg_bundles.proofs.append.append_maybe_claimed_region.Goals as goal
use Rattle.cfg_bundles.proofs.append.append_maybe_claimed_region.Goals.{in-ClaimedRegion, in-OwnEdge, in_default}

pub returns : goal.returns
returns c = elim c.match-x.branch [
  | in-ClaimedRegion w ↦ append_claimed _ _ _ _ w.in-ClaimedRegion.is w.case_inputs-vs.ensures w.insert_rewrites.ensures w.children-before.ensures w.join-h.ensures
      w.set_children.ensures w.swap_sets.ensures (rw w.w-is at c.put_set_length.ensures)
  | in-OwnEdge w ↦ append_edge _ _ _ _ w.in-OwnEdge.is w.set_start.ensures w.bundle_at-p.ensures w.copy_bundle.ensures
      (rw w.w-is at c.put_set_length.ensures)
  | in_default w ↦ its_rest (search rules) (search rules) (rw w.w-is at c.put_set_length.ensures)
]
