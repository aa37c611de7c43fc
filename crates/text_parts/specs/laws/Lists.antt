-- The targets of a region as a list of numbers.
use Rattle.std.specs.Prelude.{◌≡◌, ℕ, length, get_or}
use Rattle.std.proofs.Common.{sym}
use Rattle.std.proofs.lemmas.List.{length-map}
use Rattle.std.proofs.Math.ListN.{get_or-map}
use Rattle.meaning.specs.Graph.{Graph, region, edges_of, targets_of, no_edge}
use Rattle.fields.specs.ByNumber.{edge_of}

pub target_count : (g : Graph) (r : ℕ) → length (edges_of (region g r).terminator) ≡ length (targets_of g r)
target_count g r = sym (length-map (edges_of (region g r).terminator) _)

pub target_item : (g : Graph) (r k : ℕ) → (edge_of g r k).target ≡ get_or (targets_of g r) k 0
target_item g r k = sym (get_or-map (λ e. e.target) (edges_of (region g r).terminator) k no_edge)
