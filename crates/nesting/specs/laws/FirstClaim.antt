-- The scan of deferred edges stops at its first claim, in the state that the claim left.
use Rattle.std.specs.Prelude.{◌≡◌, List, ◌∷◌, ◌++◌, ℕ}
use Rattle.std.proofs.Math.Option.{some}
use Rattle.meaning.specs.Graph.{Value, Graph}
use Rattle.nesting.specs.Nesting.{LazyCond, to_region, DeferredEdgeBundle, DeferredEdgeBundleSet, NestState, done, ClaimedRegion}
use Rattle.nesting.specs.Nesting.{Claim, split_out_matching}

-- a deferred edge to a region
abbrev pub bundle_to : ℕ → ℕ → List Value → LazyCond → DeferredEdgeBundle
bundle_to r n inputs c = record { target = to_region r; accumulated_count = n; target_inputs = inputs; condition = c }

pub first_claim : (g : Graph) (claim : Claim) (before es : DeferredEdgeBundleSet) (r n : ℕ) (inputs : List Value) (cond : LazyCond)
    (s t : NestState) (c : ClaimedRegion)
    → claim r n inputs s ≡ done (some c) t
    → split_out_matching g claim before (bundle_to r n inputs cond ∷ es) s
    ≡ done (some (record { bundle = bundle_to r n inputs cond; claimed_region = c; others = before ++ es })) t
unfolding split_out_matching
first_claim g claim before es r n inputs cond s t c h = rw h
