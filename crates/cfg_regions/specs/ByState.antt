-- A claim of a region that was structurized, as the words alone have it.
use Rattle.std.specs.Prelude.{◌≡◌, Bool, false, List, ℕ, ◌+◌, eqb}
use Rattle.meaning.specs.Graph.{Graph}
use Rattle.meaning.specs.Lists.{pick}
use Rattle.state_words.specs.Sections.{word, stored, kinds, backedges, bodies, children, set_starts, set_lengths}
use Rattle.state_sets.specs.SetTables.{find_by}
use Rattle.state_words.specs.Totals.{Made}
use Rattle.cfg_loops.specs.Loops.{StructurizesLoop}
use Rattle.std.specs.Prelude.{Err, Ok, Result}
use Rattle.cfg_regions.specs.declared.claim.Claim.{Claim}
use Rattle.cfg_regions.specs.declared.claim.Claim.TheVariants.{Claimed, Unclaimed}
use Rattle.store.specs.declared.refusals.Refusal.{Refusal}
use Rattle.state_words.specs.Rows.{kind_claimed, kind_ready, no_bundle_word, region_kind, level_unreachable}
use Rattle.state_words.specs.Rows.{level_deferred}
use Rattle.store.specs.declared.refusals.Refusal.TheVariants.{TooMany}

abbrev pub claim_of : Made → Result Claim Refusal
claim_of (Ok _) = Ok Claimed
claim_of (Err _) = Err TooMany

abbrev pub backedge_at : List ℕ → ℕ → ℕ
backedge_at w r = find_by w (word w set_starts r) r (word w set_lengths r) 0

-- Region r's state is claimed, and it is its own structured body.
abbrev pub as_claimed : List ℕ → ℕ → List ℕ
as_claimed w r = stored (stored w kinds r kind_claimed) bodies r r

pub data ClaimsBody (g : Graph) (w : List ℕ) (r : ℕ) (w' : List ℕ) : Result Claim Refusal → Type 0 where
  no_backedges : word (as_claimed w r) backedges r ≡ 0 → w' ≡ as_claimed w r → ClaimsBody g w r w' (Ok Claimed)
  none_found : (word (as_claimed w r) backedges r ≡ 0 → ⊥) → backedge_at (as_claimed w r) r ≡ no_bundle_word → w' ≡ as_claimed w r
      → ClaimsBody g w r w' (Ok Claimed)
  by_loop : {made : Made} {a : Result Claim Refusal} → (word (as_claimed w r) backedges r ≡ 0 → ⊥) → (backedge_at (as_claimed w r) r ≡ no_bundle_word → ⊥)
      → StructurizesLoop r (backedge_at (as_claimed w r) r) (as_claimed w r) w' made → a ≡ claim_of made → ClaimsBody g w r w' a

pub data ClaimsByState (g : Graph) (w : List ℕ) (r n incoming : ℕ) (w' : List ℕ) : Result Claim Refusal → Type 0 where
  ready_claimed : {a : Result Claim Refusal} → region_kind w r ≡ kind_ready → incoming ≡ n + word w backedges r → ClaimsBody g w r w' a
      → ClaimsByState g w r n incoming w' a
  ready_waits : region_kind w r ≡ kind_ready → (incoming ≡ n + word w backedges r → ⊥) → w' ≡ w
      → ClaimsByState g w r n incoming w' (Ok Unclaimed)
  not_ready : (region_kind w r ≡ kind_ready → ⊥) → w' ≡ w → ClaimsByState g w r n incoming w' (Ok Unclaimed)

unfoldable pub is_trivial : List ℕ → ℕ → Bool
is_trivial w t = pick (eqb (region_kind w t) kind_ready) (pick (eqb (word w set_lengths t) 0) (eqb (word w children t) 0) false) false

-- How the edge to a region that was not claimed is answered.
abbrev pub unclaimed_word : List ℕ → ℕ → ℕ
unclaimed_word w t = pick (is_trivial w t) level_unreachable level_deferred
