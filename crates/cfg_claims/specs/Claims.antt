-- Claims and regions, which call each other, as the words alone have them: what each call does, told by what the calls in it do.
use Rattle.std.specs.Prelude.{◌≡◌, List, ℕ, suc, ◌≤◌, ◌<◌, length, get_or}
use Rattle.meaning.specs.Graph.{Graph, region, edges_of}
use Rattle.record.specs.Stands.{Stands}
use Rattle.fields.specs.ByNumber.{edge_of}
use Rattle.state_words.specs.Sections.{word, stored, kinds, set_lengths, used}
use Rattle.state_words.specs.Totals.{attempted}
use Rattle.state_regions.specs.RegionTables.{target_answer_stored}
use Rattle.state_words.specs.Totals.{Done, Full}
use Rattle.std.specs.Prelude.{Err, Ok, Result, ⊤}
use Rattle.cfg_regions.specs.declared.claim.Claim.{Claim}
use Rattle.cfg_regions.specs.declared.claim.Claim.TheVariants.{Claimed, Unclaimed}
use Rattle.cfg_claims.specs.SplitOut.{SplitOut}
use Rattle.cfg_claims.specs.SplitOut as split
use Rattle.cfg_regions.specs.ByState.{ClaimsByState, unclaimed_word}
use Rattle.cfg_regions.specs.ByInst.{ByControlInst, ResolvesBy, own_bundle, made_ready}
use Rattle.state_words.specs.Rows.{bundle_count, bundle_target, kind_in_progress, kind_not_begun, level_claimed, region_kind, return_word}
use Rattle.store.specs.declared.refusals.Refusal.{Refusal}
use Rattle.store.specs.declared.refusals.Refusal.TheVariants.{TooMany, Never}

-- A record stands in the words.
pub record Stood (w : List ℕ) : Type 0 where
  pub graph : Graph
  pub stands : Stands w graph
  pub room : used ≤ length w

pub record NotBegun (w : List ℕ) (r : ℕ) : Type 0 where
  pub below : r < 32
  pub kind : region_kind w r ≡ kind_not_begun

abbrev pub target_count : Graph → ℕ → ℕ
target_count g r = length (edges_of (region g r).terminator)

-- Target and count of bundle i of region r's set.
abbrev pub own_target : List ℕ → ℕ → ℕ → ℕ
own_target w r i = bundle_target w (own_bundle w r i)

abbrev pub own_count : List ℕ → ℕ → ℕ → ℕ
own_count w r i = bundle_count w (own_bundle w r i)

mutual
  -- A claim of region r with n edges.
  pub data TriesClaim (g : Graph) (counts : List ℕ) : List ℕ → ℕ → ℕ → List ℕ → Result Claim Refusal → Type 0 where
    no_region : {w w' : List ℕ} {r n : ℕ} → 32 ≤ r → w' ≡ attempted w → TriesClaim g counts w r n w' (Err (Never r))
    refused_inside : {w w' : List ℕ} {r n : ℕ} {y : Refusal} → NotBegun (attempted w) r
        → StructurizesRegion g counts (attempted w) r w' (Err y) → TriesClaim g counts w r n w' (Err y)
    first_claim : {w w₁ w' : List ℕ} {r n : ℕ} {a : Result Claim Refusal} → NotBegun (attempted w) r
        → StructurizesRegion g counts (attempted w) r w₁ (Ok tt)
        → ClaimsByState g w₁ r n (get_or counts r 0) w' a → TriesClaim g counts w r n w' a
    later_claim : {w w' : List ℕ} {r n : ℕ} {a : Result Claim Refusal} → r < 32 → (region_kind (attempted w) r ≡ kind_not_begun → ⊥)
        → ClaimsByState g (attempted w) r n (get_or counts r 0) w' a → TriesClaim g counts w r n w' a

  pub data StructurizesRegion (g : Graph) (counts : List ℕ) : List ℕ → ℕ → List ℕ → Result ⊤ Refusal → Type 0 where
    refused_at_targets : {w w' : List ℕ} {r : ℕ} {y : Refusal}
        → TargetRegions g counts (stored w kinds r kind_in_progress) r 0 w' (Err y)
        → StructurizesRegion g counts w r w' (Err y)
    refused_at_inst : {w w₁ w' : List ℕ} {r : ℕ} → TargetRegions g counts (stored w kinds r kind_in_progress) r 0 w₁ (Ok tt)
        → ByControlInst g w₁ r w' Full → StructurizesRegion g counts w r w' (Err TooMany)
    refused_at_edges : {w w₁ w₂ w' : List ℕ} {r : ℕ} {y : Refusal}
        → TargetRegions g counts (stored w kinds r kind_in_progress) r 0 w₁ (Ok tt)
        → ByControlInst g w₁ r w₂ Done → ResolvesAll g counts w₂ r w' (Err y)
        → StructurizesRegion g counts w r w' (Err y)
    structurized : {w w₁ w₂ w₃ w' : List ℕ} {r : ℕ} → TargetRegions g counts (stored w kinds r kind_in_progress) r 0 w₁ (Ok tt)
        → ByControlInst g w₁ r w₂ Done → ResolvesAll g counts w₂ r w₃ (Ok tt) → w' ≡ made_ready w₃ r
        → StructurizesRegion g counts w r w' (Ok tt)

  -- Region r's targets from place j on.
  pub data TargetRegions (g : Graph) (counts : List ℕ) : List ℕ → ℕ → ℕ → List ℕ → Result ⊤ Refusal → Type 0 where
    no_target : {w w' : List ℕ} {r j : ℕ} → target_count g r ≤ j → w' ≡ w → TargetRegions g counts w r j w' (Ok tt)
    target_refused : {w w' : List ℕ} {r j : ℕ} {y : Refusal} → j < target_count g r
        → TriesClaim g counts w (edge_of g r j).target 1 w' (Err y)
        → TargetRegions g counts w r j w' (Err y)
    target_claimed : {w w₁ w' : List ℕ} {r j : ℕ} {a : Result ⊤ Refusal} → j < target_count g r
        → TriesClaim g counts w (edge_of g r j).target 1 w₁ (Ok Claimed)
        → TargetRegions g counts (target_answer_stored w₁ r j level_claimed) r (suc j) w' a → TargetRegions g counts w r j w' a
    target_waits : {w w₁ w' : List ℕ} {r j : ℕ} {a : Result ⊤ Refusal} → j < target_count g r
        → TriesClaim g counts w (edge_of g r j).target 1 w₁ (Ok Unclaimed)
        → TargetRegions g counts (target_answer_stored w₁ r j (unclaimed_word w₁ (edge_of g r j).target)) r (suc j) w' a
        → TargetRegions g counts w r j w' a

  -- The scan of region r's set, of n bundles, from place i on.
  pub data Scans (g : Graph) (counts : List ℕ) : List ℕ → ℕ → ℕ → ℕ → List ℕ → SplitOut → Type 0 where
    no_bundle_left : {w w' : List ℕ} {r n i : ℕ} → n ≤ i → w' ≡ w → Scans g counts w r n i w' split.Nothing
    passes_return : {w w' : List ℕ} {r n i : ℕ} {a : SplitOut} → i < n → own_target w r i ≡ return_word → Scans g counts w r n (suc i) w' a
        → Scans g counts w r n i w' a
    passes_waiting : {w w₁ w' : List ℕ} {r n i : ℕ} {a : SplitOut} → i < n → (own_target w r i ≡ return_word → ⊥)
        → TriesClaim g counts w (own_target w r i) (own_count w r i) w₁ (Ok Unclaimed) → Scans g counts w₁ r n (suc i) w' a
        → Scans g counts w r n i w' a
    claims_bundle : {w w' : List ℕ} {r n i : ℕ} → i < n → (own_target w r i ≡ return_word → ⊥)
        → TriesClaim g counts w (own_target w r i) (own_count w r i) w' (Ok Claimed) → Scans g counts w r n i w' (split.At i)
    scan_refused : {w w' : List ℕ} {r n i : ℕ} {y : Refusal} → i < n → (own_target w r i ≡ return_word → ⊥)
        → TriesClaim g counts w (own_target w r i) (own_count w r i) w' (Err y)
        → Scans g counts w r n i w' (split.Refused y)

  pub data SplitsOut (g : Graph) (counts : List ℕ) : List ℕ → ℕ → List ℕ → SplitOut → Type 0 where
    splits_out : {w w' : List ℕ} {r : ℕ} {a : SplitOut} → Scans g counts w r (word w set_lengths r) 0 w' a → SplitsOut g counts w r w' a

  -- At most `left` turns of the loop over region r's set.
  pub data Resolves (g : Graph) (counts : List ℕ) : List ℕ → ℕ → ℕ → List ℕ → Result ⊤ Refusal → Type 0 where
    no_turn : {w w' : List ℕ} {r : ℕ} → w' ≡ w → Resolves g counts w r 0 w' (Ok tt)
    nothing_claimed : {w w' : List ℕ} {r left : ℕ} → SplitsOut g counts w r w' split.Nothing
        → Resolves g counts w r (suc left) w' (Ok tt)
    claim_refused : {w w' : List ℕ} {r left : ℕ} {y : Refusal} → SplitsOut g counts w r w' (split.Refused y)
        → Resolves g counts w r (suc left) w' (Err y)
    select_refused : {w w₁ w' : List ℕ} {r left i : ℕ} → SplitsOut g counts w r w₁ (split.At i) → ResolvesBy g w₁ r i w' Full
        → Resolves g counts w r (suc left) w' (Err TooMany)
    claims_and : {w w₁ w₂ w' : List ℕ} {r left i : ℕ} {a : Result ⊤ Refusal} → SplitsOut g counts w r w₁ (split.At i)
        → ResolvesBy g w₁ r i w₂ Done → Resolves g counts w₂ r left w' a → Resolves g counts w r (suc left) w' a

  pub data ResolvesAll (g : Graph) (counts : List ℕ) : List ℕ → ℕ → List ℕ → Result ⊤ Refusal → Type 0 where
    resolves_all : {w w' : List ℕ} {r : ℕ} {a : Result ⊤ Refusal} → Resolves g counts w r (length g.regions) w' a → ResolvesAll g counts w r w' a
