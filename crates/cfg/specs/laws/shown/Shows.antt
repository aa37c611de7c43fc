-- What is shown after a claim, a region, its targets, a scan: the definition's answer, and all that the callers hold as it was.
use Rattle.std.specs.Prelude.{◌≡◌, refl, List, [], ◌++◌, ◌⊎◌, ℕ, zero, suc, ◌+◌, ◌*◌, ◌-◌, ◌≤◌, ◌<◌, length, get_or, set, take, drop, eqb}
use Rattle.std.proofs.Common.{ap, subst, ◌∙◌, inl, inr, arith, get_or-set_same, get_or-set_other}
use Rattle.std.proofs.Math.Option.{Option, none, some}
use Rattle.std.proofs.Math.Decide.{ℕ_discrete}
use Rattle.meaning.specs.Graph.{Graph, Value, Edge, no_edge}
use Rattle.meaning.specs.Runs.{Given, base_env}
use Rattle.meaning.specs.Lists.{pick}
use Rattle.format.specs.Valid.{Valid}
use Rattle.nesting.specs.Nesting.{NestState, StepAnswer, done, turned_away, ClaimedRegion, Body, MaybeClaimedRegion, ok, err, defer_edge}
use Rattle.nesting.specs.Nesting.{DeferredEdgeBundleSet, SplitOut, to_region}
use Rattle.nesting.specs.lookups.ChainEnds.{ChainsEnd}
use Rattle.nesting.proofs.lookups.Contexts.{rooted_ends}
use Rattle.follows.specs.simulation.ValidUse.{usable_graph}
use Rattle.follows.specs.simulation.World.{World}
use Rattle.follows.specs.simulation.Invariant.{Inv}
use Rattle.follows.specs.counting.Counting.{Counting, Pre, owed}
use Rattle.follows.proofs.counting.Attempts.{counting}
use Rattle.state_words.specs.Sections.{section, word, stored, kinds, head, start, size, used}
use Rattle.state_words.specs.laws.Apart.{section_stored}
use Rattle.state_shown.specs.laws.Stores.{part_length}
use Rattle.state_regions.specs.RegionTables.{target_answer}
use Rattle.state_shown.specs.Sets.{no_bundle}
use Rattle.state_shown.specs.States.{ShowsState, ShowsBody, ShowsClaimed, no_case}
use Rattle.state_words.specs.Totals.{Made, Done, Full}
use Rattle.std.specs.Prelude.{Err, Ok, Result, ⊤}
use Rattle.cfg_regions.specs.declared.claim.Claim.{Claim}
use Rattle.cfg_regions.specs.declared.claim.Claim.TheVariants.{Claimed, Unclaimed}
use Rattle.cfg_claims.specs.SplitOut as split
use Rattle.state_shown.specs.laws.RegionSteps.{Concerns}
use Rattle.state_shown.specs.Kept.{PreservesMade, KeptRegion}
use Rattle.state_shown.specs.laws.RegionsKept.{preserves_same, preserves_then, kept_same, kept_then}
use Rattle.state_words.specs.Rows.{cells_at, kind_claimed, kind_in_progress, kind_not_begun, level_claimed, level_deferred}
use Rattle.state_words.specs.Rows.{level_unreachable}
use Rattle.state_words.specs.Rows.{region_kind}
use Rattle.store.specs.declared.refusals.Refusal.{Refusal}
use Rattle.format.specs.Refusals.{too_many}
use Rattle.store.specs.Refusals.{refusal_number, refusal_word}

-- ---- A region in progress, or claimed: what it has of its own is occupied by a step under way.
abbrev pub Occupied : List ℕ → ℕ → Type 0
Occupied w q = (region_kind w q ≡ kind_in_progress) ⊎ (region_kind w q ≡ kind_claimed)

pub record PreservesOccupied (g : Graph) (w w' : List ℕ) : Type 0 where
  pub made_stays : PreservesMade g w w'
  pub kinds_stay : (q : ℕ) → Occupied w q → region_kind w' q ≡ region_kind w q
  pub regions_stay : (q : ℕ) → q < length g.regions → Occupied w q → KeptRegion w w' q

pub occupied_same : (g : Graph) (w : List ℕ) → PreservesOccupied g w w
occupied_same g w = record { made_stays = preserves_same g w; kinds_stay = λ q h. refl; regions_stay = λ q l h. kept_same w q }

pub still_occupied : {g : Graph} {w w' : List ℕ} → PreservesOccupied g w w' → (q : ℕ) → Occupied w q → Occupied w' q
still_occupied u q (inl e) = inl (u.kinds_stay q (inl e) ∙ e)
still_occupied u q (inr e) = inr (u.kinds_stay q (inr e) ∙ e)

pub occupied_then : {g : Graph} {w w₁ w₂ : List ℕ} → PreservesOccupied g w w₁ → PreservesOccupied g w₁ w₂ → PreservesOccupied g w w₂
occupied_then a b =
    record {
      made_stays = preserves_then a.made_stays b.made_stays;
      kinds_stay = λ q h. b.kinds_stay q (still_occupied a q h) ∙ a.kinds_stay q h;
      regions_stay = λ q l h. kept_then (a.regions_stay q l h) (b.regions_stay q l (still_occupied a q h));
    }

-- A step of region r's own: what other regions have stays.
pub record PreservesOthers (g : Graph) (r : ℕ) (w w' : List ℕ) : Type 0 where
  pub made_stays : PreservesMade g w w'
  pub kinds_stay : (q : ℕ) → Occupied w q → region_kind w' q ≡ region_kind w q
  pub regions_stay : (q : ℕ) → q < length g.regions → (q ≡ r → ⊥) → Occupied w q → KeptRegion w w' q

pub others_same : (g : Graph) (r : ℕ) (w : List ℕ) → PreservesOthers g r w w
others_same g r w = record { made_stays = preserves_same g w; kinds_stay = λ q h. refl; regions_stay = λ q l d h. kept_same w q }

still_occupied_others : {g : Graph} {r : ℕ} {w w' : List ℕ} → PreservesOthers g r w w' → (q : ℕ) → Occupied w q → Occupied w' q
still_occupied_others u q (inl e) = inl (u.kinds_stay q (inl e) ∙ e)
still_occupied_others u q (inr e) = inr (u.kinds_stay q (inr e) ∙ e)

pub others_then : {g : Graph} {r : ℕ} {w w₁ w₂ : List ℕ} → PreservesOthers g r w w₁ → PreservesOthers g r w₁ w₂ → PreservesOthers g r w w₂
others_then a b =
    record {
      made_stays = preserves_then a.made_stays b.made_stays;
      kinds_stay = λ q h. b.kinds_stay q (still_occupied_others a q h) ∙ a.kinds_stay q h;
      regions_stay = λ q l d h. kept_then (a.regions_stay q l d h) (b.regions_stay q l d (still_occupied_others a q h));
    }

pub others_of_occupied : {g : Graph} (r : ℕ) {w w' : List ℕ} → PreservesOccupied g w w' → PreservesOthers g r w w'
others_of_occupied r u = record { made_stays = u.made_stays; kinds_stay = u.kinds_stay; regions_stay = λ q l d h. u.regions_stay q l h }

pub concerns_others : {g : Graph} → length g.regions ≤ 32 → {r : ℕ} {w w' : List ℕ} → Concerns g r w w' → PreservesOthers g r w w'
concerns_others few c =
    record { made_stays = c.made_stays; kinds_stay = λ q h. c.same_kinds q; regions_stay = λ q l d h. c.others q (omega arith) d }

-- ---- Cells, with those that may still be asked for: 11 by a region that begins, 9 by one that is claimed.
abbrev owe : ℕ → ℕ
owe k = pick (eqb k kind_not_begun) 20 (pick (eqb k kind_claimed) 0 9)

abbrev owed_below : ℕ → List ℕ → ℕ
owed_below zero l = 0
owed_below (suc n) l = owe (get_or l n 0) + owed_below n l

unfoldable pub cells_owed : Graph → List ℕ → ℕ
cells_owed g w = owed_below (length g.regions) (section w kinds)

-- Cells made and owed in all: at the start one, and twenty for each of 32 regions.
abbrev pub most_cells_in_all : ℕ
most_cells_in_all = 641

-- Before the empty list is made, the total counts as too many: so a bound on it says that a list is made.
abbrev pub cells_in_all : Graph → List ℕ → ℕ
cells_in_all g w = word w head cells_at + cells_owed g w + 1000 * (1 - word w head cells_at)

owed_same : (l l' : List ℕ) (n : ℕ) → ((q : ℕ) → q < n → get_or l' q 0 ≡ get_or l q 0) → owed_below n l' ≡ owed_below n l
owed_same l l' zero h = refl
owed_same l l' (suc n) h = let z = owed_same l l' n (λ q b. h q (omega arith)) in rw (h n (omega arith), z)

owed_set : (l : List ℕ) (r x : ℕ) → r < length l → (n : ℕ) → r < n
    → owed_below n (set l r x) + owe (get_or l r 0) ≡ owed_below n l + owe x
owed_set l r x h zero b = absurd (omega arith)
owed_set l r x h (suc n) b = elim (ℕ_discrete n r) [
  | yes e ↦ (
      let z : get_or (set l r x) n 0 ≡ x = ap (λ k. get_or (set l r x) k 0) e ∙ get_or-set_same l r x 0 h in
      let y : get_or l n 0 ≡ get_or l r 0 = ap (λ k. get_or l k 0) e in
      let o = owed_same l (set l r x) n (λ q c. get_or-set_other l r q x 0 (omega arith)) in
      rw (z, y, o) (omega arith))
  | no d ↦ (
      let z = get_or-set_other l r n x 0 d in
      let o = owed_set l r x h n (omega arith) in rw z (omega arith))
]

pub owed_stays : (g : Graph) (w w' : List ℕ) → ((q : ℕ) → q < length g.regions → region_kind w' q ≡ region_kind w q)
    → cells_owed g w' ≡ cells_owed g w
unfolding cells_owed
owed_stays g w w' h = owed_same (section w kinds) (section w' kinds) (length g.regions) h

owed_none_begun : (l : List ℕ) (n : ℕ) → ((q : ℕ) → q < n → get_or l q 0 ≡ kind_not_begun) → owed_below n l ≡ 20 * n
owed_none_begun l zero h = refl
owed_none_begun l (suc n) h = let z = owed_none_begun l n (λ q b. h q (omega arith)) in rw (h n (omega arith)) (omega arith)

pub owed_at_start : (g : Graph) (w : List ℕ) → ((q : ℕ) → q < length g.regions → region_kind w q ≡ kind_not_begun)
    → cells_owed g w ≡ 20 * length g.regions
unfolding cells_owed
owed_at_start g w h = owed_none_begun (section w kinds) (length g.regions) h

pub owed_kind : (g : Graph) (w : List ℕ) (r x : ℕ) → used ≤ length w → r < 32 → r < length g.regions
    → cells_owed g (stored w kinds r x) + owe (region_kind w r) ≡ cells_owed g w + owe x
unfolding cells_owed
owed_kind g w r x room below h =
    let n = part_length (start kinds) (size kinds) w (omega arith) in
    rw (section_stored w kinds r x) (owed_set (section w kinds) r x (omega arith) (length g.regions) h)

-- ---- The definition's side: how nesting stands when a claim is made.
module _ (g : Graph) (valid : Valid g) where
  abbrev no_words : Given
  no_words = record { constants = λ i. 0; entry_inputs = λ i. 0; rule = λ op reads past. 0 }

  abbrev pub world : World
  world = record {
    g = g;
    valid = usable_graph g valid;
    rule = no_words.rule;
    base = base_env no_words;
    on_bool = λ b. refl;
    on_undef = λ ty. refl;
  }

  abbrev pub K : Counting
  K = counting g valid

  -- f are the edges in hand, H those that callers hold; at most c attempts more may be made.
  pub record CanClaim (fuel : ℕ) (H f : ℕ → ℕ) (c : ℕ) (s : NestState) : Type 0 where
    pub pre : Pre K fuel H f s
    pub inv : Inv world s
    pub few : s.attempts + owed K s.region_states + c ≤ 65534

  pub chains_of : {s : NestState} → Inv world s → (q : ℕ) → ChainsEnd s.region_input_rewrites q
  chains_of i q = rooted_ends (i.rooted q)

-- The step that is turned away with this refusal.
abbrev pub turned_as : {A : Type 0} → Refusal → StepAnswer A
turned_as y = turned_away (refusal_number y) (refusal_word y)

-- ---- Answers shown. b is what the definition answers.
pub data ClaimShows (g : Graph) (w w' : List ℕ) (r : ℕ) (inputs : List Value) (b : StepAnswer (Option ClaimedRegion)) : Result Claim Refusal → Type 0 where
  shows_claimed : {c : ClaimedRegion} {s' : NestState} → b ≡ done (some c) s' → ShowsState g w' s' → ShowsClaimed g w' c → c.origin ≡ r
      → c.structured_body_inputs ≡ inputs → (Occupied w r → ⊥) → PreservesOccupied g w w' → cells_in_all g w' + 4 ≤ cells_in_all g w
      → ClaimShows g w w' r inputs b (Ok Claimed)
  shows_unclaimed : {s' : NestState} → b ≡ done none s' → ShowsState g w' s' → PreservesOccupied g w w'
      → cells_in_all g w' ≤ cells_in_all g w
      → ClaimShows g w w' r inputs b (Ok Unclaimed)
  shows_refused : {y : Refusal} → b ≡ turned_as y → ClaimShows g w w' r inputs b (Err y)

-- How region r's target at place j was answered, which is that of edge e.
pub data AnsweredAs (g : Graph) (w : List ℕ) (r j : ℕ) (e : Edge) (m : MaybeClaimedRegion) : Type 0 where
  was_claimed : {c : ClaimedRegion} → m ≡ ok c → target_answer w r j ≡ level_claimed → ShowsClaimed g w c → c.origin ≡ e.target
      → c.structured_body_inputs ≡ e.inputs → AnsweredAs g w r j e m
  was_deferred : m ≡ defer_edge e → target_answer w r j ≡ level_deferred → AnsweredAs g w r j e m
  was_nothing : m ≡ err [] → target_answer w r j ≡ level_unreachable → AnsweredAs g w r j e m

-- The regions that were claimed are different ones, and none was occupied before.
pub record NewlyClaimed (w : List ℕ) (cs : List MaybeClaimedRegion) : Type 0 where
  pub free : (k : ℕ) (c : ClaimedRegion) → get_or cs k no_case ≡ ok c → Occupied w c.origin → ⊥
  pub apart : (i j : ℕ) (c d : ClaimedRegion) → i < j → get_or cs i no_case ≡ ok c → get_or cs j no_case ≡ ok d → c.origin ≡ d.origin → ⊥

-- The edges es of region r, from place j on.
pub data TargetsShow (g : Graph) (w w' : List ℕ) (r j : ℕ) (es : List Edge) (b : StepAnswer (List MaybeClaimedRegion)) :
    Result ⊤ Refusal → Type 0 where
  shows_targets : {cs : List MaybeClaimedRegion} {s' : NestState} → b ≡ done cs s' → ShowsState g w' s' → length cs ≡ length es
      → ((k : ℕ) → k < length es → AnsweredAs g w' r (j + k) (get_or es k no_edge) (get_or cs k no_case)) → NewlyClaimed w cs
      → PreservesOthers g r w w'
      → ((k : ℕ) → k < j → target_answer w' r k ≡ target_answer w r k) → cells_in_all g w' ≤ cells_in_all g w
      → TargetsShow g w w' r j es b (Ok tt)
  refuses_targets : {y : Refusal} → b ≡ turned_as y → TargetsShow g w w' r j es b (Err y)

-- A step of region r's own that takes the claimed regions of these cases: what other regions have stays.
pub record PreservesOthersBut (g : Graph) (r : ℕ) (cs : List MaybeClaimedRegion) (w w' : List ℕ) : Type 0 where
  pub made_stays : PreservesMade g w w'
  pub kinds_stay : (q : ℕ) → Occupied w q → region_kind w' q ≡ region_kind w q
  pub regions_stay : (q : ℕ) → q < length g.regions → (q ≡ r → ⊥)
      → ((j : ℕ) (c : ClaimedRegion) → j < length cs → get_or cs j no_case ≡ ok c → q ≡ c.origin → ⊥) → Occupied w q → KeptRegion w w' q

-- The regions that it takes were not occupied before.
pub others_but : {g : Graph} {r : ℕ} {cs : List MaybeClaimedRegion} {w w₁ w₂ : List ℕ} → PreservesOthers g r w w₁
    → PreservesOthersBut g r cs w₁ w₂
    → ((j : ℕ) (c : ClaimedRegion) → get_or cs j no_case ≡ ok c → Occupied w c.origin → ⊥) → PreservesOthers g r w w₂
others_but {w} a b free =
    record {
      made_stays = preserves_then a.made_stays b.made_stays;
      kinds_stay = λ q h. b.kinds_stay q (still_occupied_others a q h) ∙ a.kinds_stay q h;
      regions_stay = λ q l d h. kept_then (a.regions_stay q l d h)
          (b.regions_stay q l d (λ j c i p o. free j c p (subst (λ z. Occupied w z) o h)) (still_occupied_others a q h));
    }

pub data BodyShows (g : Graph) (w w' : List ℕ) (r : ℕ) (cs : List MaybeClaimedRegion) (more : ℕ) (b : StepAnswer Body) : Made → Type 0 where
  shows_body : {x : Body} {s' : NestState} → b ≡ done x s' → ShowsState g w' s' → ShowsBody g w' r x → PreservesOthersBut g r cs w w'
      → cells_in_all g w' ≤ cells_in_all g w + more → BodyShows g w w' r cs more b Done
  refuses_body : b ≡ turned_away too_many 0 → BodyShows g w w' r cs more b Full

-- A scan of the set d.
pub data ScanShows (g : Graph) (w w' : List ℕ) (d : DeferredEdgeBundleSet) (b : StepAnswer (Option SplitOut)) : split.SplitOut → Type 0
  where
    shows_nothing : {s' : NestState} → b ≡ done none s' → ShowsState g w' s' → PreservesOccupied g w w'
        → cells_in_all g w' ≤ cells_in_all g w
        → ScanShows g w w' d b split.Nothing
    shows_split : {i t : ℕ} {y : SplitOut} {s' : NestState} → b ≡ done (some y) s' → ShowsState g w' s' → i < length d
        → y.bundle ≡ get_or d i no_bundle → y.others ≡ take i d ++ drop (suc i) d → y.bundle.target ≡ to_region t
        → ShowsClaimed g w' y.claimed_region → y.claimed_region.origin ≡ t
        → y.claimed_region.structured_body_inputs ≡ y.bundle.target_inputs → (Occupied w t → ⊥) → PreservesOccupied g w w'
        → cells_in_all g w' + 4 ≤ cells_in_all g w
        → ScanShows g w w' d b (split.At i)
    refuses_scan : {y : Refusal} → b ≡ turned_as y → ScanShows g w w' d b (split.Refused y)

-- Turns over region r's set; and the region as a whole.
pub data TurnsShow (g : Graph) (w w' : List ℕ) (r : ℕ) (b : StepAnswer Body) : Result ⊤ Refusal → Type 0 where
  shows_turns : {x : Body} {s' : NestState} → b ≡ done x s' → ShowsState g w' s' → ShowsBody g w' r x → PreservesOthers g r w w'
      → cells_in_all g w' ≤ cells_in_all g w → TurnsShow g w w' r b (Ok tt)
  refuses_turns : {y : Refusal} → b ≡ turned_as y → TurnsShow g w w' r b (Err y)

pub data RegionShows (g : Graph) (w w' : List ℕ) (b : StepAnswer Unit) : Result ⊤ Refusal → Type 0 where
  shows_ready : {s' : NestState} → b ≡ done tt s' → ShowsState g w' s' → PreservesOccupied g w w' → cells_in_all g w' ≤ cells_in_all g w
      → RegionShows g w w' b (Ok tt)
  refuses_region : {y : Refusal} → b ≡ turned_as y → RegionShows g w w' b (Err y)

-- ---- Each taken apart by what the code answered.
module _ {g : Graph} {w w' : List ℕ} {R : Type 0} where
  pub if_claimed : {r : ℕ} {inputs : List Value} {b : StepAnswer (Option ClaimedRegion)} → ClaimShows g w w' r inputs b (Ok Claimed)
      → ((c : ClaimedRegion) (s' : NestState) → b ≡ done (some c) s' → ShowsState g w' s' → ShowsClaimed g w' c → c.origin ≡ r
      → c.structured_body_inputs ≡ inputs → (Occupied w r → ⊥) → PreservesOccupied g w w' → cells_in_all g w' + 4 ≤ cells_in_all g w
      → R) → R
  if_claimed (shows_claimed {c} {s'} p st cl o i f u k) go = go c s' p st cl o i f u k

  pub if_unclaimed : {r : ℕ} {inputs : List Value} {b : StepAnswer (Option ClaimedRegion)} → ClaimShows g w w' r inputs b (Ok Unclaimed)
      → ((s' : NestState) → b ≡ done none s' → ShowsState g w' s' → PreservesOccupied g w w' → cells_in_all g w' ≤ cells_in_all g w → R) → R
  if_unclaimed (shows_unclaimed {s'} p st u k) go = go s' p st u k

  pub if_refused : {r : ℕ} {y : Refusal} {inputs : List Value} {b : StepAnswer (Option ClaimedRegion)}
      → ClaimShows g w w' r inputs b (Err y)
      → (b ≡ turned_as y → R) → R
  if_refused (shows_refused p) go = go p

  pub if_targets : {r j : ℕ} {es : List Edge} {b : StepAnswer (List MaybeClaimedRegion)} → TargetsShow g w w' r j es b (Ok tt)
      → ((cs : List MaybeClaimedRegion) (s' : NestState) → b ≡ done cs s' → ShowsState g w' s' → length cs ≡ length es
      → ((k : ℕ) → k < length es → AnsweredAs g w' r (j + k) (get_or es k no_edge) (get_or cs k no_case)) → NewlyClaimed w cs
      → PreservesOthers g r w w'
      → cells_in_all g w' ≤ cells_in_all g w → R) → R
  if_targets (shows_targets {cs} {s'} p st n each new ar same k) go = go cs s' p st n each new ar k

  pub if_targets_refused : {r j : ℕ} {y : Refusal} {es : List Edge} {b : StepAnswer (List MaybeClaimedRegion)}
      → TargetsShow g w w' r j es b (Err y) → (b ≡ turned_as y → R) → R
  if_targets_refused (refuses_targets p) go = go p

  pub if_body : {r : ℕ} {cs : List MaybeClaimedRegion} {more : ℕ} {b : StepAnswer Body} → BodyShows g w w' r cs more b Done
      → ((x : Body) (s' : NestState) → b ≡ done x s' → ShowsState g w' s' → ShowsBody g w' r x → PreservesOthersBut g r cs w w'
      → cells_in_all g w' ≤ cells_in_all g w + more → R) → R
  if_body (shows_body {x} {s'} p st b ar k) go = go x s' p st b ar k

  pub if_full : {r : ℕ} {cs : List MaybeClaimedRegion} {more : ℕ} {b : StepAnswer Body} → BodyShows g w w' r cs more b Full
      → (b ≡ turned_away too_many 0 → R) → R
  if_full (refuses_body p) go = go p

  pub if_split : {i : ℕ} {d : DeferredEdgeBundleSet} {b : StepAnswer (Option SplitOut)} → ScanShows g w w' d b (split.At i)
      → ((t : ℕ) (y : SplitOut) (s' : NestState) → b ≡ done (some y) s' → ShowsState g w' s' → i < length d → y.bundle ≡ get_or d i no_bundle
      → y.others ≡ take i d ++ drop (suc i) d → y.bundle.target ≡ to_region t → ShowsClaimed g w' y.claimed_region
      → y.claimed_region.origin ≡ t → y.claimed_region.structured_body_inputs ≡ y.bundle.target_inputs → (Occupied w t → ⊥)
      → PreservesOccupied g w w' → cells_in_all g w' + 4 ≤ cells_in_all g w → R) → R
  if_split (shows_split {t} {y} {s'} p st l z o to cl origin many free u k) go = go t y s' p st l z o to cl origin many free u k

  pub if_turns : {r : ℕ} {b : StepAnswer Body} → TurnsShow g w w' r b (Ok tt)
      → ((x : Body) (s' : NestState) → b ≡ done x s' → ShowsState g w' s' → ShowsBody g w' r x → PreservesOthers g r w w'
      → cells_in_all g w' ≤ cells_in_all g w → R) → R
  if_turns (shows_turns {x} {s'} p st b ar k) go = go x s' p st b ar k

  pub if_turns_refused : {r : ℕ} {y : Refusal} {b : StepAnswer Body} → TurnsShow g w w' r b (Err y) → (b ≡ turned_as y → R) → R
  if_turns_refused (refuses_turns p) go = go p

  pub if_ready : {b : StepAnswer Unit} → RegionShows g w w' b (Ok tt)
      → ((s' : NestState) → b ≡ done tt s' → ShowsState g w' s' → PreservesOccupied g w w' → cells_in_all g w' ≤ cells_in_all g w → R) → R
  if_ready (shows_ready {s'} p st u k) go = go s' p st u k
