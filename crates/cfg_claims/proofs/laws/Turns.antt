-- The functions of the cycle, path by path: what each turn of their loops leaves to be done.
use Rattle.std.specs.Prelude.{◌≡◌, refl, List, ℕ, suc, ◌+◌, ◌-◌, ◌≤◌, ◌<◌, length, get_or}
use Rattle.std.proofs.Common.{sym, ◌∙◌, arith, add-one}
use Rattle.meaning.specs.Graph.{Graph}
use Rattle.record.specs.Stands.{Stands}
use Rattle.fields.specs.ByNumber.{edge_of}
use Rattle.state_words.specs.Sections.{word, stored, kinds, set_lengths, start, size, used}
use Rattle.state_words.specs.Totals.{attempted}
use Rattle.state_regions.specs.RegionTables.{target_answer_stored}
use Rattle.state_shown.specs.laws.FrontKept.{stands_on}
use Rattle.state_shown.specs.laws.Stores.{part_length}
use Rattle.state_words.specs.Totals.{Made, Done, Full}
use Rattle.std.specs.Prelude.{Err, Ok, Result, ⊤}
use Rattle.cfg_regions.specs.declared.claim.Claim.{Claim}
use Rattle.cfg_regions.specs.declared.claim.Claim.TheVariants.{Claimed, Unclaimed}
use Rattle.cfg_claims.specs.SplitOut.{SplitOut}
use Rattle.cfg_claims.specs.SplitOut as split
use Rattle.cfg_regions.specs.ByState.{ClaimsByState, unclaimed_word}
use Rattle.cfg_regions.specs.ByInst.{ByControlInst, ResolvesBy, own_bundle, made_ready}
use Rattle.cfg_claims.specs.Claims.{Stood, NotBegun, target_count, own_target, own_count, TriesClaim, no_region, refused_inside}
use Rattle.cfg_claims.specs.Claims.{first_claim}
use Rattle.cfg_claims.specs.Claims.{later_claim, StructurizesRegion, refused_at_targets, refused_at_inst, refused_at_edges}
use Rattle.cfg_claims.specs.Claims.{structurized}
use Rattle.cfg_claims.specs.Claims.{TargetRegions, no_target, target_refused, target_claimed, target_waits, Scans, no_bundle_left}
use Rattle.cfg_claims.specs.Claims.{passes_return, passes_waiting, claims_bundle, scan_refused, SplitsOut, splits_out, Resolves}
use Rattle.cfg_claims.specs.Claims.{no_turn}
use Rattle.cfg_claims.specs.Claims.{nothing_claimed, claim_refused, select_refused, claims_and, ResolvesAll, resolves_all}
use Rattle.cfg_claims.proofs.laws.Left.{left, SteadyRecord, steady_same, steady_then, steady_answer, steady_claim, steady_split}
use Rattle.cfg_claims.proofs.laws.Left.{steady_of}
use Rattle.cfg_claims.proofs.laws.Left.{begins_less, steady_attempted, steady_targets, inst_kinds, resolve_kinds}
use Rattle.cfg_claims.proofs.laws.Left.{steady_kind, steady_structurized}
use Rattle.state_words.specs.Rows.{bundle_count, bundle_target, kind_in_progress, kind_not_begun, level_claimed, region_kind, return_word}
use Rattle.store.specs.declared.refusals.Refusal.{Refusal}
use Rattle.store.specs.declared.refusals.Refusal.TheVariants.{TooMany, Never}

-- What stood stands on.
pub stood_on : {w w' : List ℕ} → SteadyRecord w w' → Stood w → Stood w'
stood_on y s =
    record { graph = s.graph; stands = stands_on y.front s.stands; room = rw y.front.words s.room }

-- ---- Target regions.
pub record TargetsPassed (counts w₀ : List ℕ) (r : ℕ) (w : List ℕ) (j : ℕ) : Type 0 where
  pub steady : SteadyRecord w₀ w
  pub more : (g : Graph) → Stands w₀ g → {w' : List ℕ} {a : Result ⊤ Refusal} → TargetRegions g counts w r j w' a
      → TargetRegions g counts w₀ r 0 w' a

pub targets_none : (counts w : List ℕ) (r : ℕ) → TargetsPassed counts w r w 0
targets_none counts w r = record { steady = steady_same w; more = λ g st t. t }

module _ {counts w₀ : List ℕ} {r : ℕ} {w : List ℕ} {j n : ℕ} (passed : TargetsPassed counts w₀ r w j)
    (size : (g : Graph) → Stands w₀ g → n ≡ target_count g r) where
  on : {g : Graph} → Stands w₀ g → Stands w g
  on st = stands_on passed.steady.front st

  pub targets_over : n ≤ j → (g : Graph) → Stands w₀ g → TargetRegions g counts w₀ r 0 w (Ok tt)
  targets_over h g st = passed.more g st (no_target (rw (size g st) at h) refl)

  module _ (more : j < n) {t : ℕ} (target : (g : Graph) → Stands w g → t ≡ (edge_of g r j).target) {w₁ : List ℕ} {a : Result Claim Refusal}
      (claim : (g : Graph) → Stands w g → TriesClaim g counts w t 1 w₁ a) where
    its_claim : (g : Graph) → Stands w₀ g → TriesClaim g counts w (edge_of g r j).target 1 w₁ a
    its_claim g st = rw (target g (on st)) at (claim g (on st))

    pub targets_refused : {y : Refusal} → a ≡ Err y → (g : Graph) → Stands w₀ g → TargetRegions g counts w₀ r 0 w₁ (Err y)
    targets_refused e g st = passed.more g st (target_refused (rw (size g st) at more) (rw e at (its_claim g st)))

    module _ (stood : Stood w₀) {w₂ : List ℕ} where
      passed_on : (y : ℕ) → w₂ ≡ target_answer_stored w₁ r j y → SteadyRecord w₀ w₂
      passed_on y e =
          steady_then passed.steady
          (steady_then (steady_claim (claim stood.graph (on stood.stands)) (on stood.stands)) (rw e (steady_answer w₁ r j y)))

      pub targets_claimed : a ≡ Ok Claimed → w₂ ≡ target_answer_stored w₁ r j level_claimed → TargetsPassed counts w₀ r w₂ (j + 1)
      targets_claimed e s =
          record {
            steady = passed_on 2 s;
            more = λ g st t. passed.more g st (target_claimed (rw (size g st) at more) (rw e at (its_claim g st))
                (rw (s, add-one j) at t));
          }

      pub targets_waiting : a ≡ Ok Unclaimed → w₂ ≡ target_answer_stored w₁ r j (unclaimed_word w₁ t) → TargetsPassed counts w₀ r w₂ (j + 1)
      targets_waiting e s =
          record {
            steady = passed_on (unclaimed_word w₁ t) s;
            more = λ g st x. passed.more g st (target_waits (rw (size g st) at more) (rw e at (its_claim g st))
                (rw (s, add-one j, target g (on st)) at x));
          }

-- ---- The scan.
pub record ScanPassed (counts w₀ : List ℕ) (r n : ℕ) (w : List ℕ) (i : ℕ) : Type 0 where
  pub steady : SteadyRecord w₀ w
  pub more : (g : Graph) → Stands w₀ g → {w' : List ℕ} {a : SplitOut} → Scans g counts w r n i w' a → Scans g counts w₀ r n 0 w' a

-- How it ends: past the last bundle, or at the one that was claimed.
pub record Scanned (counts w : List ℕ) (r n : ℕ) (w₁ : List ℕ) (i : ℕ) : Type 0 where
  pub claims_none : n ≤ i → (g : Graph) → Stands w g → SplitsOut g counts w r w₁ split.Nothing
  pub claims_one : i < n → (g : Graph) → Stands w g → SplitsOut g counts w r w₁ (split.At i)

pub scan_none : (counts w : List ℕ) (r n : ℕ) → ScanPassed counts w r n w 0
scan_none counts w r n = record { steady = steady_same w; more = λ g st t. t }

module _ {counts w₀ : List ℕ} {r n : ℕ} {w : List ℕ} {i : ℕ} (passed : ScanPassed counts w₀ r n w i) where
  split_on : {g : Graph} → Stands w₀ g → Stands w g
  split_on st = stands_on passed.steady.front st

  out_of : n ≡ word w₀ set_lengths r → (g : Graph) → Stands w₀ g → {w' : List ℕ} {a : SplitOut} → Scans g counts w r n i w' a
      → SplitsOut g counts w₀ r w' a
  out_of size g st x = splits_out (rw size at (passed.more g st x))

  pub scan_over : n ≡ word w₀ set_lengths r → n ≤ i → Scanned counts w₀ r n w i
  scan_over size h =
      record { claims_none = λ l g st. out_of size g st (no_bundle_left l refl); claims_one = λ l. absurd (omega arith) }

  module _ (more : i < n) {p t : ℕ} (place : p ≡ own_bundle w r i) (target : t ≡ bundle_target w p) where
    target_is : t ≡ own_target w r i
    target_is = target ∙ rw place

    pub scan_return : t ≡ return_word → ScanPassed counts w₀ r n w (i + 1)
    scan_return e =
        record {
          steady = passed.steady;
          more = λ g st x. passed.more g st (passes_return more (sym target_is ∙ e) (rw (add-one i) at x));
        }

    module _ (to_region : t ≡ return_word → ⊥) {k : ℕ} (of_count : k ≡ bundle_count w p) {w₁ : List ℕ} {a : Result Claim Refusal}
        (claim : (g : Graph) → Stands w g → TriesClaim g counts w t k w₁ a) where
      elsewhere : own_target w r i ≡ return_word → ⊥
      elsewhere e = to_region (target_is ∙ e)

      bundle_claim : (g : Graph) → Stands w₀ g → TriesClaim g counts w (own_target w r i) (own_count w r i) w₁ a
      bundle_claim g st =
          let c : k ≡ own_count w r i = of_count ∙ rw place in rw (target_is, c) at (claim g (split_on st))

      pub scan_claimed : n ≡ word w₀ set_lengths r → a ≡ Ok Claimed → Scanned counts w₀ r n w₁ i
      scan_claimed size e =
          record {
            claims_none = λ l. absurd (omega arith);
            claims_one = λ l g st. out_of size g st (claims_bundle more elsewhere (rw e at (bundle_claim g st)));
          }

      pub scan_refuses : n ≡ word w₀ set_lengths r → {y : Refusal} → a ≡ Err y → (g : Graph) → Stands w₀ g
          → SplitsOut g counts w₀ r w₁ (split.Refused y)
      scan_refuses size e g st = out_of size g st (scan_refused more elsewhere (rw e at (bundle_claim g st)))

      pub scan_waiting : Stood w₀ → a ≡ Ok Unclaimed → ScanPassed counts w₀ r n w₁ (i + 1)
      scan_waiting stood e =
          record {
            steady = steady_then passed.steady (steady_claim (claim stood.graph (split_on stood.stands))
                (split_on stood.stands));
            more = λ g st x. passed.more g st (passes_waiting more elsewhere (rw e at (bundle_claim g st)) (rw (add-one i) at x));
          }

-- ---- Turns over the deferred edges.
pub record TurnsPassed (counts w₀ : List ℕ) (r : ℕ) (w : List ℕ) (turns : ℕ) : Type 0 where
  pub steady : SteadyRecord w₀ w
  pub more : (g : Graph) → Stands w₀ g → {w' : List ℕ} {a : Result ⊤ Refusal} → Resolves g counts w r turns w' a → ResolvesAll g counts w₀ r w' a

pub turns_none : (counts w : List ℕ) (r n : ℕ) → ((g : Graph) → Stands w g → n ≡ length g.regions) → TurnsPassed counts w r w n
turns_none counts w r n size =
    record { steady = steady_same w; more = λ g st t. resolves_all (rw (size g st) at t) }

module _ {counts w₀ : List ℕ} {r : ℕ} {w : List ℕ} {turns : ℕ} (passed : TurnsPassed counts w₀ r w turns) where
  turn_on : {g : Graph} → Stands w₀ g → Stands w g
  turn_on st = stands_on passed.steady.front st

  pub turns_over : turns ≤ 0 → (g : Graph) → Stands w₀ g → ResolvesAll g counts w₀ r w (Ok tt)
  turns_over h g st = let e : turns ≡ 0 = omega arith in passed.more g st (rw e (no_turn refl))

  module _ (some : 0 < turns) where
    one_more : suc (turns - 1) ≡ turns
    one_more = omega arith

    turned : (g : Graph) → Stands w₀ g → {w' : List ℕ} {b : Result ⊤ Refusal} → Resolves g counts w r (suc (turns - 1)) w' b
        → ResolvesAll g counts w₀ r w' b
    turned g st x = passed.more g st (rw one_more at x)

    pub turn_nothing : {w₁ : List ℕ} → ((g : Graph) → Stands w g → SplitsOut g counts w r w₁ split.Nothing) → (g : Graph) → Stands w₀ g
        → ResolvesAll g counts w₀ r w₁ (Ok tt)
    turn_nothing scan g st = turned g st (nothing_claimed (scan g (turn_on st)))

    pub turn_refused : {w₁ : List ℕ} {y : Refusal} → ((g : Graph) → Stands w g → SplitsOut g counts w r w₁ (split.Refused y))
        → (g : Graph) → Stands w₀ g → ResolvesAll g counts w₀ r w₁ (Err y)
    turn_refused scan g st = turned g st (claim_refused (scan g (turn_on st)))

    module _ {w₁ : List ℕ} {i : ℕ} (scan : (g : Graph) → Stands w g → SplitsOut g counts w r w₁ (split.At i)) {w₂ : List ℕ} {b : Made}
        (select : (g : Graph) → Stands w₁ g → ResolvesBy g w₁ r i w₂ b) where
      then_on : {g : Graph} → Stands w₀ g → Stands w₁ g
      then_on {g} st = stands_on (steady_split (scan g (turn_on st)) (turn_on st)).front (turn_on st)

      pub turn_full : b ≡ Full → (g : Graph) → Stands w₀ g → ResolvesAll g counts w₀ r w₂ (Err TooMany)
      turn_full e g st = turned g st (select_refused (scan g (turn_on st)) (rw e at (select g (then_on st))))

      pub turn_again : b ≡ Done → Stood w₀ → TurnsPassed counts w₀ r w₂ (turns - 1)
      turn_again e stood =
          let g = stood.graph in
          record {
            steady = steady_then passed.steady (steady_then (steady_split (scan g (turn_on stood.stands)) (turn_on stood.stands))
                (steady_of (resolve_kinds (select g (then_on stood.stands)))));
            more = λ g st x. turned g st (claims_and (scan g (turn_on st)) (rw e at (select g (then_on st))) x);
          }

-- ---- A region, from its first step on.
pub begun_less : {w w₁ : List ℕ} {r : ℕ} → used ≤ length w → NotBegun w r → w₁ ≡ stored w kinds r kind_in_progress → suc (left w₁) ≤ left w
begun_less {w} {r} s b e = rw e (begins_less w r (part_length (start kinds) (size kinds) w (omega arith)) b)

pub begun_steady : {w w₁ : List ℕ} (r : ℕ) → w₁ ≡ stored w kinds r kind_in_progress → SteadyRecord w w₁
begun_steady {w} r e = rw e (steady_kind w r kind_in_progress (λ z. absurd (omega arith)))

-- What stands before the loop over region r's deferred edges, from words w to words w₃.
pub record BeforeTurns (counts w : List ℕ) (r : ℕ) (w₃ : List ℕ) : Type 0 where
  pub less : suc (left w₃) ≤ left w
  pub stood : Stood w₃
  pub refused_late : (g : Graph) → Stands w g → {w₄ : List ℕ} {y : Refusal}
      → ((g : Graph) → Stands w₃ g → ResolvesAll g counts w₃ r w₄ (Err y))
      → StructurizesRegion g counts w r w₄ (Err y)
  pub all_done : (g : Graph) → Stands w g → {w₄ : List ℕ} → ((g : Graph) → Stands w₃ g → ResolvesAll g counts w₃ r w₄ (Ok tt))
      → {w₅ : List ℕ} → w₅ ≡ made_ready w₄ r → StructurizesRegion g counts w r w₅ (Ok tt)

module _ {w w₁ : List ℕ} (r : ℕ) (begun : w₁ ≡ stored w kinds r kind_in_progress) where
  first_on : {g : Graph} → Stands w g → Stands w₁ g
  first_on st = stands_on (begun_steady r begun).front st

  pub region_refused : {counts w₂ : List ℕ} {y : Refusal} → ((g : Graph) → Stands w₁ g → TargetRegions g counts w₁ r 0 w₂ (Err y))
      → (g : Graph) → Stands w g → StructurizesRegion g counts w r w₂ (Err y)
  region_refused targets g st = refused_at_targets (rw begun at (targets g (first_on st)))

  module _ {counts w₂ : List ℕ} (targets : (g : Graph) → Stands w₁ g → TargetRegions g counts w₁ r 0 w₂ (Ok tt)) where
    its_targets : {g : Graph} → Stands w g → TargetRegions g counts (stored w kinds r kind_in_progress) r 0 w₂ (Ok tt)
    its_targets {g} st = rw begun at (targets g (first_on st))

    second_on : {g : Graph} → Stands w g → Stands w₂ g
    second_on {g} st = stands_on (steady_targets (targets g (first_on st)) (first_on st)).front (first_on st)

    module _ {w₃ : List ℕ} {b : Made} (inst : (g : Graph) → Stands w₂ g → ByControlInst g w₂ r w₃ b) where
      pub region_full : b ≡ Full → (g : Graph) → Stands w g → StructurizesRegion g counts w r w₃ (Err TooMany)
      region_full e g st = refused_at_inst (its_targets st) (rw e at (inst g (second_on st)))

      third_on : {g : Graph} → Stands w g → Stands w₃ g
      third_on {g} st = stands_on (inst_kinds (inst g (second_on st))).front (second_on st)

      after_inst : Stood w → SteadyRecord w₁ w₃
      after_inst s =
          steady_then (steady_targets (targets s.graph (first_on s.stands)) (first_on s.stands))
          (steady_of (inst_kinds (inst s.graph (second_on s.stands))))

      pub before_turns : b ≡ Done → NotBegun w r → Stood w → BeforeTurns counts w r w₃
      before_turns e new s =
          record {
            less = let x = begun_less s.room new begun in let y = (after_inst s).fewer in omega arith;
            stood = stood_on (steady_then (begun_steady r begun) (after_inst s)) s;
            refused_late = λ g st rest. refused_at_edges (its_targets st) (rw e at (inst g (second_on st))) (rest g (third_on st));
            all_done = λ g st rest z. structurized (its_targets st) (rw e at (inst g (second_on st))) (rest g (third_on st)) z;
          }

-- ---- A claim.
pub attempted_on : {w w₁ : List ℕ} → w₁ ≡ attempted w → SteadyRecord w w₁
attempted_on {w} e = rw e (steady_attempted w)

pub not_begun_yet : {w : List ℕ} {r state : ℕ} → r < 32 → state ≡ region_kind w r → state ≡ kind_not_begun → NotBegun w r
not_begun_yet below of_state new = record { below = below; kind = sym of_state ∙ new }

module _ {counts w w₁ : List ℕ} {r : ℕ} (n : ℕ) (counted : w₁ ≡ attempted w) where
  pub claim_nowhere : 32 ≤ r → (g : Graph) → Stands w g → TriesClaim g counts w r n w₁ (Err (Never r))
  claim_nowhere h g st = no_region h counted

  module _ (below : r < 32) {state : ℕ} (of_state : state ≡ region_kind w₁ r) where
    pub claim_later : (state ≡ kind_not_begun → ⊥) → {m : ℕ} → m ≡ get_or counts r 0
        → {w₂ : List ℕ} → w₂ ≡ w₁ → {w₃ : List ℕ} {a : Result Claim Refusal} → ((g : Graph) → Stands w₂ g → ClaimsByState g w₂ r n m w₃ a)
        → (g : Graph) → Stands w g → TriesClaim g counts w r n w₃ a
    claim_later d i same c g st =
        later_claim below (λ e. d (of_state ∙ rw counted e))
        (rw (i, same, counted) at (c g (rw same (stands_on (attempted_on counted).front st))))

    module _ (new : state ≡ kind_not_begun) where
      module _ {w₂ : List ℕ} {a : Result ⊤ Refusal} (inside : (g : Graph) → Stands w₁ g → StructurizesRegion g counts w₁ r w₂ a) where
        pub claim_inside : {y : Refusal} → a ≡ Err y → (g : Graph) → Stands w g → TriesClaim g counts w r n w₂ (Err y)
        claim_inside e g st = refused_inside (rw counted at (not_begun_yet below of_state new))
            (rw (e, counted) at (inside g (stands_on (attempted_on counted).front st)))

        pub claim_first : a ≡ Ok tt → {m : ℕ} → m ≡ get_or counts r 0 → {w₃ : List ℕ} → w₃ ≡ w₂ → {w₄ : List ℕ} {b : Result Claim Refusal}
            → ((g : Graph) → Stands w₃ g → ClaimsByState g w₃ r n m w₄ b) → (g : Graph) → Stands w g → TriesClaim g counts w r n w₄ b
        claim_first e i same c g st =
            let s = inside g (stands_on (attempted_on counted).front st) in
            first_claim (rw counted at (not_begun_yet below of_state new)) (rw (e, counted) at s)
            (rw (i, same) at (c g (rw same (stands_on (steady_structurized s (stands_on (attempted_on counted).front st)).front
            (stands_on (attempted_on counted).front st)))))
