-- The number of regions not begun falls with each region that is structurized, and never grows; and the record goes on standing.
use Rattle.std.specs.Prelude.{◌≡◌, refl, List, ℕ, zero, suc, ◌+◌, ◌≤◌, ◌<◌, length, get_or, set, eqb}
use Rattle.std.proofs.Common.{ap, ◌∙◌, arith, get_or-set_same, get_or-set_other, lt-ltb, le-ltb, ne_eqb}
use Rattle.std.proofs.Math.Decide.{ℕ_discrete, dec_lt}
use Rattle.std.proofs.Math.Seq.{set_out}
use Rattle.meaning.specs.Graph.{Graph}
use Rattle.meaning.specs.Lists.{pick}
use Rattle.record.specs.Stands.{Stands}
use Rattle.state_words.specs.Sections.{section, word, stored, kinds, bodies, backedges, children, set_lengths, levels, head}
use Rattle.state_words.specs.laws.Apart.{section_stored}
use Rattle.state_words.specs.Totals.{attempted}
use Rattle.state_regions.specs.RegionTables.{target_answer_stored}
use Rattle.state_shown.specs.Front.{SameFront, SameKinds}
use Rattle.state_shown.specs.laws.FrontKept.{front_same, front_then, front_stored, stands_on, kinds_same, kinds_stored, kinds_then}
use Rattle.state_shown.specs.laws.FrontKept.{adds_kinds, defines_kinds}
use Rattle.cfg_regions.specs.laws.Leaves.{cases_kinds, split_kinds, return_kinds, appends_kinds, into_kinds, loops_kinds}
use Rattle.state_words.specs.Totals.{Made}
use Rattle.std.specs.Prelude.{Result, ⊤}
use Rattle.cfg_regions.specs.declared.claim.Claim.{Claim}
use Rattle.store.specs.declared.refusals.Refusal.{Refusal}
use Rattle.cfg_claims.specs.SplitOut.{SplitOut}
use Rattle.cfg_regions.specs.ByState.{ClaimsBody, no_backedges, none_found, by_loop, ClaimsByState, ready_claimed, ready_waits}
use Rattle.cfg_regions.specs.ByState.{not_ready, as_claimed}
use Rattle.cfg_regions.specs.ByInst.{AddsExit, exit_full, exit_added, branches, Selects, selects}
use Rattle.cfg_regions.specs.ByInst.{ByTerminator, at_unreachable, at_return, at_exit, at_branch, at_bool, at_number, ByControlInst}
use Rattle.cfg_regions.specs.ByInst.{by_inst}
use Rattle.cfg_regions.specs.ByInst.{ResolvesBy, resolves, made_ready, backedges_deferred}
use Rattle.cfg_regions.specs.laws.ByInstLaws.{blocks_kinds}
use Rattle.cfg_claims.specs.Claims.{NotBegun, TriesClaim, no_region, refused_inside, first_claim, later_claim, StructurizesRegion}
use Rattle.cfg_claims.specs.Claims.{refused_at_targets, refused_at_inst, refused_at_edges, structurized, TargetRegions, no_target}
use Rattle.cfg_claims.specs.Claims.{target_refused, target_claimed, target_waits, Scans, no_bundle_left, passes_return}
use Rattle.cfg_claims.specs.Claims.{passes_waiting}
use Rattle.cfg_claims.specs.Claims.{claims_bundle, scan_refused, SplitsOut, splits_out, Resolves, no_turn, nothing_claimed}
use Rattle.cfg_claims.specs.Claims.{claim_refused}
use Rattle.cfg_claims.specs.Claims.{select_refused, claims_and, ResolvesAll, resolves_all}
use Rattle.state_words.specs.Rows.{attempts_at, kind_claimed, kind_in_progress, largest, level_at, kind_not_begun}

-- ---- How many of the first n are 0.
abbrev left_below : ℕ → List ℕ → ℕ
left_below zero l = 0
left_below (suc n) l = pick (eqb (get_or l n 0) kind_not_begun) 1 0 + left_below n l

module _ (l : List ℕ) (r x : ℕ) (not_zero : x ≡ kind_not_begun → ⊥) where
  beyond_same : (n : ℕ) → n ≤ r → left_below n (set l r x) ≡ left_below n l
  beyond_same zero h = refl
  beyond_same (suc n) h =
      let e = get_or-set_other l r n x 0 (omega arith) in rw (e, beyond_same n (omega arith))

  set_more : (n : ℕ) → left_below n (set l r x) ≤ left_below n l
  set_more zero = omega arith
  set_more (suc n) = elim (ℕ_discrete n r) [
    | yes e ↦ elim (dec_lt r (length l)) [
      | yes h ↦ (
          let z : get_or (set l r x) n 0 ≡ x = ap (λ k. get_or (set l r x) k 0) e ∙ get_or-set_same l r x 0 h in
          let y = set_more n in rw (z, ne_eqb x kind_not_begun not_zero) (omega arith))
      | no h ↦ (let z = set_out l r x (omega arith) in rw z (omega arith))
    ]
    | no d ↦ (let z = get_or-set_other l r n x 0 d in let y = set_more n in rw z (omega arith))
  ]

  set_less : r < length l → get_or l r 0 ≡ kind_not_begun → (n : ℕ) → r < n → suc (left_below n (set l r x)) ≤ left_below n l
  set_less h o zero b = absurd (omega arith)
  set_less h o (suc n) b = elim (ℕ_discrete n r) [
    | yes e ↦ (
        let z : get_or (set l r x) n 0 ≡ x = ap (λ k. get_or (set l r x) k 0) e ∙ get_or-set_same l r x 0 h in
        let p : get_or l n 0 ≡ kind_not_begun = ap (λ k. get_or l k 0) e ∙ o in
        let y = beyond_same n (omega arith) in rw (z, ne_eqb x kind_not_begun not_zero, p, y) (omega arith))
    | no d ↦ (let z = get_or-set_other l r n x 0 d in let y = set_less h o n (omega arith) in rw z (omega arith))
  ]

-- Regions not begun.
unfoldable pub left : List ℕ → ℕ
left w = left_below 32 (section w kinds)

-- ---- The record stands on, and no region more is not begun.
pub record SteadyRecord (w w' : List ℕ) : Type 0 where
  pub front : SameFront w w'
  pub fewer : left w' ≤ left w

pub steady_same : (w : List ℕ) → SteadyRecord w w
steady_same w = record { front = front_same w; fewer = omega arith }

pub steady_then : {w w₁ w₂ : List ℕ} → SteadyRecord w w₁ → SteadyRecord w₁ w₂ → SteadyRecord w w₂
steady_then a b = let x = a.fewer in let y = b.fewer in record { front = front_then a.front b.front; fewer = omega arith }

pub steady_of : {w w' : List ℕ} → SameKinds w w' → SteadyRecord w w'
unfolding left
steady_of s = record { front = s.front; fewer = rw s.kinds_words (omega arith) }

pub steady_kind : (w : List ℕ) (r x : ℕ) → (x ≡ kind_not_begun → ⊥) → SteadyRecord w (stored w kinds r x)
unfolding left
steady_kind w r x d =
    record {
      front = front_stored w kinds (omega arith) r x;
      fewer = rw (section_stored w kinds r x) (set_more (section w kinds) r x d 32);
    }

-- A region that begins is one less, where the section is whole.
pub begins_less : (w : List ℕ) (r : ℕ) → length (section w kinds) ≡ 32 → NotBegun w r
    → suc (left (stored w kinds r kind_in_progress)) ≤ left w
unfolding left
begins_less w r n b =
    rw (section_stored w kinds r kind_in_progress)
    (set_less (section w kinds) r 1 (λ e. absurd (omega arith)) (let z = b.below in omega arith)
    b.kind 32 b.below)

pub steady_attempted : (w : List ℕ) → SteadyRecord w (attempted w)
unfolding attempted
steady_attempted w = elim (dec_lt (word w head attempts_at) largest) [
  | yes h ↦ rw (lt-ltb (word w head attempts_at) largest h)
      (steady_of (kinds_stored w head (omega arith) attempts_at (word w head attempts_at + 1)))
  | no h ↦ rw (le-ltb (word w head attempts_at) largest (omega arith)) (steady_same w)
]

pub steady_answer : (w : List ℕ) (r j x : ℕ) → SteadyRecord w (target_answer_stored w r j x)
unfolding target_answer_stored
steady_answer w r j x = elim (dec_lt j 8) [
  | yes h ↦ rw (lt-ltb j 8 h) (steady_of (kinds_stored w levels (omega arith) (level_at r j) x))
  | no h ↦ rw (le-ltb j 8 (omega arith)) (steady_same w)
]

-- ---- The steps.
steady_claimed : (w : List ℕ) (r : ℕ) → SteadyRecord w (as_claimed w r)
steady_claimed w r = steady_then (steady_kind w r kind_claimed (λ e. absurd (omega arith)))
    (steady_of (kinds_stored (stored w kinds r kind_claimed) bodies (omega arith) r r))

steady_body : {g : Graph} {w w' : List ℕ} {r : ℕ} {a : Result Claim Refusal} → Stands w g → ClaimsBody g w r w' a → SteadyRecord w w'
steady_body {w} {r} st (no_backedges z e) = rw e (steady_claimed w r)
steady_body {w} {r} st (none_found z y e) = rw e (steady_claimed w r)
steady_body {w} {r} st (by_loop z y x e) =
    steady_then (steady_claimed w r) (steady_of (loops_kinds (stands_on (steady_claimed w r).front st) x))

steady_state : {g : Graph} {w w' : List ℕ} {r n m : ℕ} {a : Result Claim Refusal} → Stands w g → ClaimsByState g w r n m w' a → SteadyRecord w w'
steady_state st (ready_claimed e s b) = steady_body st b
steady_state {w} st (ready_waits e d s) = rw s (steady_same w)
steady_state {w} st (not_ready d s) = rw s (steady_same w)

exit_kinds : {w w' : List ℕ} {r : ℕ} {a : Made} → AddsExit w r w' a → SameKinds w w'
exit_kinds (exit_full d) = defines_kinds d
exit_kinds {r} (exit_added {w₂} {h} d x e) =
    rw e (kinds_then (defines_kinds d) (kinds_then (adds_kinds x) (kinds_stored w₂ children (omega arith) r h)))

selects_kinds : {g : Graph} {w w' : List ℕ} {r shape : ℕ} {a : Made} → Selects g w r shape w' a → SameKinds w w'
selects_kinds {g} {w} {r} (selects v e s) = kinds_then (cases_kinds g w r) (into_kinds s)

terminator_kinds : {g : Graph} {w w' : List ℕ} {r : ℕ} {a : Made} → ByTerminator g w r w' a → SameKinds w w'
terminator_kinds {w} (at_unreachable e s) = rw s (kinds_same w)
terminator_kinds {g} {w} {r} (at_return e s) = rw s (return_kinds g w r)
terminator_kinds (at_exit e x) = exit_kinds x
terminator_kinds {g} {w} {r} (at_branch e (branches x)) = kinds_then (cases_kinds g w r) (appends_kinds x)
terminator_kinds (at_bool e x) = selects_kinds x
terminator_kinds (at_number e x) = selects_kinds x

pub inst_kinds : {g : Graph} {w w' : List ℕ} {r : ℕ} {a : Made} → ByControlInst g w r w' a → SameKinds w w'
inst_kinds {r} (by_inst {w₁} b e t) =
    kinds_then (blocks_kinds b) (kinds_then (rw e (kinds_stored w₁ set_lengths (omega arith) r 0)) (terminator_kinds t))

pub resolve_kinds : {g : Graph} {w w' : List ℕ} {r i : ℕ} {a : Made} → ResolvesBy g w r i w' a → SameKinds w w'
resolve_kinds {g} {w} {r} {i} (resolves s) = kinds_then (split_kinds g w r i) (into_kinds s)

pub steady_ready : (w : List ℕ) (r : ℕ) → SteadyRecord w (made_ready w r)
steady_ready w r =
    let n = backedges_deferred w r in
    steady_then (steady_of (kinds_stored w backedges (omega arith) r n))
    (steady_kind (stored w backedges r n) r 2 (λ e. absurd (omega arith)))

-- ---- The cycle.
module _ {g : Graph} {counts : List ℕ} where
  mutual
    pub steady_claim : {w w' : List ℕ} {r n : ℕ} {a : Result Claim Refusal} → TriesClaim g counts w r n w' a → Stands w g → SteadyRecord w w'
    steady_claim {w} (no_region h e) st = rw e (steady_attempted w)
    steady_claim {w} (refused_inside b s) st =
        steady_then (steady_attempted w) (steady_structurized s (stands_on (steady_attempted w).front st))
    steady_claim {w} (first_claim b s c) st =
        let x = steady_then (steady_attempted w) (steady_structurized s (stands_on (steady_attempted w).front st)) in
        steady_then x (steady_state (stands_on x.front st) c)
    steady_claim {w} (later_claim h d c) st = steady_then (steady_attempted w) (steady_state (stands_on (steady_attempted w).front st) c)

    pub steady_structurized : {w w' : List ℕ} {r : ℕ} {a : Result ⊤ Refusal} → StructurizesRegion g counts w r w' a → Stands w g → SteadyRecord w w'
    steady_structurized {w} {r} (refused_at_targets t) st =
        let x = steady_kind w r kind_in_progress (λ e. absurd (omega arith)) in steady_then x (steady_targets t (stands_on x.front st))
    steady_structurized {w} {r} (refused_at_inst t i) st =
        let x = steady_kind w r kind_in_progress (λ e. absurd (omega arith)) in
        steady_then x (steady_then (steady_targets t (stands_on x.front st)) (steady_of (inst_kinds i)))
    steady_structurized {w} {r} (refused_at_edges t i d) st =
        let x = steady_kind w r kind_in_progress (λ e. absurd (omega arith)) in
        let y = steady_then x (steady_then (steady_targets t (stands_on x.front st)) (steady_of (inst_kinds i))) in
        steady_then y (steady_all d (stands_on y.front st))
    steady_structurized {w} {r} (structurized {w₃} t i d e) st =
        let x = steady_kind w r kind_in_progress (λ e. absurd (omega arith)) in
        let y = steady_then x (steady_then (steady_targets t (stands_on x.front st)) (steady_of (inst_kinds i))) in
        steady_then (steady_then y (steady_all d (stands_on y.front st))) (rw e (steady_ready w₃ r))

    pub steady_targets : {w w' : List ℕ} {r j : ℕ} {a : Result ⊤ Refusal} → TargetRegions g counts w r j w' a → Stands w g → SteadyRecord w w'
    steady_targets {w} (no_target h e) st = rw e (steady_same w)
    steady_targets (target_refused h c) st = steady_claim c st
    steady_targets {r} {j} (target_claimed {w₁} h c t) st =
        let x = steady_then (steady_claim c st) (steady_answer w₁ r j 2) in steady_then x (steady_targets t (stands_on x.front st))
    steady_targets {r} {j} (target_waits {w₁} h c t) st =
        let x = steady_then (steady_claim c st) (steady_answer w₁ r j _) in steady_then x (steady_targets t (stands_on x.front st))

    pub steady_scan : {w w' : List ℕ} {r n i : ℕ} {a : SplitOut} → Scans g counts w r n i w' a → Stands w g → SteadyRecord w w'
    steady_scan {w} (no_bundle_left h e) st = rw e (steady_same w)
    steady_scan (passes_return h e s) st = steady_scan s st
    steady_scan (passes_waiting h d c s) st = let x = steady_claim c st in steady_then x (steady_scan s (stands_on x.front st))
    steady_scan (claims_bundle h d c) st = steady_claim c st
    steady_scan (scan_refused h d c) st = steady_claim c st

    pub steady_split : {w w' : List ℕ} {r : ℕ} {a : SplitOut} → SplitsOut g counts w r w' a → Stands w g → SteadyRecord w w'
    steady_split (splits_out s) st = steady_scan s st

    pub steady_resolves : {w w' : List ℕ} {r n : ℕ} {a : Result ⊤ Refusal} → Resolves g counts w r n w' a → Stands w g → SteadyRecord w w'
    steady_resolves {w} (no_turn e) st = rw e (steady_same w)
    steady_resolves (nothing_claimed s) st = steady_split s st
    steady_resolves (claim_refused s) st = steady_split s st
    steady_resolves (select_refused s b) st = steady_then (steady_split s st) (steady_of (resolve_kinds b))
    steady_resolves (claims_and s b t) st =
        let x = steady_then (steady_split s st) (steady_of (resolve_kinds b)) in steady_then x (steady_resolves t (stands_on x.front st))

    pub steady_all : {w w' : List ℕ} {r : ℕ} {a : Result ⊤ Refusal} → ResolvesAll g counts w r w' a → Stands w g → SteadyRecord w w'
    steady_all (resolves_all t) st = steady_resolves t st
