-- The targets of a region: each step, from what its claim shows.
use Rattle.std.specs.Prelude.{◌≡◌, true, List, ◌∷◌, length, get_or}
use Rattle.std.proofs.Common.{ap, subst, ◌∙◌, inl, inr, lt-ltb}
use Rattle.std.proofs.Math.Option.{Option}
use Prim.Native.Nat.{ℕ, zero, suc, ◌+◌, ◌≤◌, ◌<◌}
use native.Mathlib.Omega.{arith}
use Rattle.meaning.specs.Graph.{Graph, Edge, no_edge}
use Rattle.meaning.specs.Lists.{is_in}
use Rattle.format.specs.Valid.{Valid}
use Rattle.nesting.specs.Nesting.{NestState, done, ClaimedRegion, MaybeClaimedRegion, ok, deferred_of}
use Rattle.nesting.specs.Nesting.{to_region, incoming_edge_counts, try_claim_edge_bundle, target_regions, edge_case}
use Rattle.nesting.specs.Nesting.{Claim}
use Rattle.nesting.specs.steps.Post.{Post}
use Rattle.follows.specs.simulation.Defined.{IfDone}
use Rattle.follows.specs.simulation.ClaimReady.{ClaimDone}
use Rattle.follows.specs.simulation.Claims.{claim_post}
use Rattle.follows.specs.simulation.Usable.{EdgeUsable}
use Rattle.follows.specs.counting.Totals.{edge_total, edges_to}
use Rattle.follows.specs.counting.Counting.{Nine}
use Rattle.follows.proofs.counting.CountClaim.{Claims}
use Rattle.follows.proofs.counting.CountScan.{aims, CaseCounted, edge_case_counted, first_target, next_target}
use Rattle.follows.proofs.counting.CountRegion.{claim_counted}
use Rattle.state_words.specs.Sections.{word, levels, children, set_lengths, used}
use Rattle.state_words.specs.laws.Apart.{section_other}
use Rattle.state_regions.specs.RegionTables.{target_answer_stored, target_answer}
use Rattle.state_shown.specs.States.{no_case}
use Rattle.state_shown.specs.laws.RegionsKept.{claimed_stays}
use Rattle.state_shown.specs.laws.Stores.{word_there, word_apart}
use Rattle.state_shown.specs.laws.RegionSteps.{Concerns, target_answer_concerns}
use Rattle.std.specs.Prelude.{Result, ⊤}
use Rattle.store.specs.declared.refusals.Refusal.{Refusal}
use Rattle.cfg.specs.laws.shown.Shows.{AnsweredAs, CanClaim, K, NewlyClaimed, Occupied, PreservesOthers, TargetsShow, cells_in_all}
use Rattle.cfg.specs.laws.shown.Shows.{concerns_others, others_then, owed_stays, refuses_targets, shows_targets, was_claimed}
use Rattle.cfg.specs.laws.shown.Shows.{was_deferred, was_nothing, world}
use Rattle.state_words.specs.Rows.{cells_at, kind_claimed, kind_in_progress, level, level_at, region_kind}

-- ---- How a target was answered is noted in region r's own words.
pub record Noted (g : Graph) (w w' : List ℕ) (r j y : ℕ) : Type 0 where
  pub concerns : Concerns g r w w'
  pub here : target_answer w' r j ≡ y
  pub before : (k : ℕ) → k < j → target_answer w' r k ≡ target_answer w r k
  pub lengths : (q : ℕ) → word w' set_lengths q ≡ word w set_lengths q
  pub handles : (q : ℕ) → word w' children q ≡ word w children q

pub notes : (g : Graph) (w : List ℕ) (r j y : ℕ) → used ≤ length w → r < 32 → j < 8 → Noted g w (target_answer_stored w r j y) r j y
unfolding target_answer_stored target_answer
notes g w r j y room b c =
    rw (lt-ltb j 8 c)
    record {
      concerns = target_answer_concerns g w r j y (omega arith);
      here = rw (lt-ltb j 8 c) (word_there w levels (level_at r j) y (omega arith) (omega arith));
      before = λ k h. let l : k < 8 = omega arith in rw (lt-ltb k 8 l)
          (word_apart w levels (level_at r j) y levels (level_at r k) (omega arith));
      lengths = λ q. ap (λ l. get_or l q 0) (section_other w levels (level_at r j) y set_lengths (omega arith));
      handles = λ q. ap (λ l. get_or l q 0) (section_other w levels (level_at r j) y children (omega arith));
    }

pub noted_cells : {g : Graph} {w w' : List ℕ} {r : ℕ} → Concerns g r w w' → cells_in_all g w' ≡ cells_in_all g w
noted_cells {g} {w} {w'} c = let e = owed_stays g w w' (λ q h. c.same_kinds q) in let h = c.same_head cells_at in omega arith

-- A region that is occupied elsewhere is not region r.
pub claimed_other : (w : List ℕ) {r q : ℕ} → region_kind w r ≡ kind_in_progress → region_kind w q ≡ kind_claimed → q ≡ r → ⊥
claimed_other w a b e = let z = ap (λ p. region_kind w p) e in absurd (omega arith)

-- Of the case that the first target gives: a claimed region was free, and is occupied from then on; what was occupied is.
pub record FirstNew (w w₂ : List ℕ) (m : MaybeClaimedRegion) : Type 0 where
  pub free : (c : ClaimedRegion) → m ≡ ok c → Occupied w c.origin → ⊥
  pub occupied : (c : ClaimedRegion) → m ≡ ok c → Occupied w₂ c.origin
  pub on : (q : ℕ) → Occupied w q → Occupied w₂ q

-- What was answered stays so.
pub target_region_on : {g : Graph} {w w' : List ℕ} {r j : ℕ} {e : Edge} {m : MaybeClaimedRegion} → region_kind w r ≡ kind_in_progress
    → PreservesOthers g r w w' → target_answer w' r j ≡ target_answer w r j → AnsweredAs g w r j e m → AnsweredAs g w' r j e m
target_region_on {w} {w'} busy a same (was_claimed {c} p t s o i) =
    let q = c.origin in
    was_claimed p (same ∙ t)
    (claimed_stays a.made_stays (a.regions_stay q s.in_graph (claimed_other w busy s.kind) (inr s.kind))
    (a.kinds_stay q (inr s.kind)) s)
    o i
target_region_on busy a same (was_deferred p t) = was_deferred p (same ∙ t)
target_region_on busy a same (was_nothing p t) = was_nothing p (same ∙ t)

module _ (g : Graph) (valid : Valid g) (fuel : ℕ) where
  abbrev claim : Claim
  claim = try_claim_edge_bundle g (incoming_edge_counts g) fuel

  -- The claim of the first of some targets, and of the others after it.
  pub can_first : (e : Edge) (es : List Edge) (H : ℕ → ℕ) {s : NestState} → CanClaim g valid fuel H (aims (K g valid) (e ∷ es))
      (length (e ∷ es)) s
      → CanClaim g valid fuel (λ q. aims (K g valid) es q + H q) (λ q. edges_to q (to_region e.target) 1) 1 s
  can_first e es H c = record { pre = first_target (K g valid) e es H c.pre; inv = c.inv; few = let z = c.few in omega arith }

  pub can_next : (r : ℕ) (e : Edge) (es : List Edge) (H : ℕ → ℕ) {s s₁ : NestState} {o : Option ClaimedRegion} (c : MaybeClaimedRegion)
      → EdgeUsable g r e → is_in e.target (K g valid).live ≡ true
      → CanClaim g valid fuel H (aims (K g valid) (e ∷ es)) (length (e ∷ es)) s → claim e.target 1 e.inputs s ≡ done o s₁
      → edge_case e o s₁ ≡ done c s₁
      → CanClaim g valid fuel (λ q. edge_total (edges_to q) (deferred_of c) + H q) (aims (K g valid) es) (length es) s₁
  can_next r e es H {s} {s₁} {o} c fit live can p q =
      let x : Claims (K g valid) 1 e.target 1 s o s₁ =
      (subst (λ a. Post Nine (λ o s'. Claims (K g valid) 1 e.target 1 s o s') a) p
      (claim_counted (K g valid) fuel e.target 1 e.inputs (λ q. aims (K g valid) es q + H q) s live (omega arith)
      (can_first e es H can).pre)).post in
      let y : CaseCounted (K g valid) e.target o s₁ c s₁ =
      (subst (λ a. Post Nine (λ c s'. CaseCounted (K g valid) e.target o s₁ c s') a) q
      (edge_case_counted (K g valid) e o s₁ live x.good)).post in
      let next = next_target (K g valid) e es H can.pre x y in
      let d : ClaimDone (world g valid) e.target e.inputs s o s₁ =
      (subst (λ a. IfDone (ClaimDone (world g valid) e.target e.inputs s) a) p
      (claim_post (world g valid) (incoming_edge_counts g) fuel e.target 1 e.inputs s can.inv fit.target live)).post in
      record {
        pre = next.pre;
        inv = d.inv;
        few = let z = can.few in let u = next.beside.paid in omega arith;
      }

  module _ (w : List ℕ) {w₁ w₂ : List ℕ} {r j y : ℕ} (few : length g.regions ≤ 32)
      (busy : region_kind w r ≡ kind_in_progress) (noted : Noted g w₁ w₂ r j y) (preserves_others : PreservesOthers g r w w₁)
      (levels_same : (k : ℕ) → k < 8 → level w₁ r k ≡ level w r k) where
    busy₁ : region_kind w₁ r ≡ kind_in_progress
    busy₁ = preserves_others.kinds_stay r (inl busy) ∙ busy

    busy₂ : region_kind w₂ r ≡ kind_in_progress
    busy₂ = noted.concerns.same_kinds r ∙ busy₁

    kept_before : (k : ℕ) → k < j → j < 8 → target_answer w₂ r k ≡ target_answer w r k
    unfolding target_answer
    kept_before k h b = noted.before k h ∙ (let l : k < 8 = omega arith in rw (lt-ltb k 8 l) (levels_same k (omega arith)))

    -- The others, put behind the first.
    pub targets_more : {w' : List ℕ} (e : Edge) (es : List Edge) (s s₁ : NestState) → j < 8 → (o : Option ClaimedRegion)
        (c : MaybeClaimedRegion) → claim e.target 1 e.inputs s ≡ done o s₁
        → edge_case e o s₁ ≡ done c s₁ → AnsweredAs g w₂ r j e c → FirstNew w w₂ c → cells_in_all g w₁ ≤ cells_in_all g w → {a : Result ⊤ Refusal}
        → TargetsShow g w₂ w' r (suc j) es (target_regions g claim es s₁) a
        → TargetsShow g w w' r j (e ∷ es) (target_regions g claim (e ∷ es) s) a
    unfolding target_regions
    targets_more {w'} e es s s₁ b o c p q t first cells (shows_targets {cs} {s'} f st n each new ar same few_cells) =
        let whole : PreservesOthers g r w w' = others_then preserves_others (others_then (concerns_others few noted.concerns) ar) in
        shows_targets {cs = c ∷ cs} {s' = s'} (rw (p, q, f)) st (ap suc n) answered newly whole
        (λ k h. same k (omega arith) ∙ kept_before k h b)
        (let z = noted_cells noted.concerns in omega arith)
      where
        answered : (k : ℕ) → k < suc (length es) → AnsweredAs g w' r (j + k) (get_or (e ∷ es) k no_edge) (get_or (c ∷ cs) k no_case)
        answered zero h = let z : j + 0 ≡ j = omega arith in rw z (target_region_on busy₂ ar (same j (omega arith)) t)
        answered (suc k) h = let z : j + suc k ≡ suc j + k = omega arith in rw z (each k (omega arith))

        free : (k : ℕ) (d : ClaimedRegion) → get_or (c ∷ cs) k no_case ≡ ok d → Occupied w d.origin → ⊥
        free zero d e h = first.free d e h
        free (suc k) d e h = new.free k d e (first.on d.origin h)

        apart : (i j : ℕ) (x y : ClaimedRegion) → i < j → get_or (c ∷ cs) i no_case ≡ ok x → get_or (c ∷ cs) j no_case ≡ ok y
            → x.origin ≡ y.origin → ⊥
        apart zero zero x y l e f same = absurd (omega arith)
        apart zero (suc j) x y l e f same = new.free j y f (subst (λ q. Occupied w₂ q) same (first.occupied x e))
        apart (suc i) zero x y l e f same = absurd (omega arith)
        apart (suc i) (suc j) x y l e f same = new.apart i j x y (omega arith) e f same

        newly : NewlyClaimed w (c ∷ cs)
        newly = record { free = free; apart = apart }
    targets_more e es s s₁ b o c p q t first cells (refuses_targets {y} f) = refuses_targets {y = y} (rw (p, q, f))
