-- The loop over deferred edges never stops early: each turn but the last claims a region, so with more fuel than regions
-- unclaimed any larger fuel gives the same answer, and structurize-region's fuel is more.
use Rattle.std.specs.Prelude.{◌≡◌, length}
use Rattle.std.proofs.Math.Path.{refl, ap}
use mathlib.Core.List.{[], ◌∷◌}
use Rattle.std.proofs.Math.Option.{Option, none, some}
use Prim.Native.Nat.{ℕ, zero, suc, ◌≤◌, ◌<◌}
use Rattle.std.proofs.Common.{arith}
use Rattle.meaning.specs.Graph.{bool_cond, Graph, region, edges_of}
use Rattle.nesting.specs.Nesting.{not_begun, in_progress, ready, NestState, StepAnswer, done, turned_away, Step, follow, ◌>>=◌, ◌>>◌}
use Rattle.nesting.specs.Nesting.{set_state, condition_in, count_to, ok, err, lazy, Body, convergent_cases, blocks_of}
use Rattle.nesting.specs.Nesting.{structurize_select_into, Claim, SplitOut, by_control_inst, resolve_by, target_regions}
use Rattle.nesting.specs.Nesting.{split_out_matching, resolve_deferred, structurize_region}
use Rattle.nesting.specs.steps.Post.{Post}
use Rattle.nesting.proofs.steps.Keeps.{structurize_select_by_keeps, by_control_inst_keeps}
use Rattle.nesting.proofs.steps.StatesSteady.{states_kept_steady, states_kept_log}
use Rattle.nesting.specs.steps.RegionsLeft.{state_of, with_state, unclaimed_one, unclaimed_count, unclaimed_most, count_set}
use Rattle.nesting.specs.steps.RegionsLeft.{FewerUnclaimed}
use Rattle.nesting.specs.steps.RegionsLeft.{fewer_still, AnyRefusal, claimed_count, ClaimFewer}
use Rattle.nesting.proofs.steps.UnclaimedFalls.{target_regions_fewer, split_out_fewer}

-- Two ways to go on that agree on what the step gives.
pub follow_same : {A B : Type 0} {Q : ℕ → ℕ → Type 0} {P : A → NestState → Type 0} (x : StepAnswer A) (k k' : A → Step B) → Post Q P x
    → ((a : A) (s : NestState) → P a s → k a s ≡ k' a s)
    → follow x k ≡ follow x k'
follow_same (done a s) k k' p h = h a s p.post
follow_same (turned_away refusal word) k k' p h = refl

module _ (g : Graph) (claim : Claim) (claim_fewer : ClaimFewer claim) where
  pub resolve_same : (fuel more : ℕ) (x : Body) (s : NestState) → unclaimed_count s < fuel → fuel ≤ more
      → resolve_deferred g claim fuel x s ≡ resolve_deferred g claim more x s
  unfolding resolve_deferred
  resolve_same zero more x s h l = absurd (omega arith)
  resolve_same (suc fuel) zero x s h l = absurd (omega arith)
  resolve_same (suc fuel) (suc more) x s h l =
      follow_same (split_out_matching g claim [] x.deferred_edges s) _ _
      (split_out_fewer g claim claim_fewer [] x.deferred_edges s) λ o s₁ f.
      by o s₁ f (λ y s₂ p. resolve_same fuel more y s₂ p (omega arith))
    where
      by : (o : Option SplitOut) (s₁ : NestState) → FewerUnclaimed (claimed_count o) s s₁
          → ((y : Body) (s₂ : NestState) → unclaimed_count s₂ < fuel
          → resolve_deferred g claim fuel y s₂ ≡ resolve_deferred g claim more y s₂)
          → resolve_by g (λ y. resolve_deferred g claim fuel y) x o s₁ ≡ resolve_by g (λ y. resolve_deferred g claim more y) x o s₁
      by none s₁ f ih = refl
      by (some y) s₁ f ih =
          let cs = ok y.claimed_region ∷ err y.others ∷ [] in
          let scrutinee = lazy (condition_in x.deferred_edges y.bundle) in
          follow_same (structurize_select_into g x.children bool_cond scrutinee cs s₁) _ _
          (structurize_select_by_keeps states_kept_steady AnyRefusal tt states_kept_log g x.children bool_cond scrutinee cs
          (convergent_cases cs) s₁) λ z s₂ q.
          ih z s₂ (let a = fewer_still q in omega arith)

  -- structurize_region with another fuel for its loop
  unfoldable pub structurize_with : ℕ → ℕ → Step Unit
  unfolding target_regions resolve_deferred
  structurize_with fuel r = do
    set_state r in_progress
    cs ← target_regions g claim (edges_of (region g r).terminator)
    x ← by_control_inst g (blocks_of g r) (region g r).terminator cs
    y ← resolve_deferred g claim fuel x
    set_state r (ready (count_to r y.deferred_edges) y.children y.deferred_edges)

  pub structurize_same : (r : ℕ) (s : NestState) → r < length s.region_states → length s.region_states ≤ length g.regions
      → state_of s r ≡ not_begun
      → (fuel : ℕ) → length g.regions ≤ fuel → structurize_region g claim r s ≡ structurize_with fuel r s
  unfolding structurize_region structurize_with
  structurize_same r s in_r few new fuel l =
      let s₀ = with_state s r in_progress in
      let begun = count_set unclaimed_one s.region_states r in_progress in_r in
      let was = ap unclaimed_one new in
      let most = unclaimed_most s.region_states in
      follow_same (target_regions g claim (edges_of (region g r).terminator) s₀) _ _
      (target_regions_fewer g claim claim_fewer (edges_of (region g r).terminator) s₀) λ cs s₁ a.
      follow_same (by_control_inst g (blocks_of g r) (region g r).terminator cs s₁) _ _
      (by_control_inst_keeps states_kept_steady AnyRefusal tt states_kept_log g (blocks_of g r) (region g r).terminator cs s₁) λ x s₂ q.
      ap (λ z. follow z (λ y. set_state r (ready (count_to r y.deferred_edges) y.children y.deferred_edges)))
      (resolve_same (length g.regions) fuel x s₂ (let b = fewer_still q in omega arith) l)
