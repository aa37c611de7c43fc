-- A look_up's chain step by step: once it has ended, any further fuel gives the same answer.
use Rattle.std.specs.Prelude.{◌≡◌, Bool}
use Rattle.std.proofs.Math.Path.{refl, sym}
use Rattle.std.proofs.Common.{◌∙◌, arith}
use Rattle.std.proofs.Math.Bool.{false}
use mathlib.Core.List.{List, [], ◌∷◌}
use Rattle.std.proofs.Math.Option.{Option, none, some}
use Prim.Native.Nat.{ℕ, zero, suc, ◌+◌, ◌-◌, ◌≤◌, ◌<◌}
use Rattle.std.proofs.Math.ListN.{get_or}
use Rattle.meaning.specs.Graph.{Value, const, input, instr, output, bool, undef, held, no_value}
use Rattle.nesting.specs.Nesting.{InputRewrite, renumber_to, replace_by, RegionInputRewrites, replace_with, renumber_or_replace_with}
use Rattle.nesting.specs.Nesting.{RewriteEntry, rewrites_of, look_up_input, chain_fuel, look_up_chain, changes_again, look_up}
use Rattle.nesting.specs.lookups.Rewriting.{rewrite}

-- ---- a chain step by step
-- what comes of an input by its region's entry; `go` goes on from a value that replaces it
abbrev pub step_input : (Value → Value) → ℕ → InputRewrite → Value
step_input go r (replace_by v) = go v
step_input go r (renumber_to i) = held r i

abbrev pub step_chain : (Value → Value) → ℕ → ℕ → Option RegionInputRewrites → Value
step_chain go r k none = input r k
step_chain go r k (some (replace_with vs)) = go (get_or vs k (undef 0))
step_chain go r k (some (renumber_or_replace_with xs)) = step_input go r (get_or xs k (renumber_to k))

abbrev pub next_value : List RewriteEntry → Value → Value
next_value es (input r k) = step_chain (λ v. v) r k (rewrites_of es r)
next_value es (const i) = const i
next_value es (held r k) = held r k
next_value es (instr r k) = instr r k
next_value es (output o) = output o
next_value es (bool b) = bool b
next_value es (undef ty) = undef ty
next_value es no_value = no_value

abbrev pub after_steps : ℕ → List RewriteEntry → Value → Value
after_steps zero es v = v
after_steps (suc n) es v = after_steps n es (next_value es v)

module _ (es : List RewriteEntry) where
  abbrev pub Stops : Value → Type 0
  Stops v = next_value es v ≡ v

  pub stops_after : (n : ℕ) (v : Value) → Stops v → after_steps n es v ≡ v
  stops_after zero v h = refl
  stops_after (suc n) v h = rw h (stops_after n v h)

  after_sum : (n m : ℕ) (v : Value) → after_steps (n + m) es v ≡ after_steps m es (after_steps n es v)
  after_sum zero m v = let z : 0 + m ≡ m = omega arith in rw z
  after_sum (suc n) m v = let z : suc n + m ≡ suc (n + m) = omega arith in rw z (after_sum n m (next_value es v))

  -- The chain of v ends within n steps.
  pub record EndsIn (n : ℕ) (v : Value) : Type 0 where
    pub ends : Stops (after_steps n es v)

  after_more : (n m : ℕ) (v : Value) → EndsIn n v → n ≤ m → after_steps m es v ≡ after_steps n es v
  after_more n m v h l = go (m - n) (omega arith)
    where
      go : (k : ℕ) → m ≡ n + k → after_steps m es v ≡ after_steps n es v
      go k e = rw e (after_sum n k v ∙ stops_after k (after_steps n es v) h.ends)

  -- ---- that is what a look_up does
  pub chain_steps : (fuel : ℕ) (v : Value) → (look_up_chain fuel es v).value ≡ after_steps fuel es v
  unfolding look_up_chain
  chain_steps zero v = refl
  chain_steps (suc fuel) (const i) = sym (stops_after fuel (const i) refl)
  chain_steps (suc fuel) (held r k) = sym (stops_after fuel (held r k) refl)
  chain_steps (suc fuel) (instr r k) = sym (stops_after fuel (instr r k) refl)
  chain_steps (suc fuel) (output o) = sym (stops_after fuel (output o) refl)
  chain_steps (suc fuel) (bool b) = sym (stops_after fuel (bool b) refl)
  chain_steps (suc fuel) (undef ty) = sym (stops_after fuel (undef ty) refl)
  chain_steps (suc fuel) no_value = sym (stops_after fuel no_value refl)
  chain_steps (suc fuel) (input r k) = go (rewrites_of es r) refl (λ v. chain_steps fuel v)
    where
      Before : Type 0
      Before = (v : Value) → (look_up_chain fuel es v).value ≡ after_steps fuel es v

      slot : (x : InputRewrite) → Before → (look_up_input (λ v. look_up_chain fuel es v) r 0
          (some (renumber_or_replace_with (x ∷ [])))).value ≡ after_steps fuel es (step_input (λ v. v) r x)
      slot (replace_by v) ih = ih v
      slot (renumber_to i) ih = sym (stops_after fuel (held r i) refl)

      go : (o : Option RegionInputRewrites) → rewrites_of es r ≡ o → Before
          → (look_up_input (λ v. look_up_chain fuel es v) r k o).value ≡ after_steps fuel es (step_chain (λ v. v) r k o)
      go none p ih = sym (stops_after fuel (input r k) (rw p))
      go (some (replace_with vs)) p ih = ih (get_or vs k (undef 0))
      go (some (renumber_or_replace_with xs)) p ih = slot (get_or xs k (renumber_to k)) ih

  pub ends_later : (n m : ℕ) (v : Value) → EndsIn n v → n ≤ m → EndsIn m v
  ends_later n m v e l = record { ends = let z = after_more n m v e l in rw z e.ends }

  -- A value that stops is its own look_up.
  pub stops_rewrite : (v : Value) → Stops v → rewrite es v ≡ v
  unfolding look_up
  stops_rewrite v h = chain_steps (chain_fuel es) v ∙ stops_after (chain_fuel es) v h

  -- From its end on a chain has one answer.
  pub chain_same : (n m : ℕ) (v : Value) → EndsIn n v → EndsIn m v → (look_up_chain n es v).value ≡ (look_up_chain m es v).value
  chain_same n m v a b =
      let all = after_more n (n + m) v a (omega arith) in
      let both = after_more m (n + m) v b (omega arith) in
      chain_steps n v ∙ sym all ∙ both ∙ sym (chain_steps m v)

  -- ---- the note `twice` goes along the same chain
  data MeetsStep (v : Value) : Type 0 where
    goes_on : ((fuel : ℕ) → (look_up_chain (suc fuel) es v).twice ≡ (look_up_chain fuel es (next_value es v)).twice) → MeetsStep v
    known : (b : Bool) → ((fuel : ℕ) → (look_up_chain (suc fuel) es v).twice ≡ b) → MeetsStep v

  meets_step : (v : Value) → MeetsStep v
  unfolding look_up_chain
  meets_step (const i) = known false (λ fuel. refl)
  meets_step (held r k) = known (changes_again k (rewrites_of es r)) (λ fuel. refl)
  meets_step (instr r k) = known false (λ fuel. refl)
  meets_step (output o) = known false (λ fuel. refl)
  meets_step (bool b) = known false (λ fuel. refl)
  meets_step (undef ty) = known false (λ fuel. refl)
  meets_step no_value = known false (λ fuel. refl)
  meets_step (input r k) = go (rewrites_of es r) refl
    where
      slot : (xs : List InputRewrite) → rewrites_of es r ≡ some (renumber_or_replace_with xs) → (x : InputRewrite)
          → get_or xs k (renumber_to k) ≡ x → MeetsStep (input r k)
      slot xs p (replace_by v) q = goes_on (λ fuel. rw (p, look_up_input, q))
      slot xs p (renumber_to i) q = known false (λ fuel. rw (p, look_up_input, q))

      go : (o : Option RegionInputRewrites) → rewrites_of es r ≡ o → MeetsStep (input r k)
      go none p = known false (λ fuel. rw p)
      go (some (replace_with vs)) p = goes_on (λ fuel. rw p)
      go (some (renumber_or_replace_with xs)) p = slot xs p (get_or xs k (renumber_to k)) refl

  stopped_meets : (v : Value) → Stops v
      → ((fuel : ℕ) → (look_up_chain (suc fuel) es v).twice ≡ (look_up_chain fuel es (next_value es v)).twice) → (fuel : ℕ)
      → (look_up_chain fuel es v).twice ≡ false
  unfolding look_up_chain
  stopped_meets v h go zero = refl
  stopped_meets v h go (suc fuel) = go fuel ∙ rw h (stopped_meets v h go fuel)

  pub meets_same : (d : ℕ) (v : Value) → EndsIn d v → (n m : ℕ) → d < n → d < m → (look_up_chain n es v).twice ≡ (look_up_chain m es v).twice
  meets_same d v e zero m a b = absurd (omega arith)
  meets_same d v e (suc n) zero a b = absurd (omega arith)
  meets_same zero v e (suc n) (suc m) a b = elim (meets_step v) [
    | goes_on go ↦ stopped_meets v e.ends go (suc n) ∙ sym (stopped_meets v e.ends go (suc m))
    | known x h ↦ h n ∙ sym (h m)
  ]
  meets_same (suc d) v e (suc n) (suc m) a b = elim (meets_step v) [
    | goes_on go ↦ go n ∙ meets_same d (next_value es v) (record { ends = e.ends }) n m (omega arith) (omega arith) ∙ sym (go m)
    | known x h ↦ h n ∙ sym (h m)
  ]
