-- What a loop's run rests on: its inputs change all at once, and its test comes after the body.
use Rattle.std.specs.Prelude.{◌≡◌, refl, true, false, List, [], ◌∷◌, map, ℕ, zero, suc, ◌+◌, ◌<◌, length, get_or, eqb, leb}
use Rattle.std.proofs.Common.{◌∙◌, arith, eq-eqb, ne_eqb}
use Rattle.std.proofs.lemmas.List.{length-map}
use Rattle.std.proofs.Math.ListN.{get_or-map}
use Rattle.meaning.specs.Graph.{Value, input, undef}
use Rattle.meaning.specs.Runs.{LoopNode, Word, word, Env, Rule, RunState, put, put_inputs, Ran, through, note_over, pay}
use Rattle.meaning.specs.Runs.{assign_inputs, leave_loop, turns}

put_earlier : (r k i : ℕ) (ws : List Word) (σ : Env) → k < i → put_inputs (λ k. input r k) i ws σ (input r k) ≡ σ (input r k)
unfolding put_inputs put
put_earlier r k i [] σ l = refl
put_earlier r k i (w ∷ ws) σ l =
    let other : eqb k i ≡ false = ne_eqb k i (λ e. omega arith) in
    let same : eqb r r ≡ true = eq-eqb r r refl in
    put_earlier r k (suc i) ws (put (input r i) w σ) (omega arith) ∙ rw (same, other)

put_read : (r i k : ℕ) (ws : List Word) (σ : Env) (d : Word) → k < length ws
    → put_inputs (λ k. input r k) i ws σ (input r (i + k)) ≡ get_or ws k d
unfolding put_inputs put
put_read r i k [] σ d l = absurd (omega arith)
put_read r i zero (w ∷ ws) σ d l =
    let z : i + 0 ≡ i = omega arith in
    rw (z, put_earlier r i (suc i) ws (put (input r i) w σ) (omega arith), eq-eqb r r refl, eq-eqb i i refl)
put_read r i (suc k) (w ∷ ws) σ d l =
    let z : i + suc k ≡ suc i + k = omega arith in
    rw z (put_read r (suc i) k ws (put (input r i) w σ) d (omega arith))

-- Each body input becomes what its value was before any of them changed.
pub inputs_at_once : (r : ℕ) (vs : List Value) (s : RunState) (k : ℕ) → k < length vs
    → (assign_inputs r vs s).env (input r k) ≡ s.env (get_or vs k (undef 0))
inputs_at_once r vs s k l =
    let z : 0 + k ≡ k = omega arith in
    let long = length-map vs s.env in
    (rw z at (put_read r 0 k (map s.env vs) s.env (s.env (undef 0)) (omega arith))) ∙ get_or-map s.env vs k (undef 0)

module _ (rule : Rule) (test_cost n made : ℕ) (x : LoopNode) (run : RunState → Ran) (s t : RunState)
    (comes : run (note_over (leb x.limit made) s) ≡ through t) where
  -- The test reads the state that the body left: 0 ends the loop there.
  pub last_turn : t.env x.repeat ≡ word 0
      → turns rule test_cost (suc n) made x run s ≡ through (leave_loop x.outputs (pay test_cost t))
  unfolding turns
  last_turn e = rw (comes, e)

  -- Any other word is once more, with the body's outputs for inputs.
  pub next_turn : (w : ℕ) → t.env x.repeat ≡ word (suc w)
      → turns rule test_cost (suc n) made x run s
      ≡ turns rule test_cost n (suc made) x run (assign_inputs x.body x.outputs (pay test_cost t))
  unfolding turns
  next_turn w e = rw (comes, e)
