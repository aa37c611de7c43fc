-- Inputs that are put all at once: what each reads as afterwards.
use Rattle.std.specs.Prelude.{List, [], ◌∷◌, ◌≡◌, refl, ◌+◌, ◌<◌, suc, zero, ℕ, eqb, get_or, length}
use Rattle.std.proofs.Common.{◌∙◌, arith}
use Rattle.meaning.specs.Graph.{Value, input, same_value}
use Rattle.meaning.specs.Runs.{Env, Word, mark, put, put_inputs}
use Rattle.meaning.specs.facts.Tests.{eqb_less, eqb_self}
use Rattle.follows.specs.simulation.Frame.{put_other, put_same}

-- v 0, v 1, .. are told apart by their numbers
abbrev pub Numbered : (ℕ → Value) → Type 0
Numbered v = (a b : ℕ) → same_value (v a) (v b) ≡ eqb a b

puts_below : (v : ℕ → Value) → Numbered v → (j k : ℕ) → j < k → (ws : List Word) (σ : Env) → put_inputs v k ws σ (v j) ≡ σ (v j)
unfolding put_inputs
puts_below v nv j k lt [] σ = refl
puts_below v nv j k lt (w ∷ ws) σ =
    puts_below v nv j (suc k) (omega arith) ws (put (v k) w σ) ∙ put_other (v k) (v j) w σ (nv j k ∙ eqb_less j k lt)

pub puts_at : (v : ℕ → Value) → Numbered v → (ws : List Word) (i j k : ℕ) → j ≡ k + i → i < length ws → (σ : Env)
    → put_inputs v k ws σ (v j) ≡ get_or ws i mark
unfolding put_inputs
puts_at v nv [] i j k e lt σ = absurd (omega arith)
puts_at v nv (w ∷ ws) zero j k e lt σ =
    let e' : j ≡ k = omega arith in
    rw e' (puts_below v nv k (suc k) (omega arith) ws (put (v k) w σ) ∙ put_same (v k) w σ (nv k k ∙ eqb_self k))
puts_at v nv (w ∷ ws) (suc i) j k e lt σ = puts_at v nv ws i j (suc k) (omega arith) (omega arith) (put (v k) w σ)

pub input_numbered : (r : ℕ) → Numbered (λ k. input r k)
input_numbered r a b = rw (eqb_self r)
