-- What holds of a step's answer: P of what it gives and of the next state, or Q of the number and the word of its refusal.
use Rattle.std.specs.Prelude.{Bool, true, false, ℕ}
use Rattle.nesting.specs.Nesting.{NestState, StepAnswer, done, turned_away, Step, follow}
use Rattle.format.specs.Refusals.{too_many}

abbrev pub OfAnswer : {A : Type 0} → (ℕ → ℕ → Type 0) → (A → NestState → Type 0) → StepAnswer A → Type 0
OfAnswer Q P (done a s) = P a s
OfAnswer Q P (turned_away refusal word) = Q refusal word

pub record Post {A : Type 0} (Q : ℕ → ℕ → Type 0) (P : A → NestState → Type 0) (x : StepAnswer A) : Type 0 where
  pub post : OfAnswer Q P x

pub map_post : {A : Type 0} {Q : ℕ → ℕ → Type 0} {P P' : A → NestState → Type 0} (x : StepAnswer A) → Post Q P x
    → ((a : A) (s : NestState) → P a s → P' a s) → Post Q P' x
map_post (done a s) p q = record { post = q a s p.post }
map_post (turned_away refusal word) p q = record { post = p.post }

pub bind : {A B : Type 0} {Q : ℕ → ℕ → Type 0} {P : A → NestState → Type 0} {P' : B → NestState → Type 0} (x : StepAnswer A)
    (k : A → Step B)
    → Post Q P x → ((a : A) (s : NestState) → P a s → Post Q P' (k a s)) → Post Q P' (follow x k)
bind (done a s) k p q = q a s p.post
bind (turned_away refusal word) k p q = record { post = p.post }

-- of what is defined while there is room for it
pub when_room : {A : Type 0} {Q : ℕ → ℕ → Type 0} {P : A → NestState → Type 0} → Q 9 0 → (b : Bool) (a : A) (s : NestState) → P a s
    → Post {A = A} Q P (elim b [ true ↦ done a s | false ↦ turned_away too_many 0 ])
when_room q true a s p = record { post = p }
when_room q false a s p = record { post = q }
