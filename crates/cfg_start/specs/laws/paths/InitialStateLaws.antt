-- The types of what is returned, stored one by one; and the five steps of initial_state, after each of which the record stands for the
-- next.
use Rattle.std.specs.Prelude.{◌≡◌, List, ℕ, ◌+◌, ◌-◌, ◌≤◌, ◌<◌, min, length, get_or}
use Rattle.std.proofs.Common.{◌∙◌, arith}
use Rattle.meaning.specs.Graph.{Graph, no_value}
use Rattle.format.specs.References.{type_in, behind_all, first_return}
use Rattle.record.specs.Stands.{OfRecord}
use Rattle.fields.specs.ByNumber.{end_values}
use Rattle.state_words.specs.Sections.{stored, filled, head, kinds, set_starts, rewrites}
use Rattle.state_sets.specs.SetTables.{slot}
use Rattle.state_words.specs.laws.Stored.{fill_start, fill_turn, fill_stop}
use Rattle.state_shown.specs.Front.{SameFront}
use Rattle.state_shown.specs.laws.FrontKept.{stands_on, front_same, front_stored, front_run, front_then}
use Rattle.state_shown.specs.laws.Fills.{fill_front}
use Rattle.cfg_start.specs.InitialState.{nothing_rewritten, nothing_begun, slots_placed, emptied, returned_type, returned_count}
use Rattle.cfg_start.specs.InitialState.{counted}
use Rattle.cfg_start.specs.InitialState.{returned, started, ReturnedLeft}
use Rattle.state_words.specs.Rows.{entries_at, regions_at, returned_at, types_at}

pub returned_start : (g : Graph) (l : List ℕ) → ReturnedLeft g 0 l l
returned_start g l = record { front = front_same l; left = fill_start head (λ k. 9 + k) (returned_type g) _ l }

module _ {q k n few : ℕ} {l₀ l : List ℕ} (first : OfRecord l₀ (λ g. q ≡ first_return g.regions))
    (count : OfRecord l₀ (λ g. n ≡ length (end_values g q))) (many : few ≡ min n 4) (left : OfRecord l₀ (λ g. ReturnedLeft g k l₀ l)) where
  -- The turns that the code takes are as many as the graph has values.
  turns : OfRecord l₀ (λ g. min (returned_count g) 4 ≡ few)
  turns g s = let e : n ≡ returned_count g = count g s ∙ rw (first g s) in omega arith

  pub returned_turn : k < few → {t : ℕ} → OfRecord l (λ g. t ≡ type_in g q (behind_all g q) (get_or (end_values g q) k no_value))
      → {l' : List ℕ} → l' ≡ stored l head (types_at + k) t → OfRecord l₀ (λ g. ReturnedLeft g (k + 1) l₀ l')
  unfolding returned_type
  returned_turn h {t} type e g s =
      let x = left g s in
      let all = turns g s in
      let f : t ≡ returned_type g k = type g (stands_on x.front s) ∙ rw (first g s) in
      record {
        front = rw e (front_then x.front (front_stored l head (omega arith) (9 + k) t));
        left = rw (e, f) (fill_turn head (λ k. 9 + k) (returned_type g) (min (returned_count g) 4) k l (omega arith) x.left);
      }

  pub returned_stop : few ≤ k → {l' : List ℕ} → l' ≡ stored l head returned_at n → OfRecord l₀ (λ g. l' ≡ returned g l₀)
  returned_stop h e g s =
      let all = turns g s in
      let f = fill_stop head (λ k. 9 + k) (returned_type g) (min (returned_count g) 4) k l (omega arith) (left g s).left in
      let c : n ≡ returned_count g = count g s ∙ rw (first g s) in
      e ∙ rw (f, c)

-- ---- One step behind the other.
pub emptied_front : (n : ℕ) (l : List ℕ) → SameFront l (emptied n l)
emptied_front n l =
    let l₁ = nothing_rewritten l in
    let l₂ = nothing_begun n l₁ in
    let l₃ = filled set_starts (λ a. a) slot n 0 l₂ in
    front_then (front_stored l rewrites (omega arith) entries_at 0)
    (front_then (fill_front kinds (λ r. r) (λ r. 0) (omega arith) n 0 l₁)
    (front_then (fill_front set_starts (λ a. a) slot (omega arith) n 0 l₂) (front_stored l₃ set_starts (omega arith) 32 (slot 32))))

pub started_by : (l : List ℕ) {n : ℕ} {l₁ l₂ l₃ l₄ l₅ : List ℕ} → OfRecord l (λ g. n ≡ length g.regions) → l₁ ≡ nothing_rewritten l
    → l₂ ≡ nothing_begun n l₁ → l₃ ≡ slots_placed n l₂ → OfRecord l₃ (λ g. l₄ ≡ counted g n l₃) → OfRecord l₄ (λ g. l₅ ≡ returned g l₄)
    → OfRecord l (λ g. l₅ ≡ started g l)
started_by l {n} {l₃ = l₃} {l₄} many a b c totals types g s =
    let e : l₃ ≡ emptied n l = rw (c, b, a) in
    let s₃ = stands_on {w' = l₃} (rw e (emptied_front n l)) s in
    let y = totals g s₃ in
    let s₄ = stands_on {w' = l₄} (rw y (front_run l₃ head (omega arith) regions_at _)) s₃ in
    types g s₄ ∙ rw (y, e, many g s)
