-- For the proofs of claim.rt: the test that the code took is the one that ByState decides by. The code's sum of edges is held at 32 bits;
-- that it is never held back is shown here.
use Rattle.std.specs.Prelude.{◌≡◌, refl, Bool, true, false, List, ℕ, ◌+◌, ◌≤◌, min, eqb}
use Rattle.std.proofs.Common.{sym, ap, ◌∙◌, arith}
use borrow.Author.Tests.{eq-eqb, ne_eqb, eqb-true, eqb-false}
use Rattle.meaning.specs.Graph.{Graph}
use Rattle.state_words.specs.Sections.{word, stored, kinds, backedges, bodies, children, set_lengths}
use Rattle.state_words.specs.Totals.{Made}
use Rattle.cfg_loops.specs.Loops.{StructurizesLoop}
use Rattle.std.specs.Prelude.{Ok, Result}
use Rattle.cfg_regions.specs.declared.claim.Claim.{Claim}
use Rattle.cfg_regions.specs.declared.claim.Claim.TheVariants.{Claimed, Unclaimed}
use Rattle.store.specs.declared.refusals.Refusal.{Refusal}
use Rattle.cfg_regions.specs.ByState.{claim_of, backedge_at, as_claimed, ClaimsBody, no_backedges, none_found, by_loop, ClaimsByState}
use Rattle.cfg_regions.specs.ByState.{ready_claimed, ready_waits, not_ready, is_trivial, unclaimed_word}
use Rattle.state_words.specs.Rows.{kind_claimed, kind_ready, largest, no_bundle_word, region_kind, level_unreachable}
use Rattle.state_words.specs.Rows.{level_deferred}

-- ---- The functions, path by path.
module _ (w : List ℕ) (t state : ℕ) (of_state : state ≡ region_kind w t) where
  pub trivial_state : (state ≡ kind_ready → ⊥) → false ≡ is_trivial w t
  unfolding is_trivial
  trivial_state d = rw (ne_eqb (region_kind w t) kind_ready (λ e. d (of_state ∙ e)))

  module _ (ready : state ≡ kind_ready) (n : ℕ) (of_length : n ≡ word w set_lengths t) where
    pub trivial_set : (n ≡ 0 → ⊥) → false ≡ is_trivial w t
    unfolding is_trivial
    trivial_set d = rw
        (eq-eqb (region_kind w t) kind_ready (sym of_state ∙ ready), ne_eqb (word w set_lengths t) 0 (λ e. d (of_length ∙ e)))

    pub trivial_children : n ≡ 0 → (h : ℕ) → h ≡ word w children t → eqb h 0 ≡ is_trivial w t
    unfolding is_trivial
    trivial_children z h e =
        rw (eq-eqb (region_kind w t) kind_ready (sym of_state ∙ ready), eq-eqb (word w set_lengths t) 0 (sym of_length ∙ z), e)

module _ (w : List ℕ) (t : ℕ) (b : Bool) (test : b ≡ is_trivial w t) where
  pub edge_nothing : b ≡ true → level_unreachable ≡ unclaimed_word w t
  edge_nothing e = rw (← test, e)

  pub edge_deferred : b ≡ false → level_deferred ≡ unclaimed_word w t
  edge_deferred e = rw (← test, e)

module _ (g : Graph) (w : List ℕ) {w₁ w₂ : List ℕ} (r : ℕ) (claims : w₁ ≡ stored w kinds r kind_claimed)
    (itself : w₂ ≡ stored w₁ bodies r r) {b z : ℕ}
    (read : (b ≡ word w₂ backedges r) × (b ≤ largest)) (none : z ≡ 0) {same : Bool} (test : same ≡ eqb b z) where
  now_claimed : w₂ ≡ as_claimed w r
  now_claimed = itself ∙ ap (λ l. stored l bodies r r) claims

  backedges_read : b ≡ word (as_claimed w r) backedges r
  backedges_read = read.0 ∙ ap (λ l. word l backedges r) now_claimed

  pub body_plain : same ≡ true → ClaimsBody g w r w₂ (Ok Claimed)
  body_plain e = no_backedges (sym backedges_read ∙ eqb-true b z (sym test ∙ e) ∙ none) now_claimed

  module _ (some : same ≡ false) {p : ℕ} (found : p ≡ backedge_at w₂ r) where
    found_at : p ≡ backedge_at (as_claimed w r) r
    found_at = found ∙ ap (λ l. backedge_at l r) now_claimed

    has_some : word (as_claimed w r) backedges r ≡ 0 → ⊥
    has_some y = eqb-false b z (sym test ∙ some) (backedges_read ∙ y ∙ sym none)

    pub body_without : p ≡ no_bundle_word → ClaimsBody g w r w₂ (Ok Claimed)
    body_without e = none_found has_some (sym found_at ∙ e) now_claimed

    pub body_loop : (p ≡ no_bundle_word → ⊥) → {w₃ : List ℕ} {made : Made} → StructurizesLoop r p w₂ w₃ made → {a : Result Claim Refusal}
        → a ≡ claim_of made → ClaimsBody g w r w₃ a
    body_loop d f e = by_loop has_some (λ z. d (found_at ∙ z)) (rw (now_claimed, found_at) at f) e

module _ (g : Graph) (w : List ℕ) (r n incoming : ℕ) {state : ℕ} (of_state : state ≡ region_kind w r) where
  module _ (ready : state ≡ kind_ready) {b m : ℕ} (read : (b ≡ word w backedges r) × (b ≤ largest)) (few : n ≤ largest)
      (sum : m ≡ min (n + b) 4294967295) {same : Bool} (test : same ≡ eqb incoming m) where
    all_edges : m ≡ n + word w backedges r
    all_edges = (let z = read.0 in let y = read.1 in omega arith)

    pub state_claimed : same ≡ true → {w' : List ℕ} {a : Result Claim Refusal} → ClaimsBody g w r w' a → ClaimsByState g w r n incoming w' a
    state_claimed e y = ready_claimed (sym of_state ∙ ready) (eqb-true incoming m (sym test ∙ e) ∙ all_edges) y

    pub state_waits : same ≡ false → ClaimsByState g w r n incoming w (Ok Unclaimed)
    state_waits e = ready_waits (sym of_state ∙ ready) (λ z. eqb-false incoming m (sym test ∙ e) (z ∙ sym all_edges)) refl

  pub other_waits : (state ≡ kind_ready → ⊥) → ClaimsByState g w r n incoming w (Ok Unclaimed)
  other_waits d = not_ready (λ z. d (of_state ∙ z)) refl
