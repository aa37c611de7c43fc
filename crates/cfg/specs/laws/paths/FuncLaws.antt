-- For the proofs of func.rt: the outcome by what the entry's set has, the answer by what the entry's claim was; and that the record stands
-- after the first step has filled the state.
use Rattle.std.specs.Prelude.{◌≡◌, Bool, true, false, List, ℕ, get_or}
use Rattle.std.proofs.Common.{sym, ◌∙◌, eqb-true}
use Rattle.std.proofs.lemmas.Bool.{eqb-false}
use Rattle.meaning.specs.Graph.{Graph}
use Rattle.format.specs.Valid.{Valid}
use Rattle.record.specs.Stands.{Stands}
use Rattle.state_words.specs.Sections.{word, set_lengths}
use Rattle.state_shown.specs.laws.FrontKept.{stands_on}
use Rattle.cfg_start.specs.laws.shown.Started.{started_front}
use Rattle.std.specs.Prelude.{Err, Ok, Result}
use Rattle.cfg_regions.specs.declared.claim.Claim as code
use Rattle.cfg_regions.specs.declared.claim.Claim.TheVariants as claim
use Rattle.cfg.specs.declared.func.Outcome.{Outcome}
use Rattle.cfg.specs.declared.func.Outcome.TheVariants.{Untouched, Whole, Closed, Leftover}
use Rattle.cfg_regions.specs.ByInst.{own_bundle}
use Rattle.cfg_claims.specs.Claims.{own_target, TriesClaim, Stood}
use Rattle.cfg.specs.Func.{Outcomes, is_closed, is_whole, one_elsewhere, more_left, Begins, entered_once, Concludes, claimed}
use Rattle.cfg.specs.Func.{unclaimed, refused, untouched, concluded, Func}
use Rattle.cfg_claims.proofs.laws.Left.{steady_claim}
use Rattle.state_words.specs.Rows.{bundle_target, return_word}
use Rattle.store.specs.declared.refusals.Refusal.{Refusal}
use Rattle.store.specs.declared.refusals.Refusal.TheVariants.{Never}

-- ---- The functions, path by path.
module _ (w : List ℕ) (entry : ℕ) {n : ℕ} (size : n ≡ word w set_lengths entry) where
  pub no_edges : n ≡ 0 → Outcomes w entry Closed
  no_edges e = is_closed (sym size ∙ e)

  pub many_edges : (n ≡ 0 → ⊥) → (n ≡ 1 → ⊥) → Outcomes w entry Leftover
  many_edges d e = more_left (λ z. d (size ∙ z)) (λ z. e (size ∙ z))

  module _ (one : n ≡ 1) {p t : ℕ} (at : p ≡ own_bundle w entry 0) (of_target : t ≡ bundle_target w p) where
    target_is : t ≡ own_target w entry 0
    target_is = of_target ∙ rw at

    pub return_edge : t ≡ return_word → Outcomes w entry Whole
    return_edge e = is_whole (sym size ∙ one) (sym target_is ∙ e)

    pub other_edge : (t ≡ return_word → ⊥) → Outcomes w entry Leftover
    other_edge d = one_elsewhere (sym size ∙ one) (λ z. d (target_is ∙ z))

module _ {g : Graph} {w : List ℕ} {c : Result code.Claim Refusal} where
  pub of_claimed : c ≡ Ok claim.Claimed → {entry : ℕ} → entry ≡ g.entry → {o : Outcome} → Outcomes w entry o → Concludes g w c (Ok o)
  of_claimed e of_entry x = rw e (claimed (rw of_entry at x))

  pub of_unclaimed : c ≡ Ok claim.Unclaimed → Concludes g w c (Err (Never 0))
  of_unclaimed e = rw e unclaimed

  pub of_refused : {y : Refusal} → c ≡ Err y → Concludes g w c (Err y)
  of_refused e = rw e refused

-- ---- The three, one after the other.
module _ {w counts w₁ : List ℕ} (begins : (g : Graph) → Stands w g → Begins g w counts w₁) (stood : Stood w) where
  stands_begun : (g : Graph) → Stands w g → Stands w₁ g
  stands_begun g st = rw (begins g st).begun (stands_on (started_front g w stood.room) st)

  pub stood_begun : Stood w₁
  stood_begun =
      let g = stood.graph in
      let st = stood.stands in
      record {
        graph = g;
        stands = stands_begun g st;
        room = rw ((begins g st).begun, (started_front g w stood.room).words) stood.room;
      }

  module _ {once : Bool} (test : (g : Graph) → Stands w₁ g → once ≡ entered_once g counts) (g : Graph) (st : Stands w g) (valid : Valid g)
    where
      pub func_untouched : once ≡ false → Func g w w₁ (Ok Untouched)
      func_untouched e =
          let b = begins g st in
          record {
            counts = counts;
            right = b.counted valid;
            steps = untouched (eqb-false (get_or counts g.entry 0) 1 (sym (test g (stands_begun g st)) ∙ e)) b.begun;
          }

      pub func_concluded : once ≡ true → {w' : List ℕ} {c : Result code.Claim Refusal} {a : Result Outcome Refusal}
          → ((g : Graph) → Stands w₁ g → TriesClaim g counts w₁ g.entry 1 w' c)
          → ((g : Graph) → Stands w' g → Concludes g w' c a) → Func g w w' a
      func_concluded e claims concludes =
          let b = begins g st in
          let on = stands_begun g st in
          let t = claims g on in
          record {
            counts = counts;
            right = b.counted valid;
            steps = concluded (eqb-true (get_or counts g.entry 0) 1 (sym (test g on) ∙ e)) (rw b.begun at t)
                (concludes g (stands_on (steady_claim t on).front on));
          }
