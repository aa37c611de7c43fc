-- One turn of each loop along the words.
use Rattle.std.specs.Prelude.{◌≡◌, ℕ, ◌+◌, ◌-◌, ◌≤◌, ◌<◌, List}
use Rattle.std.proofs.Math.Path.{sym}
use Rattle.std.proofs.Common.{ap, ◌∙◌, add-one, eq-eqb, ne_eqb}
use Rattle.meaning.specs.facts.Numbers.{one_less, none_left}
use Rattle.fields.specs.ItemsAndPlaces.{placed, word_item, behind_values, behind_instructions, behind_list, list_for}
use Rattle.fields.specs.laws.Targets.{list_here, list_next}

module _ (w : List ℕ) (all i : ℕ) where
  pub instr_turn : (n p : ℕ) → n < i → behind_instructions w (i - n) p ≡ all
      → behind_instructions w (i - (n + 1)) (behind_values w (placed (p + 3))) ≡ all
  unfolding behind_instructions
  instr_turn n p l h = sym (ap (λ k. behind_instructions w k p) (one_less i n l)) ∙ h

  pub instr_stop : (n p : ℕ) → i ≤ n → behind_instructions w (i - n) p ≡ all → p ≡ all
  unfolding behind_instructions
  instr_stop n p l h = sym (ap (λ k. behind_instructions w k p) (none_left i n l)) ∙ h

module _ (w : List ℕ) (ts t all i : ℕ) where
  pub list_found : (n p : ℕ) → n < i → word_item w ts n ≡ t → list_for w ts t (i - n) n p ≡ all → p ≡ all
  list_found n p l e h = sym (ap (λ k. list_for w ts t k n p) (one_less i n l) ∙ list_here w ts t _ n p (eq-eqb t _ (sym e))) ∙ h

  pub list_turn : (n p : ℕ) → n < i → (word_item w ts n ≡ t → ⊥) → list_for w ts t (i - n) n p ≡ all
      → list_for w ts t (i - (n + 1)) (n + 1) (behind_list w ts n p) ≡ all
  list_turn n p l e h =
      ap (λ q. list_for w ts t (i - (n + 1)) q (behind_list w ts n p)) (add-one n)
      ∙ sym (ap (λ k. list_for w ts t k n p) (one_less i n l) ∙ list_next w ts t _ n p (ne_eqb t _ (λ q. e (sym q))))
      ∙ h

  pub list_stop : (n p : ℕ) → i ≤ n → list_for w ts t (i - n) n p ≡ all → p ≡ all
  unfolding list_for
  list_stop n p l h = sym (ap (λ k. list_for w ts t k n p) (none_left i n l)) ∙ h
