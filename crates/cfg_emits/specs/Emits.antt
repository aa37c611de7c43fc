-- Outputs and conditions of a select, as the words and the graph have them.
use Rattle.std.specs.Prelude.{◌≡◌, List, ℕ, ◌≤◌, ◌<◌, length, get_or, eqb}
use Rattle.meaning.specs.Lists.{pick}
use Rattle.meaning.specs.Graph.{Graph}
use Rattle.std.specs.Prelude.{Ok}
use Rattle.state_words.specs.Totals.{Made, Done, Full}
use Rattle.state_words.specs.Sections.{word, stored, set_starts, set_lengths, bundles}
use Rattle.state_regions.specs.RegionTables.{case_total}
use Rattle.state_sets.specs.SetTables.{input_word, input_stored, bundle_at}
use Rattle.state_nodes.specs.NodeTables.{OutputDefined, MergeDefined}
use Rattle.state_words.specs.Values.{undef_word, output_word}
use Rattle.cfg_bundles.specs.EdgesAndCases.{input_count, target_type}
use Rattle.cfg_planning.specs.Planning.{per_case_deferred, per_case_condition, to_merge, to_define}
use Rattle.cfg_select_nodes.specs.Turns.{Steps, Turns}
use Rattle.state_words.specs.Values.{parts, undef_from}
use Rattle.state_words.specs.Rows.{bundle_condition, bundle_condition_at, bundle_target, no_bundle_word, select_node, spare_slot}

-- ---- Eight words, of which the first have what each case has, and the others `fill`.
pub record InCases (n : ℕ) (f : ℕ → ℕ) (fill : ℕ) (vs : List ℕ) : Type 0 where
  pub size : length vs ≡ 8
  pub each : (j : ℕ) → j < n → get_or vs j 0 ≡ f j
  pub others : (j : ℕ) → n ≤ j → j < 8 → get_or vs j 0 ≡ fill

unfoldable pub value_in_case : List ℕ → ℕ → ℕ → ℕ → ℕ
value_in_case l p k ty = pick (eqb p no_bundle_word) (undef_word ty) (input_word l p k)

abbrev pub ValuesIn : List ℕ → List ℕ → ℕ → ℕ → List ℕ → Type 0
ValuesIn l places k ty vs = InCases (case_total l) (λ j. value_in_case l (get_or places j 0) k ty) undef_from vs

abbrev pub ConditionsIn : List ℕ → List ℕ → List ℕ → Type 0
ConditionsIn l places vs = InCases (case_total l) (λ j. per_case_condition l j (get_or places j 0)) 0 vs

-- ---- Input k of the bundle at q to target t.
pub data EmitInput (g : Graph) (node q t : ℕ) (places : List ℕ) (k : ℕ) (l l' : List ℕ) : Made → Type 0 where
  input_there : (input_word l q k ≡ to_merge → ⊥) → l' ≡ l → EmitInput g node q t places k l l' Done
  input_made : {l₁ vs : List ℕ} {o : ℕ} → input_word l q k ≡ to_merge → ValuesIn l places k (target_type g l t k) vs
      → OutputDefined node (target_type g l t k) vs l l₁ (Ok o) → l' ≡ input_stored l₁ q k (output_word o)
      → EmitInput g node q t places k l l' Done
  no_input : {vs : List ℕ} → input_word l q k ≡ to_merge → ValuesIn l places k (target_type g l t k) vs
      → OutputDefined node (target_type g l t k) vs l l' Full → EmitInput g node q t places k l l' Full

abbrev pub target_at : List ℕ → ℕ → ℕ
target_at l q = bundle_target l q

abbrev pub EmitInputs : Graph → ℕ → ℕ → List ℕ → List ℕ → List ℕ → Made → Type 0
EmitInputs g node q places l l' a = Turns (EmitInput g node q (target_at l q) places) (input_count g l (target_at l q)) 0 l l' a

-- ---- Its condition, by the select's cell h.
pub data EmitCondition (h q : ℕ) (places l l' : List ℕ) : Made → Type 0 where
  condition_there : (bundle_condition l q ≡ to_define → ⊥) → l' ≡ l → EmitCondition h q places l l' Done
  condition_made : {l₁ parts : List ℕ} {c : ℕ} → bundle_condition l q ≡ to_define → ConditionsIn l places parts
      → MergeDefined h parts l l₁ (Ok c)
      → l' ≡ stored l₁ bundles (bundle_condition_at q) c → EmitCondition h q places l l' Done
  no_condition : {parts : List ℕ} → bundle_condition l q ≡ to_define → ConditionsIn l places parts
      → MergeDefined h parts l l' Full
      → EmitCondition h q places l l' Full

-- ---- Bundles.
abbrev pub places_of : List ℕ → ℕ → List ℕ
places_of l q = per_case_deferred l (target_at l q)

pub data EmitBundle (g : Graph) (h q : ℕ) (l l' : List ℕ) : Made → Type 0 where
  inputs_refused : EmitInputs g (select_node l h) q (places_of l q) l l' Full → EmitBundle g h q l l' Full
  bundle_emitted : {l₁ : List ℕ} {a : Made} → EmitInputs g (select_node l h) q (places_of l q) l l₁ Done
      → EmitCondition h q (places_of l q) l₁ l' a → EmitBundle g h q l l' a

abbrev pub EmitAt : Graph → ℕ → ℕ → Steps
EmitAt g h start i l l' a = EmitBundle g h (bundle_at start i) l l' a

abbrev pub Emits : Graph → ℕ → List ℕ → List ℕ → Made → Type 0
Emits g h l l' a = Turns (EmitAt g h (word l set_starts spare_slot)) (word l set_lengths spare_slot) 0 l l' a
