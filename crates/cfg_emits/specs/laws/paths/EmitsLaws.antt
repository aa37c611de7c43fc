-- For the proofs of emit.rt: a merged input or condition gets its values case by case, then an output of the select; the bundles in turn,
-- until a table is full. The record stands through all of it.
use Rattle.std.specs.Prelude.{◌≡◌, refl, List, ◌∷◌, ℕ, ◌+◌, ◌≤◌, ◌<◌, set, replicate}
use Rattle.std.proofs.Common.{sym, ◌∙◌, arith, length-set, get_or-set_same, get_or-set_other, eq-eqb, ne_eqb}
use Rattle.std.proofs.Math.Decide.{dec_lt}
use Rattle.std.proofs.lemmas.List.{get_or-replicate}
use Rattle.meaning.specs.Graph.{Graph}
use Rattle.record.specs.Stands.{OfRecord}
use Rattle.std.specs.Prelude.{Ok}
use Rattle.state_words.specs.Totals.{Defined, Made, Done, Full}
use Rattle.state_words.specs.Sections.{word, stored, stored_all, head, set_starts, set_lengths, outputs, conditions, bundles}
use Rattle.state_sets.specs.SetTables.{input_word, input_stored}
use Rattle.state_nodes.specs.NodeTables.{OutputDefined, output_defined, outputs_full, MergeDefined}
use Rattle.state_nodes.specs.NodeTables.{merge_defined, merges_full}
use Rattle.state_words.specs.Values.{undef_word, output_word}
use Rattle.state_shown.specs.Front.{SameKinds}
use Rattle.state_shown.specs.laws.FrontKept.{kinds_same, kinds_stored, kinds_run, kinds_then, kinds_input_stored}
use Rattle.cfg_bundles.specs.EdgesAndCases.{input_count, target_type}
use Rattle.cfg_planning.specs.Planning.{per_case_deferred, to_define, to_merge}
use Rattle.cfg_select_nodes.specs.Turns.{Turns, LeavesRecord}
use Rattle.cfg_select_nodes.specs.laws.paths.TurnsLaws.{front_turns}
use Rattle.cfg_emits.specs.Emits.{InCases, value_in_case, ValuesIn, ConditionsIn, EmitInput, input_there, input_made, no_input}
use Rattle.cfg_emits.specs.Emits.{target_at, EmitInputs, EmitCondition, condition_there, condition_made, no_condition, places_of}
use Rattle.cfg_emits.specs.Emits.{EmitBundle, inputs_refused, bundle_emitted, EmitAt, Emits}
use Rattle.state_words.specs.Values.{parts}
use Rattle.state_words.specs.Rows.{bundle_condition, bundle_condition_at, merge_row_at, merges_at, no_bundle_word, output_node_at}
use Rattle.state_words.specs.Rows.{outputs_at}
use Rattle.state_words.specs.Rows.{return_word, select_node, spare_slot}

pub in_none : (f : ℕ → ℕ) (fill : ℕ) → InCases 0 f fill (replicate 8 fill)
in_none f fill = record { size = refl; each = λ j h. absurd (omega arith); others = λ j a b. get_or-replicate 8 j fill 0 b }

pub in_more : {n : ℕ} {f : ℕ → ℕ} {fill : ℕ} {vs : List ℕ} → InCases n f fill vs → n < 8 → {v : ℕ} → v ≡ f n
    → InCases (n + 1) f fill (set vs n v)
in_more {n} {f} {vs = vs} x h {v} e =
    let s = x.size in
    record {
      size = length-set vs n v ∙ s;
      each = λ j b. elim (dec_lt j n) [
        | yes c ↦ get_or-set_other vs n j v 0 (omega arith) ∙ x.each j c
        | no c ↦ (let z : j ≡ n = omega arith in rw z (get_or-set_same vs n v 0 (omega arith) ∙ e))
      ];
      others = λ j a b. get_or-set_other vs n j v 0 (omega arith) ∙ x.others j (omega arith) b;
    }

pub in_all : {n m k : ℕ} {f : ℕ → ℕ} {fill : ℕ} {vs : List ℕ} → InCases n f fill vs → n ≤ m → m ≤ n → m ≡ k → InCases k f fill vs
in_all x a b e = record { size = x.size; each = λ j h. x.each j (omega arith); others = λ j c d. x.others j (omega arith) d }

pub value_none : (l : List ℕ) (p k ty : ℕ) → p ≡ no_bundle_word → undef_word ty ≡ value_in_case l p k ty
unfolding value_in_case
value_none l p k ty e = rw (eq-eqb _ _ e)

pub value_some : (l : List ℕ) (p k ty : ℕ) → (p ≡ no_bundle_word → ⊥) → input_word l p k ≡ value_in_case l p k ty
unfolding value_in_case
value_some l p k ty d = rw (ne_eqb _ _ d)

-- ---- The record stands in front of all that is stored.
pub front_output : {n ty : ℕ} {vs l l' : List ℕ} {a : Defined} → OutputDefined n ty vs l l' a → SameKinds l l'
front_output {n} {ty} {vs} {l} (output_defined {o} p h e) =
    rw e (kinds_then (kinds_run l outputs (omega arith) (output_node_at o) (n ∷ ty ∷ vs))
    (kinds_stored (stored_all l outputs (output_node_at o) (n ∷ ty ∷ vs)) head (omega arith) outputs_at (o + 1)))
front_output {l} (outputs_full h e) = rw e (kinds_same l)

front_merge : {h : ℕ} {ps l l' : List ℕ} {a : Defined} → MergeDefined h ps l l' a → SameKinds l l'
front_merge {h} {ps} {l} (merge_defined {m} {c} p b q e) =
    rw e (kinds_then (kinds_run l conditions (omega arith) (merge_row_at c) (h ∷ ps))
    (kinds_stored (stored_all l conditions (merge_row_at c) (h ∷ ps)) head (omega arith) merges_at (m + 1)))
front_merge {l} (merges_full h e) = rw e (kinds_same l)

front_input : {g : Graph} {node q t k : ℕ} {places l l' : List ℕ} {a : Made} → EmitInput g node q t places k l l' a → SameKinds l l'
front_input {l} (input_there d e) = rw e (kinds_same l)
front_input {q} {k} (input_made {l₁} {o} e vs x p) = rw p (kinds_then (front_output x) (kinds_input_stored l₁ q k (output_word o)))
front_input (no_input e vs x) = front_output x

front_inputs : {g : Graph} {node q : ℕ} {places l l' : List ℕ} {a : Made} → EmitInputs g node q places l l' a → SameKinds l l'
front_inputs {g} {node} {q} {places} {l} t = front_turns (EmitInput g node q (target_at l q) places) (λ k m m' b x. front_input x) t

front_condition : {h q : ℕ} {places l l' : List ℕ} {a : Made} → EmitCondition h q places l l' a → SameKinds l l'
front_condition {l} (condition_there d e) = rw e (kinds_same l)
front_condition {q} (condition_made {l₁} {c} e ps x p) = rw p (kinds_then (front_merge x)
    (kinds_stored l₁ bundles (omega arith) (bundle_condition_at q) c))
front_condition (no_condition e ps x) = front_merge x

pub front_bundle : {g : Graph} {h q : ℕ} {l l' : List ℕ} {a : Made} → EmitBundle g h q l l' a → SameKinds l l'
front_bundle (inputs_refused t) = front_inputs t
front_bundle (bundle_emitted t c) = kinds_then (front_inputs t) (front_condition c)

-- ---- The functions, path by path.
module _ (h q : ℕ) (places l : List ℕ) {x : ℕ} {parts l₁ : List ℕ} {a : Defined} (read : x ≡ bundle_condition l q)
    (open_yet : x ≡ to_define) (in_cases : ConditionsIn l places parts) (made : MergeDefined h parts l l₁ a) where
  pub condition_refused : a ≡ Full → EmitCondition h q places l l₁ Full
  condition_refused e = no_condition (sym read ∙ open_yet) in_cases (rw e at made)

  pub condition_set : {c : ℕ} → a ≡ Ok c → {l' : List ℕ} → l' ≡ stored l₁ bundles (bundle_condition_at q) c
      → EmitCondition h q places l l' Done
  condition_set e p = condition_made (sym read ∙ open_yet) in_cases (rw e at made) p

module _ (node q t : ℕ) (places : List ℕ) (k : ℕ) (l : List ℕ) {x ty : ℕ} {vs l₁ : List ℕ} {a : Defined} (read : x ≡ input_word l q k)
    (open_yet : x ≡ to_merge) (of_type : OfRecord l (λ g. ty ≡ target_type g l t k)) (in_cases : ValuesIn l places k ty vs)
    (made : OutputDefined node ty vs l l₁ a) where
  pub input_refused : a ≡ Full → OfRecord l (λ g. EmitInput g node q t places k l l₁ Full)
  input_refused e g s = no_input (sym read ∙ open_yet) (rw (of_type g s) at in_cases) (rw (e, of_type g s) at made)

  pub input_set : {o y : ℕ} → a ≡ Ok o → y ≡ output_word o → {l' : List ℕ} → l' ≡ input_stored l₁ q k y
      → OfRecord l (λ g. EmitInput g node q t places k l l' Done)
  input_set e b p g s = input_made (sym read ∙ open_yet) (rw (of_type g s) at in_cases) (rw (e, of_type g s) at made) (p ∙ rw b)

-- All turns, by the number of inputs that the record has.
pub inputs_by : (node q : ℕ) (places l : List ℕ) {t n : ℕ} {l' : List ℕ} {a : Made} → t ≡ target_at l q
    → OfRecord l (λ g. n ≡ input_count g l t) → OfRecord l (λ g. Turns (EmitInput g node q t places) n 0 l l' a)
    → OfRecord l (λ g. EmitInputs g node q places l l' a)
inputs_by node q places l e size x g s = rw (size g s, e) at (x g s)

module _ (g : Graph) where
  pub inputs_leave : (node q t : ℕ) (places : List ℕ) → LeavesRecord (EmitInput g node q t places)
  inputs_leave node q t places k l l' a x = front_input x

  pub bundles_leave : (h start : ℕ) → LeavesRecord (EmitAt g h start)
  bundles_leave h start i l l' a x = front_bundle x

module _ (h q : ℕ) (l : List ℕ) {t node : ℕ} {places : List ℕ} (of_target : t ≡ target_at l q) (found : places ≡ per_case_deferred l t)
    (of_node : node ≡ select_node l h) {l₁ : List ℕ} {a : Made} (made : OfRecord l (λ g. EmitInputs g node q places l l₁ a)) where
  places_are : places ≡ places_of l q
  places_are = found ∙ rw of_target

  pub bundle_refused : a ≡ Full → OfRecord l (λ g. EmitBundle g h q l l₁ Full)
  bundle_refused e g s = inputs_refused (rw (e, of_node, places_are) at (made g s))

  pub bundle_made : a ≡ Done → {l' : List ℕ} {b : Made} → EmitCondition h q places l₁ l' b → OfRecord l (λ g. EmitBundle g h q l l' b)
  bundle_made e c g s = bundle_emitted (rw (e, of_node, places_are) at (made g s)) (rw places_are at c)

-- All bundles of the spare slot.
pub emits_by : (h : ℕ) (l : List ℕ) {start n : ℕ} {l' : List ℕ} {a : Made} → start ≡ word l set_starts spare_slot
    → n ≡ word l set_lengths spare_slot
    → OfRecord l (λ g. Turns (EmitAt g h start) n 0 l l' a) → OfRecord l (λ g. Emits g h l l' a)
emits_by h l e size x g s = rw (size, e) at (x g s)
