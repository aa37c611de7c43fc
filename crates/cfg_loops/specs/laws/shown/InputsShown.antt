-- The inputs of a loop's header, taken one by one: for every state that the words show, as the definition takes them.
use Rattle.std.specs.Prelude.{◌≡◌, refl, true, false, List, [], ◌∷◌, ◌++◌, ℕ, suc, ◌+◌, ◌≤◌, ◌<◌, length, get_or, set, take, eqb}
use Rattle.std.proofs.Common.{sym, ap, ◌∙◌, subst, arith, add-one, length-set, length-append, take_all, take-suc, length-take-le, get_or-set_same, get_or-set_other}
use Rattle.std.proofs.Math.Decide.{dec_lt}
use Rattle.std.proofs.Math.ListN.{get_or-append, get_or-eq_default}
use Rattle.std.proofs.Math.Seq.{get_or-append_seam}
use borrow.Author.Tests.{lt-ltb, eq-eqb, ne_eqb}
use Rattle.meaning.specs.Graph.{Value, Graph, region, undef, input, same_value}
use Rattle.nesting.specs.Nesting.{InputRewrite, renumber_to, replace_by, LoopInputs, no_inputs, keep_input, lift_input, take_input}
use Rattle.nesting.specs.Nesting.{take_inputs}
use Rattle.nesting.specs.Nesting.{most_regions}
use Rattle.state_words.specs.Sections.{used, size, word, head}
use Rattle.state_words.specs.Values.{region_word}
use Rattle.state_shown.specs.Values.{value}
use Rattle.state_shown.specs.laws.ValueWords.{equal_values, value_input, value_held}
use Rattle.state_shown.specs.Tables.{ShowsInput, renumbered, replaced}
use Rattle.state_shown.specs.laws.Elsewhere.{SameTables, same_words, same_then}
use Rattle.state_shown.specs.Cells.{none_kept}
use Rattle.state_shown.specs.laws.RegionSteps.{Aside, aside_same, aside_then}
use Rattle.state_shown.specs.laws.CellSteps.{ShowsKeptList, kept_added, cell_aside, cell_tables, cell_total, cell_handle}
use Rattle.cfg_lookups.specs.laws.shown.Shown.{held_below}
use Rattle.cfg_loops.specs.declared.inputs.LoopInputs as code
use Rattle.cfg_loops.specs.Inputs.{KeepsInput, TakesInput, lifted, kept, beyond, TakesFrom, none_taken, one_taken}
use Rattle.state_words.specs.Values.{held_from, input_from, input_word_at, names_nothing}
use Rattle.state_words.specs.Rows.{cells_at, most_cells}

-- ---- The words of a region's inputs.
module _ (r k : ℕ) (h : r < most_regions) (j : k < 4) where
  word_is : (base : ℕ) → region_word base r k ≡ input_word_at base r k
  unfolding region_word
  word_is base = rw (lt-ltb r most_regions h, lt-ltb k 4 j)

  -- The code's test whether an input is passed back unchanged.
  unchanged_test : (x : ℕ) → same_value (value x) (input r k) ≡ eqb x (region_word input_from r k)
  unchanged_test x = ap (λ v. same_value (value x) v) (sym (value_input r k h j))
      ∙ equal_values x (region_word input_from r k) (rw (word_is input_from) (omega arith))

-- ---- The definition's fold, with a value more.
taken_more : (g : Graph) (r wrapper k : ℕ) (vs : List Value) (v : Value) (x : LoopInputs)
    → take_inputs g r wrapper k (vs ++ (v ∷ [])) x ≡ take_input g r wrapper (k + length vs) v (take_inputs g r wrapper k vs x)
taken_more g r wrapper k [] v x = let e : k + 0 ≡ k = omega arith in rw e
taken_more g r wrapper k (u ∷ vs) v x =
    let e : k + suc (length vs) ≡ suc k + length vs = omega arith in
    taken_more g r wrapper (suc k) vs v (take_input g r wrapper k u x)
    ∙ ap (λ z. take_input g r wrapper z v (take_inputs g r wrapper (suc k) vs (take_input g r wrapper k u x))) (sym e)

-- The first k are taken: from l and vs to l₁ and ws.
pub record InputsTaken (g : Graph) (r wrapper k : ℕ) (l vs l₁ ws : List ℕ) (x : code.LoopInputs) (vals : List Value) : Type 0 where
  pub inputs : LoopInputs
  pub are : inputs ≡ take_inputs g r wrapper 0 (take k vals) no_inputs
  pub kept : ShowsKeptList g l₁ r x.cells.0 inputs
  pub count : x.count ≡ length inputs.initial_inputs
  pub few : x.count ≤ k
  pub size : length inputs.rewrites ≡ length (take k vals)
  pub entries : (j : ℕ) → j < k → ShowsInput r (get_or ws j 0) (get_or inputs.rewrites j (renumber_to j))
  pub named : (j : ℕ) → j < k → get_or ws j 0 < names_nothing
  pub left : (j : ℕ) → k ≤ j → get_or ws j 0 ≡ get_or vs j 0
  pub len : length ws ≡ length vs
  pub aside : Aside g l l₁
  pub tables : SameTables l l₁
  pub total_from : word l head cells_at ≤ word l₁ head cells_at
  pub total_to : word l₁ head cells_at ≤ word l head cells_at + k

module _ (g : Graph) (r wrapper n : ℕ) (l vs : List ℕ) (vals : List Value) (size : n ≡ length vals) (four : length vs ≡ 4) (few : n ≤ 4)
    (is : (j : ℕ) → j < n → value (get_or vs j 0) ≡ get_or vals j (undef 0)) (header : r < most_regions) (wraps : wrapper < most_regions)
    (free : word l head cells_at + 4 ≤ most_cells) (room : used ≤ length l) (one : 1 ≤ word l head cells_at) where
  abbrev So : ℕ → List ℕ → List ℕ → code.LoopInputs → Type 0
  So k l₁ ws x = InputsTaken g r wrapper k l vs l₁ ws x vals

  none_so : {x : code.LoopInputs} → x.count ≡ 0 → x.cells.0 ≡ 0 → So 0 l vs x
  none_so {x} a b =
      record {
        inputs = no_inputs;
        are = refl;
        kept = record { kept = none_kept b; made = omega arith };
        count = a;
        few = omega arith;
        size = refl;
        entries = λ j h. absurd (omega arith);
        named = λ j h. absurd (omega arith);
        left = λ j h. refl;
        len = refl;
        aside = aside_same g l;
        tables = same_words l;
        total_from = omega arith;
        total_to = omega arith;
      }

  module _ {k : ℕ} {l₁ ws : List ℕ} {x : code.LoopInputs} (so : So k l₁ ws x) (place : k < 4) (entry : ℕ) where
    -- An entry more: those before it, and it.
    named_more : {ws' : List ℕ} → ws' ≡ set ws k entry → entry < names_nothing → (j : ℕ) → j < k + 1 → get_or ws' j 0 < names_nothing
    named_more e h j b =
        let z = so.len in
        elim (dec_lt j k) [
          | yes lt ↦ rw (e, get_or-set_other ws k j entry 0 (omega arith)) (so.named j lt)
          | no ge ↦ (let at : j ≡ k = omega arith in rw (e, at, get_or-set_same ws k entry 0 (omega arith)) h)
        ]

    left_more : {ws' : List ℕ} → ws' ≡ set ws k entry → (j : ℕ) → k + 1 ≤ j → get_or ws' j 0 ≡ get_or vs j 0
    left_more e j b = rw (e, get_or-set_other ws k j entry 0 (omega arith)) (so.left j (omega arith))

    len_more : {ws' : List ℕ} → ws' ≡ set ws k entry → length ws' ≡ length vs
    len_more e = ap length e ∙ length-set ws k entry ∙ so.len

    entries_more : {ws' : List ℕ} → ws' ≡ set ws k entry → (us : List InputRewrite)
        → ((j : ℕ) → j < k → get_or us j (renumber_to j) ≡ get_or so.inputs.rewrites j (renumber_to j))
        → ShowsInput r entry (get_or us k (renumber_to k))
        → (j : ℕ) → j < k + 1 → ShowsInput r (get_or ws' j 0) (get_or us j (renumber_to j))
    entries_more e us same shows j b =
        let z = so.len in
        elim (dec_lt j k) [
          | yes lt ↦ rw (e, get_or-set_other ws k j entry 0 (omega arith), same j lt) (so.entries j lt)
          | no ge ↦ (let at : j ≡ k = omega arith in rw (e, at, get_or-set_same ws k entry 0 (omega arith)) shows)
        ]

    here : k < n → value (get_or ws k 0) ≡ get_or vals k (undef 0)
    here h = ap value (so.left k (omega arith)) ∙ is k h

    -- The definition's fold takes the value at place k.
    fold_more : k < n
        → take_inputs g r wrapper 0 (take (k + 1) vals) no_inputs ≡ take_input g r wrapper k (get_or vals k (undef 0)) so.inputs
    fold_more h =
        let e : take (k + 1) vals ≡ take k vals ++ (get_or vals k (undef 0) ∷ []) =
        ap (λ z. take z vals) (add-one k) ∙ take-suc vals k (undef 0) (omega arith) in
        let t = length-take-le k vals (omega arith) in
        let m : 0 + length (take k vals) ≡ k = omega arith in
        rw (e, taken_more g r wrapper 0 (take k vals) (get_or vals k (undef 0)) no_inputs, m, so.are)

    -- Passed back unchanged.
    lifted_so : {y : code.LoopInputs} {ws' : List ℕ} → k < n → get_or ws k 0 ≡ region_word input_from r k → y.count ≡ x.count
        → y.cells ≡ x.cells
        → entry ≡ region_word input_from wrapper k → ws' ≡ set ws k entry → So (k + 1) l₁ ws' y
    lifted_so {y} h e c d f w =
        let v = get_or vals k (undef 0) in
        let t = length-take-le k vals (omega arith) in
        let u = length-take-le (k + 1) vals (omega arith) in
        let old = so.inputs.rewrites in
        let more = replace_by (input wrapper k) ∷ [] in
        let s = so.size in
        let many = length-append old more in
        let end : k ≡ length old = omega arith in
        let test : same_value v (input r k) ≡ true =
        ap (λ z. same_value z (input r k)) (sym (here h)) ∙ unchanged_test r k header place (get_or ws k 0)
        ∙ eq-eqb (get_or ws k 0) (region_word input_from r k) e in
        let few = so.few in
        let to = so.total_to in
        let is = f ∙ word_is wrapper k wraps place input_from in
        record {
          inputs = lift_input (input wrapper k) so.inputs;
          are = sym (fold_more h ∙ rw test);
          kept = rw d (record { kept = so.kept.kept; made = so.kept.made });
          count = c ∙ so.count;
          few = omega arith;
          size = omega arith;
          entries = entries_more w (old ++ more) (λ j b. get_or-append old more (renumber_to j) j (omega arith))
              (subst (λ z. ShowsInput r entry z)
              (sym (get_or-append_seam old (replace_by (input wrapper k)) [] (renumber_to k))
              ∙ ap (λ z. get_or (old ++ more) z (renumber_to k)) (sym end))
              (replaced (ap value f ∙ value_input wrapper k wraps place) (held_below entry (omega arith))));
          named = named_more w (omega arith);
          left = left_more w;
          len = len_more w;
          aside = so.aside;
          tables = so.tables;
          total_from = so.total_from;
          total_to = omega arith;
        }

    -- Beyond the header's inputs the words have what the definition takes there.
    beyond_so : {y : code.LoopInputs} {ws' : List ℕ} → n ≤ k → y.count ≡ x.count → y.cells ≡ x.cells → entry ≡ region_word held_from r k
        → ws' ≡ set ws k entry → So (k + 1) l₁ ws' y
    beyond_so {y} h c d f w =
        let same : take (k + 1) vals ≡ take k vals = take_all (k + 1) vals (omega arith) ∙ sym (take_all k vals (omega arith)) in
        let all : length (take k vals) ≡ length vals = ap length (take_all k vals (omega arith)) in
        let s = so.size in
        let few = so.few in
        let to = so.total_to in
        let is = f ∙ word_is r k header place held_from in
        record {
          inputs = so.inputs;
          are = rw same so.are;
          kept = rw d so.kept;
          count = c ∙ so.count;
          few = omega arith;
          size = rw same so.size;
          entries = entries_more w so.inputs.rewrites (λ j b. refl)
              (rw (get_or-eq_default so.inputs.rewrites (renumber_to k) {n = k} (omega arith))
              (renumbered (ap value f ∙ value_held r k header place)));
          named = named_more w (omega arith);
          left = left_more w;
          len = len_more w;
          aside = so.aside;
          tables = so.tables;
          total_from = so.total_from;
          total_to = omega arith;
        }

    -- Kept, and renumbered.
    kept_so : {l' ws' : List ℕ} {y : code.LoopInputs} → k < n → (get_or ws k 0 ≡ region_word input_from r k → ⊥)
        → KeepsInput r wrapper k (get_or ws k 0) x l₁ l' y → entry ≡ y.entry → ws' ≡ set ws k entry → So (k + 1) l' ws' y
    kept_so {l'} {ws'} {y} h d step f w =
        let v = get_or vals k (undef 0) in
        let t = length-take-le k vals (omega arith) in
        let u = length-take-le (k + 1) vals (omega arith) in
        let old = so.inputs.rewrites in
        let number = length so.inputs.initial_inputs in
        let more = renumber_to number ∷ [] in
        let s = so.size in
        let c = so.count in
        let many = length-append old more in
        let kept_many = length-append so.inputs.initial_inputs (input wrapper k ∷ []) in
        let end : k ≡ length old = omega arith in
        let test : same_value v (input r k) ≡ false =
        ap (λ z. same_value z (input r k)) (sym (here h)) ∙ unchanged_test r k header place (get_or ws k 0)
        ∙ ne_eqb (get_or ws k 0) (region_word input_from r k) d in
        let few = so.few in
        let from = so.total_from in
        let to = so.total_to in
        let words = so.aside.made_stays.front.words in
        let free_cell : word l₁ head cells_at < most_cells = omega arith in
        let fits : used ≤ length l₁ = omega arith in
        let inputs = keep_input (input wrapper k) (get_or (region g r).inputs k 0) v so.inputs in
        let total = cell_total step.cell free_cell fits in
        let handle = cell_handle step.cell free_cell fits in
        let is : entry ≡ region_word held_from r number = f ∙ step.entry ∙ ap (region_word held_from r) c in
        let small : number < 4 = omega arith in
        let is_IsWord = is ∙ word_is r number header small held_from in
        let counted = step.count in
        record {
          inputs = inputs;
          are = sym (fold_more h ∙ rw test);
          kept = kept_added free_cell fits so.inputs inputs step.cell place wraps so.kept (here h) refl refl refl;
          count = omega arith;
          few = omega arith;
          size = omega arith;
          entries = entries_more w (old ++ more) (λ j b. get_or-append old more (renumber_to j) j (omega arith))
              (subst (λ z. ShowsInput r entry z)
              (sym (get_or-append_seam old (renumber_to number) [] (renumber_to k))
              ∙ ap (λ z. get_or (old ++ more) z (renumber_to k)) (sym end))
              (renumbered (ap value is ∙ value_held r number header small)));
          named = named_more w (omega arith);
          left = left_more w;
          len = len_more w;
          aside = aside_then so.aside (cell_aside step.cell free_cell fits g);
          tables = same_then so.tables (cell_tables step.cell free_cell fits);
          total_from = omega arith;
          total_to = omega arith;
        }

  input_turn : {k i : ℕ} {l₁ ws l' ws' : List ℕ} {x y : code.LoopInputs} → So k l₁ ws x → k < 4
      → TakesInput r wrapper n k (get_or ws k 0) x l₁ l' y
      → i ≡ k + 1 → ws' ≡ set ws k y.entry → So i l' ws' y
  input_turn {k} {i} {l₁} {ws} {l'} {ws'} {x} {y} so h (lifted a b c d e f) at w =
      subst (λ z. So z l' ws' y) (sym at)
      (subst (λ z. So (k + 1) z ws' y) (sym c) (lifted_so so h y.entry a b d e f w))
  input_turn {k} {i} {l₁} {ws} {l'} {ws'} {x} {y} so h (kept a b c) at w =
      subst (λ z. So z l' ws' y) (sym at) (kept_so so h y.entry a b c refl w)
  input_turn {k} {i} {l₁} {ws} {l'} {ws'} {x} {y} so h (beyond a b c d e) at w =
      subst (λ z. So z l' ws' y) (sym at)
      (subst (λ z. So (k + 1) z ws' y) (sym b) (beyond_so so h y.entry a c d e w))

  pub taken_to : {k : ℕ} {l₁ ws : List ℕ} {x : code.LoopInputs} → k ≤ 4 → TakesFrom r wrapper n k l vs l₁ ws x → So k l₁ ws x
  taken_to {k} {l₁} {ws} {x} h (none_taken e f w c d) =
      subst (λ z. So z l₁ ws x) (sym e) (subst (λ z. So 0 z ws x) (sym f) (subst (λ z. So 0 l z x) (sym w) (none_so c d)))
  taken_to {k} h (one_taken made step at w) =
      input_turn (taken_to (omega arith) made) (omega arith) step at w
