-- A loop over all outputs from the last on, which passes those of other nodes: what it put and counted are the definition's lists of the
-- node's own outputs, of values for a case and of types for the select.
use Rattle.std.specs.Prelude.{◌≡◌, Bool, List, [], ◌∷◌, map, get_or}
use Rattle.std.proofs.Math.Path.{refl, sym, ap}
use Rattle.std.proofs.Common.{◌∙◌, take_all}
use Rattle.std.proofs.Math.Bool.{true, false}
use Prim.Native.Nat.{ℕ, suc, ◌+◌, ◌-◌, ◌≤◌, ◌<◌}
use native.Mathlib.Omega.{arith}
use Rattle.std.proofs.Math.ListN.{length}
use Rattle.std.proofs.lemmas.List.{length-map}
use Rattle.std.proofs.Math.Dec.{eqb}
use Rattle.std.proofs.Math.Nat.{min-eq_left}
use borrow.Author.Tests.{eq-eqb, ne_eqb, eqb-true}
use Rattle.meaning.specs.Lists.{filter, pick, times_in}
use Rattle.meaning.specs.Graph.{Value, undef}
use Rattle.nesting.specs.Nesting.{NestState, NodeOutput, plain, case_outputs, output_decls}
use Rattle.state_words.specs.Sections.{word, head}
use Rattle.state_shown.specs.Tables.{ShowsTables, no_output}
use Rattle.sheet_words.specs.declared.place.Place.{Place}
use Rattle.sheet_words.specs.PutInFront.{Part, Puts}
use Rattle.sheet_words.specs.laws.PutInFrontLaws.{◌⊕◌, puts_then, puts_none, puts_as}
use Rattle.sheet_words.specs.laws.Rows.{run, run_turn, run_all, run_list}
use Rattle.sheet_words.specs.Parts.{OfState, each, output_nodes, value_part}
use Rattle.sheet_words.specs.Outputs.{node_times}
use Rattle.sheet_words.specs.laws.ValueShown.{place_shown}
use Rattle.sheet_words.specs.laws.PartLaws.{values_counted, each_map}
use Rattle.sheet_selects.specs.SelectParts.{output_types}
use Rattle.sheet_selects.specs.OwnOutputs.{ValuesShown, PutsCaseOutputs, PutsOutputTypes, own, case_value, type_word}
use Rattle.state_words.specs.Rows.{output_node, outputs_at}

-- So they have at all eight places.
pub values_shown : {w : List ℕ} {s : NestState} {node j : ℕ} → ShowsTables w s → j < 8 → ValuesShown w s node j
values_shown {j = j} t few o h e = (t.outputs_shown o h).values.each j few

module _ (w : List ℕ) (node : ℕ) (f : ℕ → Part) (n k : ℕ) {x : ℕ} (is : x ≡ output_node w (k - 1)) {out₀ out : List ℕ}
    {at₀ at : Place} (some : 0 < k) (within : k ≤ n) (before : Puts out₀ at₀ (run (own w node f) k (n - k)) out at) where
  pub own_put : x ≡ node → {out' : List ℕ} {at' : Place} → Puts out at (f (k - 1)) out' at'
      → Puts out₀ at₀ (run (own w node f) (k - 1) (n - (k - 1))) out' at'
  unfolding own
  own_put e p =
      run_turn (own w node f) n k some within before
      (puts_as p (rw (eq-eqb node (output_node w (k - 1)) (sym e ∙ is))))

  pub other_passed : (x ≡ node → ⊥) → {out' : List ℕ} {at' : Place} → out' ≡ out → at' ≡ at
      → Puts out₀ at₀ (run (own w node f) (k - 1) (n - (k - 1))) out' at'
  unfolding own
  other_passed d e f' =
      rw (e, f') (run_turn (own w node f) n k some within before
      (puts_as (puts_none out at) (rw (ne_eqb node (output_node w (k - 1)) (λ z. d (is ∙ sym z))))))

module _ (w : List ℕ) (node n k c : ℕ) {x : ℕ} (is : x ≡ output_node w (k - 1)) (some : 0 < k)
    (before : node_times w node n ≡ node_times w node k + c) where
  pub own_counted : x ≡ node → {c' : ℕ} → c' ≡ c + 1 → node_times w node n ≡ node_times w node (k - 1) + c'
  unfolding node_times
  own_counted e d =
      let z : k ≡ suc (k - 1) = omega arith in
      let step : node_times w node k ≡ node_times w node (k - 1) + 1 = ap (node_times w node) z ∙ rw (← is, eq-eqb x node e) in
      omega arith

  pub other_not_counted : (x ≡ node → ⊥) → {c' : ℕ} → c' ≡ c → node_times w node n ≡ node_times w node (k - 1) + c'
  unfolding node_times
  other_not_counted e d =
      let z : k ≡ suc (k - 1) = omega arith in
      let step : node_times w node k ≡ node_times w node (k - 1) + 0 = ap (node_times w node) z ∙ rw (← is, ne_eqb x node e) in
      omega arith

-- ---- All of them, as the definition has them.
abbrev own_outputs : NestState → ℕ → List NodeOutput
own_outputs s node = filter (λ o. eqb node o.node) s.node_outputs

times_filtered : (node : ℕ) (os : List NodeOutput) → times_in node (map (λ (o : NodeOutput). o.node) os)
    ≡ length (filter (λ o. eqb node o.node) os)
times_filtered node [] = refl
times_filtered node (o ∷ os) = by (eqb node o.node) _ (times_filtered node os)
  where
    by : (b : Bool) (xs : List NodeOutput) {n : ℕ} → n ≡ length xs → pick b 1 0 + n ≡ length (pick b (o ∷ xs) xs)
    by true xs e = omega arith
    by false xs e = omega arith

each_filtered : {A : Type 0} (p : A → Bool) (f : A → Part) (xs : List A)
    → each (λ x. pick (p x) (f x) (plain [])) xs ≡ each f (filter p xs)
each_filtered p f [] = refl
each_filtered {A} p f (x ∷ xs) = by (p x) _ (each_filtered p f xs)
  where
    by : (b : Bool) (ys : List A) {r : Part} → r ≡ each f ys → pick b (f x) (plain []) ⊕ r ≡ each f (pick b (x ∷ ys) ys)
    by true ys e = ap (λ (r : Part). f x ⊕ r) e
    by false ys e = e

each_word : {A : Type 0} (h : A → ℕ) (xs : List A) → each (λ x. plain (h x ∷ [])) xs ≡ plain (map h xs)
each_word h [] = refl
each_word h (x ∷ xs) = ap (λ (r : Part). plain (h x ∷ []) ⊕ r) (each_word h xs)

decl_types : (node k : ℕ) (os : List NodeOutput) → map (λ o. o.type) (output_decls node k os)
    ≡ map (λ (o : NodeOutput). o.type) (filter (λ o. eqb node o.node) os)
decl_types node k [] = refl
decl_types node k (o ∷ os) = by (eqb node o.node) (decl_types node (suc k) os)
  where
    by : (b : Bool) → map (λ o. o.type) (output_decls node (suc k) os)
        ≡ map (λ (o : NodeOutput). o.type) (filter (λ o. eqb node o.node) os)
        → map (λ o. o.type) (pick b (record { number = k; type = o.type } ∷ output_decls node (suc k) os) (output_decls node (suc k) os))
        ≡ map (λ (o : NodeOutput). o.type) (pick b (o ∷ filter (λ o. eqb node o.node) os) (filter (λ o. eqb node o.node) os))
    by true e = rw e
    by false e = e

module _ {w : List ℕ} {s : NestState} (t : ShowsTables w s) (node : ℕ) where
  all_counted : node_times w node (word w head outputs_at) ≡ length (own_outputs s node)
  all_counted =
      let n = word w head outputs_at in
      let size : length (output_nodes s) ≡ length s.node_outputs = length-map s.node_outputs (λ (o : NodeOutput). o.node) in
      let total = t.output_total in
      let all = place_shown t node n in
      (rw (min-eq_left {n = n} {m = n} (omega arith)) at all) ∙ rw (take_all n (output_nodes s) (omega arith)) (times_filtered node s.node_outputs)

  own_is : (f : ℕ → Part) (h : NodeOutput → Part)
      → ((o : ℕ) → o < length s.node_outputs → (get_or s.node_outputs o no_output).node ≡ node
      → f o ≡ h (get_or s.node_outputs o no_output))
      → run (own w node f) 0 (word w head outputs_at) ≡ each h (own_outputs s node)
  unfolding own
  own_is f h same =
      run_list (own w node f) (λ x. pick (eqb node x.node) (h x) (plain [])) no_output (word w head outputs_at) s.node_outputs
      t.output_total (λ o l. rw (t.outputs_shown o l).node (by o l (eqb node (get_or s.node_outputs o no_output).node) refl))
      ∙ each_filtered (λ x. eqb node x.node) h s.node_outputs
    where
      by : (o : ℕ) → o < length s.node_outputs → (b : Bool) → eqb node (get_or s.node_outputs o no_output).node ≡ b
          → pick b (f o) (plain []) ≡ pick b (h (get_or s.node_outputs o no_output)) (plain [])
      by o l true e = same o l (sym (eqb-true node (get_or s.node_outputs o no_output).node e))
      by o l false e = refl

count_is : {w : List ℕ} {s : NestState} → ShowsTables w s → (node : ℕ) {total k : ℕ} (c : ℕ) → total ≡ word w head outputs_at → k ≤ 0
    → node_times w node total ≡ node_times w node k + c → c ≡ length (own_outputs s node)
unfolding node_times
count_is {w} t node {k = k} c all none counted =
    let z : k ≡ 0 = omega arith in
    let e : node_times w node (word w head outputs_at) ≡ 0 + c = rw (all, z) at counted in
    omega (arith, all_counted t node)

module _ (w : List ℕ) (node : ℕ) {total k : ℕ} (c : ℕ) (all : total ≡ word w head outputs_at) (none : k ≤ 0)
    (counted : node_times w node total ≡ node_times w node k + c) {out₀ out out' : List ℕ} {at₀ at at' : Place}
    (count : Puts out at (plain (c ∷ [])) out' at') where
  pub case_outputs_put : (j : ℕ) → OfState w (λ g s. Puts out₀ at₀ (run (own w node (case_value w j s)) k (total - k)) out at)
      → PutsCaseOutputs w node j out₀ at₀ out' at'
  case_outputs_put j before g s x shown =
      let t = x.state.tables in
      let value_at : NodeOutput → Value = λ o. get_or o.values j (undef 0) in
      let f = case_value w j s in
      let parts : run (own w node f) 0 (word w head outputs_at) ≡ each (value_part s) (case_outputs node j s.node_outputs) =
      own_is t node f (λ o. value_part s (value_at o)) (λ o l e. ap (value_part s) (shown o l e))
      ∙ sym (each_map (value_part s) value_at (own_outputs s node)) in
      let size = length-map (own_outputs s node) value_at in
      puts_as (puts_then (run_all (own w node f) total k none (before g s x)) count)
      (rw (all, parts, values_counted s (case_outputs node j s.node_outputs), count_is t node c all none counted, size))

  pub output_types_put : Puts out₀ at₀ (run (own w node (type_word w)) k (total - k)) out at → PutsOutputTypes w node out₀ at₀ out' at'
  output_types_put before g s x =
      let t = x.state.tables in
      let type_of : NodeOutput → ℕ = λ o. o.type in
      let types = decl_types node 0 s.node_outputs in
      let parts : run (own w node (type_word w)) 0 (word w head outputs_at) ≡ plain (output_types s node) =
      own_is t node (type_word w) (λ o. plain (type_of o ∷ [])) (λ o l e. rw (t.outputs_shown o l).type)
      ∙ each_word type_of (own_outputs s node) ∙ ap (λ (l : List ℕ). plain l) (sym types) in
      let size : length (output_types s node) ≡ length (own_outputs s node) = ap length types ∙ length-map (own_outputs s node) type_of in
      puts_as (puts_then (run_all (own w node (type_word w)) total k none before) count)
      (rw (all, parts, count_is t node c all none counted, size))
