-- The values that a back edge passes, looked up in turn: for every state that the words show, as the definition has them.
use Rattle.std.specs.Prelude.{◌≡◌, refl, List, [], ◌∷◌, ◌++◌, ℕ, ◌+◌, ◌≤◌, ◌<◌, length, get_or, set, take}
use Rattle.std.proofs.Common.{sym, ap, ◌∙◌, subst, arith, add-one, length-set, length-append, take_all, take-suc, length-take-le, get_or-set_same, get_or-set_other}
use Rattle.std.proofs.Math.Decide.{dec_lt}
use Rattle.std.proofs.Math.ListN.{get_or-append}
use Rattle.std.proofs.Math.Seq.{get_or-append_seam}
use Rattle.meaning.specs.Graph.{Value, undef}
use Rattle.nesting.specs.Nesting as nesting
use Rattle.nesting.specs.Nesting.{NestState, done, rewrite_values, with_twice}
use Rattle.nesting.specs.lookups.ChainEnds.{ChainsEnd}
use Rattle.state_words.specs.Sections.{head}
use Rattle.state_shown.specs.Values.{value}
use Rattle.state_shown.specs.laws.Stores.{ChangesOnly, nothing_changes, changes_then}
use Rattle.state_shown.specs.Tables.{ShowsTables}
use Rattle.cfg_lookups.specs.LookUps.{Rewrites}
use Rattle.cfg_lookups.specs.laws.shown.Shown.{rewrite_shown, rewrite_changes, rewrite_none, rewrite_more}
use Rattle.cfg_loops.specs.Inputs.{RewritesValue, looked_up, left_as_is, RewritesValues, none_yet, one_more}
use Rattle.state_words.specs.Rows.{twice_at}

-- The first k words of vs stand for the first values of vals, and were looked up: l₁ and us are the words then.
pub record Rewritten (k : ℕ) (l vs l₁ us : List ℕ) (vals : List Value) (s : NestState) : Type 0 where
  pub state : NestState
  pub tables : ShowsTables l₁ state
  pub same_log : state.region_input_rewrites ≡ s.region_input_rewrites
  pub same_states : state.region_states ≡ s.region_states
  pub changes : ChangesOnly head twice_at l l₁
  pub len : length us ≡ length vs
  pub values : List Value
  pub count : length values ≡ length (take k vals)
  pub step : rewrite_values (take k vals) s ≡ done values state
  pub each : (j : ℕ) → j < length values → value (get_or us j 0) ≡ get_or values j (undef 0)
  pub left : (j : ℕ) → k ≤ j → get_or us j 0 ≡ get_or vs j 0

module _ {n : ℕ} {vals : List Value} {s : NestState} (size : n ≡ length vals) (all : (r : ℕ) → ChainsEnd s.region_input_rewrites r) where
  beyond_values : {k : ℕ} {l vs l₁ us us' : List ℕ} (x : Rewritten k l vs l₁ us vals s) → n ≤ k → us' ≡ set us k (get_or us k 0)
      → Rewritten (k + 1) l vs l₁ us' vals s
  beyond_values {k} {us} x h e =
      let same : take (k + 1) vals ≡ take k vals = take_all (k + 1) vals (omega arith) ∙ sym (take_all k vals (omega arith)) in
      let few : length (take k vals) ≡ length vals = ap length (take_all k vals (omega arith)) in
      let c = x.count in
      record {
        state = x.state;
        tables = x.tables;
        same_log = x.same_log;
        same_states = x.same_states;
        changes = x.changes;
        len = ap length e ∙ length-set us k (get_or us k 0) ∙ x.len;
        values = x.values;
        count = rw same x.count;
        step = rw same x.step;
        each = λ j b. ap (λ z. value (get_or z j 0)) e ∙ ap value (get_or-set_other us k j (get_or us k 0) 0 (omega arith)) ∙ x.each j b;
        left = λ j b. ap (λ z. get_or z j 0) e ∙ get_or-set_other us k j (get_or us k 0) 0 (omega arith) ∙ x.left j (omega arith);
      }

  next_value : {k a : ℕ} {l vs l₁ us l' us' : List ℕ} (x : Rewritten k l vs l₁ us vals s) → k < n → k < length vs
      → value (get_or vs k 0) ≡ get_or vals k (undef 0) → Rewrites l₁ (get_or us k 0) l' a → us' ≡ set us k a
      → Rewritten (k + 1) l vs l' us' vals s
  next_value {k} {a} {vs} {us} x h room is step e =
      let ends : (r : ℕ) → ChainsEnd x.state.region_input_rewrites r = rw x.same_log all in
      let found = nesting.look_up x.state.region_input_rewrites (value (get_or us k 0)) in
      let y = rewrite_shown x.tables ends step in
      let here : value (get_or us k 0) ≡ get_or vals k (undef 0) = ap value (x.left k (omega arith)) ∙ is in
      let more : take (k + 1) vals ≡ take k vals ++ (get_or vals k (undef 0) ∷ []) =
      ap (λ z. take z vals) (add-one k) ∙ take-suc vals k (undef 0) (omega arith) in
      let c : length x.values ≡ k = x.count ∙ length-take-le k vals (omega arith) in
      let grown = length-append x.values (value a ∷ []) in
      let l = x.len in
      record {
        state = with_twice found.twice x.state;
        tables = y.1;
        same_log = x.same_log;
        same_states = x.same_states;
        changes = changes_then x.changes (rewrite_changes x.tables ends step);
        len = ap length e ∙ length-set us k a ∙ x.len;
        values = x.values ++ (value a ∷ []);
        count = (let z = length-take-le (k + 1) vals (omega arith) in omega arith);
        step = rw more (rewrite_more (take k vals) x.values (get_or vals k (undef 0)) (value a) s x.state
            (with_twice found.twice x.state) x.step (ap (λ z. rewrite_values (z ∷ []) x.state) (sym here) ∙ y.0));
        each = λ j b. elim (dec_lt j k) [
          | yes lt ↦ ap (λ z. value (get_or z j 0)) e ∙ ap value (get_or-set_other us k j a 0 (omega arith)) ∙ x.each j (omega arith)
              ∙ sym (get_or-append x.values (value a ∷ []) (undef 0) j (omega arith))
          | no ge ↦ (
              let at : j ≡ k = omega arith in
              let end : k ≡ length x.values = sym c in
              ap (λ z. value (get_or z j 0)) e ∙ ap (λ z. value (get_or (set us k a) z 0)) at
              ∙ ap value (get_or-set_same us k a 0 (omega arith)) ∙ sym (get_or-append_seam x.values (value a) [] (undef 0))
              ∙ ap (λ z. get_or (x.values ++ (value a ∷ [])) z (undef 0)) (sym end ∙ sym at))
        ];
        left = λ j b. ap (λ z. get_or z j 0) e ∙ get_or-set_other us k j a 0 (omega arith) ∙ x.left j (omega arith);
      }

  value_turn : {k i a : ℕ} {l vs l₁ us l' us' : List ℕ} → n ≤ length vs
      → ((j : ℕ) → j < n → value (get_or vs j 0) ≡ get_or vals j (undef 0)) → (x : Rewritten k l vs l₁ us vals s)
      → RewritesValue n k (get_or us k 0) l₁ l' a → i ≡ k + 1 → us' ≡ set us k a → Rewritten i l vs l' us' vals s
  value_turn {k} {i} {a} {l} {vs} {l₁} {us} {l'} {us'} room is x (looked_up h step) at g =
      subst (λ z. Rewritten z l vs l' us' vals s) (sym at) (next_value x h (omega arith) (is k h) step g)
  value_turn {k} {i} {a} {l} {vs} {l₁} {us} {l'} {us'} room is x (left_as_is h e f) at g =
      subst (λ z. Rewritten z l vs l' us' vals s) (sym at)
      (subst (λ z. Rewritten (k + 1) l vs z us' vals s) (sym e) (beyond_values x h (g ∙ ap (set us k) f)))

  no_value_yet : {k : ℕ} {l vs : List ℕ} → ShowsTables l s → k ≡ 0 → Rewritten k l vs l vs vals s
  no_value_yet {k} {l} t e =
      let none : take k vals ≡ [] = ap (λ z. take z vals) e in
      record {
        state = s;
        tables = t;
        same_log = refl;
        same_states = refl;
        changes = nothing_changes head twice_at l;
        len = refl;
        values = [];
        count = rw none refl;
        step = rw none (rewrite_none s);
        each = λ j b. absurd (omega arith);
        left = λ j b. refl;
      }

  -- Place by place.
  pub rewritten_to : {k : ℕ} {l vs l₁ us : List ℕ} → ShowsTables l s → n ≤ length vs
      → ((j : ℕ) → j < n → value (get_or vs j 0) ≡ get_or vals j (undef 0)) → RewritesValues n k l vs l₁ us → Rewritten k l vs l₁ us vals s
  rewritten_to {k} {l} {vs} {l₁} {us} t room is (none_yet e f h) =
      subst (λ z. Rewritten k l vs z us vals s) (sym f) (subst (λ z. Rewritten k l vs l z vals s) (sym h) (no_value_yet t e))
  rewritten_to t room is (one_more made step at g) = value_turn room is (rewritten_to t room is made) step at g
