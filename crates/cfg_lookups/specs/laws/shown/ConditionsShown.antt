-- For every state that the words show, a condition is made real as the definition has it: the same value, the same new outputs, the same
-- refusal.
use Rattle.std.specs.Prelude.{◌≡◌, refl, Bool, true, false, List, [], ◌∷◌, ◌++◌, ℕ, suc, ◌+◌, ◌≤◌, ◌<◌, get_or, set, replicate, eqb}
use Rattle.std.proofs.Common.{sym, ap, ◌∙◌, append_assoc, append-nil, arith, length-set, length-append, get_or-set_same, get_or-set_other, lt-ltb, eq-eqb, ne_eqb}
use Rattle.std.proofs.Math.Bool.{and-true}
use Rattle.std.proofs.Math.Decide.{dec_lt}
use Rattle.std.proofs.Math.ListN.{length, get_or-append, get_or-eq_default}
use Rattle.std.proofs.lemmas.List.{get_or-replicate}
use Rattle.std.proofs.Math.Seq.{get_or-append_seam}
use Rattle.meaning.specs.Graph.{Value, SelectionKind, bool_cond, number, bool, undef, output, same_value, same_values}
use Rattle.meaning.specs.facts.Tests.{clash, pick_and}
use Rattle.nesting.specs.Nesting.{LazyCond, LazyConds, no_conds, ◌&◌, merge, true_cond, false_cond, undef_cond, NestState, StepAnswer, done}
use Rattle.nesting.specs.Nesting.{turned_away, follow, give, materialize_lazy_cond, materialize_lazy_conds, define_output}
use Rattle.nesting.specs.Nesting.{most_outputs}
use Rattle.std.specs.Prelude.{Ok}
use Rattle.state_words.specs.Totals.{Defined, Full}
use Rattle.state_words.specs.Sections.{conditions, cells, outputs}
use Rattle.state_words.specs.Values.{output_word, undef_word, true_word, false_word}
use Rattle.state_nodes.specs.NodeTables.{earlier_part, shape_size, select_word, OutputDefined, output_defined, outputs_full}
use Rattle.state_shown.specs.Values.{value}
use Rattle.state_shown.specs.laws.ValueWords.{equal_values, value_output, value_undef, value_beyond}
use Rattle.state_shown.specs.laws.Stores.{ChangesOnly, nothing_changes, changes_then}
use Rattle.state_shown.specs.Tables.{ShowsValues, ShowsShape, shape_bool, shape_number, cond_count, ShowsCond, shows_true, shows_false}
use Rattle.state_shown.specs.Tables.{shows_undef, shows_merge, ShowsConds, no_parts, part_and, ShowsCondition, ShowsTables, ShowsDefined}
use Rattle.state_shown.specs.Tables.{shows_done, shows_full}
use Rattle.state_shown.specs.laws.DefinedShown.{done_of, full_of}
use Rattle.state_shown.specs.laws.Steps.{output_made, output_changes}
use Rattle.state_shown.specs.laws.Conditions.{shape_cases, few_cases, cond_same}
use Rattle.cfg_lookups.specs.Materialized.{is_scrutinee, shape_at, part_at, Merges, the_scrutinee, new_output, no_output}
use Rattle.cfg_lookups.specs.Materialized.{Materializes}
use Rattle.cfg_lookups.specs.Materialized.{made_true, made_false, made_undef, made_merge, full_part, PartsMade, no_part, part_more}
use Rattle.cfg_lookups.specs.laws.paths.MaterializedLaws.{few_parts}
use Rattle.meaning.specs.Lists.{pick}
use Rattle.format.specs.Refusals.{too_many}
use Rattle.state_words.specs.Values.{parts, undef_from}
use Rattle.state_words.specs.Rows.{cells_at, merge_node, merge_part, merge_scrutinee, outputs_at, bool_shape, condition_true, merges_from}
use Rattle.state_words.specs.Rows.{condition_false}

-- ---- What a step answers, and what it leaves.
pub record ShowsValue (l l' : List ℕ) (a : Defined) (b : StepAnswer Value) : Type 0 where
  pub answer : ShowsDefined (λ x v. value x ≡ v) l' a b
  pub changes : ChangesOnly outputs outputs_at l l'

follow_give : (x : StepAnswer (List Value)) → x ≡ follow x (λ us. give ([] ++ us))
follow_give (done us s) = refl
follow_give (turned_away n w) = refl

follow_cons : (vs : List Value) (v : Value) (x : StepAnswer (List Value))
    → follow (follow x (λ us. give (v ∷ us))) (λ us. give (vs ++ us)) ≡ follow x (λ us. give ((vs ++ (v ∷ [])) ++ us))
follow_cons vs v (done us s) = ap (λ l. done l s) (sym (append_assoc vs (v ∷ []) us))
follow_cons vs v (turned_away n w) = refl

-- ---- [true, false] in words and in values.
value_true : value true_word ≡ bool true
unfolding value
value_true = refl

value_false : value false_word ≡ bool false
unfolding value
value_false = refl

abbrev pub is_test : SelectionKind → List Value → Bool
is_test kind vs = elim kind [ bool_cond ↦ same_values vs (bool true ∷ bool false ∷ []) | number ↦ false ]

scrutinee_pair : (ws : List ℕ) (vs : List Value) → length vs ≡ 2 → ((k : ℕ) → k < length vs → value (get_or ws k 0) ≡ get_or vs k (undef 0))
    → pick (eqb (get_or ws 0 0) true_word) (eqb (get_or ws 1 0) false_word) false ≡ same_values vs (bool true ∷ bool false ∷ [])
scrutinee_pair ws [] n h = absurd (omega arith)
scrutinee_pair ws (u ∷ []) n h = absurd (omega arith)
scrutinee_pair ws (u ∷ v ∷ w ∷ vs) n h = absurd (omega arith)
scrutinee_pair ws (u ∷ v ∷ []) n h =
    let a : same_value u (bool true) ≡ eqb (get_or ws 0 0) true_word = ap (λ z. same_value z (bool true)) (sym (h 0 (omega arith)))
    ∙ ap (λ z. same_value (value (get_or ws 0 0)) z) (sym value_true) ∙ equal_values (get_or ws 0 0) true_word (omega arith) in
    let b : same_value v (bool false) ≡ eqb (get_or ws 1 0) false_word = ap (λ z. same_value z (bool false)) (sym (h 1 (omega arith)))
    ∙ ap (λ z. same_value (value (get_or ws 1 0)) z) (sym value_false) ∙ equal_values (get_or ws 1 0) false_word (omega arith) in
    rw (a, b, and-true) (pick_and (eqb (get_or ws 0 0) true_word) (eqb (get_or ws 1 0) false_word))

scrutinee_shown : (shape : ℕ) (ws : List ℕ) (vs : List Value) {kind : SelectionKind} → ShowsShape shape (length vs) kind
    → ((k : ℕ) → k < length vs → value (get_or ws k 0) ≡ get_or vs k (undef 0)) → is_scrutinee shape ws ≡ is_test kind vs
unfolding is_scrutinee
scrutinee_shown shape ws vs (shape_bool e n) h = rw (eq-eqb shape bool_shape e) (scrutinee_pair ws vs n h)
scrutinee_shown shape ws vs (shape_number a b n) h = rw (ne_eqb shape bool_shape (omega arith))

-- ---- The values put together.
module _ (l : List ℕ) (c : ℕ) (ws l' : List ℕ) {s : NestState} (t : ShowsTables l s) {n : ℕ} {kind : SelectionKind} {v : Value}
    (vs : List Value)
    (node : merge_node l c ≡ n) (shape : ShowsShape (shape_at l c) (length vs) kind) (scrutinee : value (merge_scrutinee l c) ≡ v)
    (len : length ws ≡ 8) (each : (k : ℕ) → k < length vs → value (get_or ws k 0) ≡ get_or vs k (undef 0))
    (beyond : (k : ℕ) → length vs ≤ k → k < 8 → get_or ws k 0 ≡ undef_from) where
  abbrev put_together : StepAnswer Value
  put_together = pick (is_test kind vs) (give v) (define_output n 1 vs) s

  shown_words : ShowsValues ws 0 vs
  shown_words = record { few = few_cases shape; each = λ j h. let z : 0 + j ≡ j = omega arith in rw z (at j h) }
    where
      at : (j : ℕ) → j < 8 → value (get_or ws j 0) ≡ get_or vs j (undef 0)
      at j h = elim (dec_lt j (length vs)) [
        | yes l ↦ each j l
        | no l ↦ ap value (beyond j (omega arith) h) ∙ value_beyond ∙ sym (get_or-eq_default vs (undef 0) (omega arith))
      ]

  as_value : {a : Defined} {b : StepAnswer Value} → ShowsDefined (λ o u. u ≡ output o) l' a b → {o x : ℕ} → a ≡ Ok o → o < most_outputs
      → x ≡ output_word o
      → ShowsDefined (λ y u. value y ≡ u) l' (Ok x) b
  as_value d {o} {x} e h p =
      let r = done_of d e in
      rw r.is (shows_done {x = x} {a = r.value} {s = r.state} (ap value p ∙ value_output o h ∙ sym r.shows) r.tables)

  pub merges_shown : {a : Defined} → Merges l c ws l' a → ShowsValue l l' a put_together
  merges_shown (the_scrutinee e x p) =
      let test : is_test kind vs ≡ true = sym (scrutinee_shown (shape_at l c) ws vs shape each) ∙ e in
      rw (test, p) (record { answer = shows_done (ap value x ∙ scrutinee) t; changes = nothing_changes outputs outputs_at l })
  merges_shown (new_output {o} e d x) =
      let test : is_test kind vs ≡ false = sym (scrutinee_shown (shape_at l c) ws vs shape each) ∙ e in
      let made = rw node at d in
      rw test (record { answer = as_value (output_made t len shown_words made) refl (below made refl) x; changes = output_changes made })
    where
      below : {n : ℕ} {a : Defined} → OutputDefined n 1 ws l l' a → {o : ℕ} → a ≡ Ok o → o < most_outputs
      below (output_defined {o} p h e) {o = q} r = let same : o ≡ q = cc in rw same at h
      below (outputs_full h e) r = absurd (clash (cc))
  merges_shown (no_output e d) =
      let test : is_test kind vs ≡ false = sym (scrutinee_shown (shape_at l c) ws vs shape each) ∙ e in
      let made = rw node at d in
      rw (test, full_of (output_made t len shown_words made) refl) (record { answer = shows_full; changes = output_changes made })

-- ---- The parts of a record, in turn: the definition's fold over them, as far as it went.
record PartsShown (l : List ℕ) (c j : ℕ) (l₁ ws : List ℕ) (ts : LazyConds) (s : NestState) : Type 0 where
  state : NestState
  tables : ShowsTables l₁ state
  changes : ChangesOnly outputs outputs_at l l₁
  len : length ws ≡ 8
  values : List Value
  count : length values ≡ j
  each : (k : ℕ) → k < j → value (get_or ws k 0) ≡ get_or values k (undef 0)
  beyond : (k : ℕ) → j ≤ k → k < 8 → get_or ws k 0 ≡ undef_from
  rest : LazyConds
  left : ShowsConds l c j rest
  total : j + cond_count rest ≡ cond_count ts
  goes_on : materialize_lazy_conds ts s ≡ follow (materialize_lazy_conds rest state) (λ us. give (values ++ us))

follow_part : (t : LazyCond) (rest : LazyConds) (s s' : NestState) (vs : List Value) (v : Value) → materialize_lazy_cond t s ≡ done v s'
    → follow (materialize_lazy_conds (t & rest) s) (λ us. give (vs ++ us)) ≡ follow (materialize_lazy_conds rest s')
    (λ us. give ((vs ++ (v ∷ [])) ++ us))
unfolding materialize_lazy_cond
follow_part t rest s s' vs v e = rw e (follow_cons vs v (materialize_lazy_conds rest s'))

-- An output more leaves the conditions, and their selects.
cond_by : {l l₁ : List ℕ} → ChangesOnly outputs outputs_at l l₁ → {c : ℕ} {t : LazyCond} → ShowsCond l c t → ShowsCond l₁ c t
cond_by g x = cond_same (g.others conditions (omega arith) (omega arith)) (g.others cells (omega arith) (omega arith))
    (g.totals cells_at (omega arith)) x

select_by : {l l₁ : List ℕ} → ChangesOnly outputs outputs_at l l₁ → (c i : ℕ) → select_word l₁ c i ≡ select_word l c i
select_by g c i = rw (g.others conditions (omega arith) (omega arith), g.others cells (omega arith) (omega arith))

-- What a part's own words say it is.
part_is : {l l₁ : List ℕ} (c j p q : ℕ) → ChangesOnly outputs outputs_at l l₁ → p ≡ part_at l₁ c j
    → merge_part l c j ≡ q → q < c → p ≡ q
unfolding earlier_part
part_is c j p q g h e b = h ∙ rw (g.others conditions (omega arith) (omega arith), e, lt-ltb q c b)

module _ {l : List ℕ} {c : ℕ} {ts : LazyConds} {s : NestState} where
  parts_start : {l₁ ws : List ℕ} {j : ℕ} → j ≡ 0 → l₁ ≡ l → ws ≡ replicate 8 undef_from → ShowsConds l c 0 ts → ShowsTables l s
      → PartsShown l c j l₁ ws ts s
  parts_start e f g sc t =
      record {
        state = s;
        tables = rw f t;
        changes = rw f (nothing_changes outputs outputs_at l);
        len = ap length g;
        values = [];
        count = sym e;
        each = λ k h. absurd (omega arith);
        beyond = λ k a b. rw g (get_or-replicate 8 k undef_from 0 b);
        rest = ts;
        left = rw e sc;
        total = omega arith;
        goes_on = follow_give (materialize_lazy_conds ts s);
      }

  parts_next : {l₁ l₂ ws us : List ℕ} {j i p v : ℕ} → j < cond_count ts → cond_count ts ≤ 8 → p ≡ part_at l₁ c j → i ≡ j + 1
      → us ≡ set ws j v
      → ((t : LazyCond) → ShowsCond l₁ p t → (s₁ : NestState) → ShowsTables l₁ s₁
      → ShowsValue l₁ l₂ (Ok v) (materialize_lazy_cond t s₁))
      → (x : PartsShown l c j l₁ ws ts s) (rest : LazyConds) → ShowsConds l c j rest
      → j + cond_count rest ≡ cond_count ts
      → materialize_lazy_conds ts s ≡ follow (materialize_lazy_conds rest x.state) (λ us. give (x.values ++ us))
      → PartsShown l c i l₂ us ts s
  parts_next lt few pe ie ue made x no_conds no_parts total on = absurd (omega arith)
  parts_next {l₁} {l₂} {ws} {us} {j} {i} {p} {v} lt few pe ie ue made x (t & rest) (part_and {p = q} e b sc ps) total on =
      let same : p ≡ q = part_is c j p q x.changes pe e b in
      let r = made t (rw same (cond_by x.changes sc)) x.state x.tables in
      let d = done_of r.answer refl in
      let xs = x.values in
      let n = x.count in
      let y = x.len in
      record {
        state = d.state;
        tables = d.tables;
        changes = changes_then x.changes r.changes;
        len = ap length ue ∙ length-set ws j v ∙ x.len;
        values = xs ++ (d.value ∷ []);
        count = length-append xs (d.value ∷ []) ∙ omega arith;
        each = λ k h. elim (dec_lt k j) [
          | yes lt' ↦ ap (λ z. value (get_or z k 0)) ue ∙ ap value (get_or-set_other ws j k v 0 (omega arith)) ∙ x.each k lt'
              ∙ sym (get_or-append xs (d.value ∷ []) (undef 0) k (omega arith))
          | no ge ↦ (
              let here : k ≡ j = omega arith in
              let end : k ≡ length xs = omega arith in
              ap (λ z. value (get_or z k 0)) ue ∙ ap (λ z. value (get_or (set ws j v) z 0)) here
              ∙ ap value (get_or-set_same ws j v 0 (omega arith)) ∙ d.shows
              ∙ sym (get_or-append_seam xs d.value [] (undef 0)) ∙ ap (λ z. get_or (xs ++ (d.value ∷ [])) z (undef 0)) (sym end))
        ];
        beyond = λ k a b. ap (λ z. get_or z k 0) ue ∙ get_or-set_other ws j k v 0 (omega arith) ∙ x.beyond k (omega arith) b;
        rest = rest;
        left = (let z : i ≡ suc j = omega arith in rw z ps);
        total = omega arith;
        goes_on = on ∙ follow_part t rest x.state d.state xs d.value d.is;
      }

-- ---- A record: all its parts, and then their values put together; or the refusal of a part.
abbrev RecordsParts : List ℕ → ℕ → ℕ → List ℕ → List ℕ → Type 0
RecordsParts l c j l₁ ws =
    (ts : LazyConds) → ShowsConds l c 0 ts → cond_count ts ≡ shape_size (shape_at l c) → (s : NestState)
    → ShowsTables l s → PartsShown l c j l₁ ws ts s

abbrev RecordsCond : List ℕ → ℕ → List ℕ → Defined → Type 0
RecordsCond l c l' a = (t : LazyCond) → ShowsCond l c t → (s : NestState) → ShowsTables l s
    → ShowsValue l l' a (materialize_lazy_cond t s)

-- All parts are made: the definition's fold has come to its end.
all_made : {l l₁ ws : List ℕ} {c j : ℕ} {ts : LazyConds} {s : NestState} → j ≡ cond_count ts
    → (x : PartsShown l c j l₁ ws ts s) (rest : LazyConds) → j + cond_count rest ≡ cond_count ts
    → materialize_lazy_conds ts s ≡ follow (materialize_lazy_conds rest x.state) (λ us. give (x.values ++ us))
    → materialize_lazy_conds ts s ≡ done x.values x.state
unfolding materialize_lazy_cond
all_made e x no_conds n on = on ∙ rw (append-nil x.values)
all_made e x (t & ts) n on = absurd (omega arith)

module _ {l l' : List ℕ} {c : ℕ} where
  true_shown : c ≡ condition_true → l' ≡ l → RecordsCond l c l' (Ok true_word)
  unfolding materialize_lazy_cond
  true_shown e h true_cond (shows_true f) s t = rw h
      (record { answer = shows_done value_true t; changes = nothing_changes outputs outputs_at l })
  true_shown e h false_cond (shows_false f) s t = absurd (omega arith)
  true_shown e h undef_cond (shows_undef f) s t = absurd (omega arith)
  true_shown e h (merge n k v ts) (shows_merge a u b d f ps) s t = absurd (omega arith)

  false_shown : c ≡ condition_false → l' ≡ l → RecordsCond l c l' (Ok false_word)
  unfolding materialize_lazy_cond
  false_shown e h true_cond (shows_true f) s t = absurd (omega arith)
  false_shown e h false_cond (shows_false f) s t = rw h (record {
    answer = shows_done value_false t;
    changes =
        nothing_changes outputs outputs_at l;
  })
  false_shown e h undef_cond (shows_undef f) s t = absurd (omega arith)
  false_shown e h (merge n k v ts) (shows_merge a u b d f ps) s t = absurd (omega arith)

  undef_shown : (c ≡ condition_true → ⊥) → (c ≡ condition_false → ⊥) → c < merges_from → {x : ℕ} → x ≡ undef_word 1 → l' ≡ l
      → RecordsCond l c l' (Ok x)
  unfolding materialize_lazy_cond
  undef_shown p q b x h true_cond (shows_true f) s t = absurd (p f)
  undef_shown p q b x h false_cond (shows_false f) s t = absurd (q f)
  undef_shown p q b x h undef_cond (shows_undef f) s t =
      rw h (record { answer = shows_done (ap value x ∙ value_undef 1 (omega arith)) t; changes = nothing_changes outputs outputs_at l })
  undef_shown p q b x h (merge n k v ts) (shows_merge a u d e f ps) s t = absurd (omega arith)

  merge_shown : merges_from ≤ c → {l₁ ws : List ℕ} {a : Defined} → RecordsParts l c (shape_size (shape_at l c)) l₁ ws → Merges l₁ c ws l' a
      → RecordsCond l c l' a
  unfolding materialize_lazy_cond
  merge_shown b parts m true_cond (shows_true f) s t = absurd (omega arith)
  merge_shown b parts m false_cond (shows_false f) s t = absurd (omega arith)
  merge_shown b parts m undef_cond (shows_undef f) s t = absurd (omega arith)
  merge_shown b {l₁} {ws} parts m (merge n kind v ts) (shows_merge h made_cell node shape scrutinee ps) s t =
      let size : shape_size (shape_at l c) ≡ cond_count ts = shape_cases shape in
      let x = parts ts ps (sym size) s t in
      let ended = all_made size x x.rest x.total x.goes_on in
      let same = select_by x.changes c in
      let counted : length x.values ≡ cond_count ts = x.count ∙ size in
      let r = merges_shown l₁ c ws l' x.tables {n = n} {kind = kind} {v = v} x.values (same 2 ∙ node) (rw (same 3, counted) shape)
      (ap value (same 4) ∙ scrutinee) x.len (λ k i. x.each k (let z = x.count in omega arith))
      (λ k a b. x.beyond k (let z = x.count in omega arith) b) m in
      rw ended (record { answer = r.answer; changes = changes_then x.changes r.changes })

  -- A part is refused: so is the whole.
  refused_part : {l₁ ws : List ℕ} {j p : ℕ} {ts : LazyConds} {s : NestState} → j < cond_count ts → p ≡ part_at l₁ c j
      → RecordsCond l₁ p l' Full → (x : PartsShown l c j l₁ ws ts s)
      (rest : LazyConds) → ShowsConds l c j rest → j + cond_count rest ≡ cond_count ts
      → materialize_lazy_conds ts s ≡ follow (materialize_lazy_conds rest x.state) (λ us. give (x.values ++ us))
      → (materialize_lazy_conds ts s ≡ turned_away too_many 0) × ChangesOnly outputs outputs_at l l'
  unfolding materialize_lazy_cond
  refused_part lt pe made x no_conds no_parts total on = absurd (omega arith)
  refused_part {j} {p} lt pe made x (t & rest) (part_and {p = q} e b sc ps) total on =
      let same : p ≡ q = part_is c j p q x.changes pe e b in
      let r = made t (rw same (cond_by x.changes sc)) x.state x.tables in
      (on ∙ rw (full_of r.answer refl), changes_then x.changes r.changes)

  full_shown : merges_from ≤ c → {l₁ ws : List ℕ} {j p : ℕ} → j < shape_size (shape_at l c) → RecordsParts l c j l₁ ws → p ≡ part_at l₁ c j
      → RecordsCond l₁ p l' Full → RecordsCond l c l' Full
  unfolding materialize_lazy_cond
  full_shown b lt parts pe made true_cond (shows_true f) s t = absurd (omega arith)
  full_shown b lt parts pe made false_cond (shows_false f) s t = absurd (omega arith)
  full_shown b lt parts pe made undef_cond (shows_undef f) s t = absurd (omega arith)
  full_shown b lt parts pe made (merge n kind v ts) (shows_merge h made_cell node shape scrutinee ps) s t =
      let size : shape_size (shape_at l c) ≡ cond_count ts = shape_cases shape in
      let x = parts ts ps (sym size) s t in
      let r = refused_part (rw size at lt) pe made x x.rest x.left x.total x.goes_on in
      rw r.0 (record { answer = shows_full; changes = r.1 })

mutual
  made_shown : {l l' : List ℕ} {c : ℕ} {a : Defined} → Materializes l c l' a → RecordsCond l c l' a
  made_shown (made_true e h) t sc s y = true_shown e h t sc s y
  made_shown (made_false e h) t sc s y = false_shown e h t sc s y
  made_shown (made_undef p q b x h) t sc s y = undef_shown p q b x h t sc s y
  made_shown (made_merge b ps m) t sc s y = merge_shown b (λ ts d n s' z. parts_shown ps ts d n s' z) m t sc s y
  made_shown (full_part b lt ps pe m) t sc s y =
      full_shown b lt (λ ts d n s' z. parts_shown ps ts d n s' z) pe (λ u d s' z. made_shown m u d s' z) t sc s y

  parts_shown : {l l₁ ws : List ℕ} {c j : ℕ} → PartsMade l c j l₁ ws → RecordsParts l c j l₁ ws
  parts_shown (no_part e f g) ts sc n s t = parts_start e f g sc t
  parts_shown (part_more {l} {c} ps lt pe m ie ue) ts sc n s t =
      let x = parts_shown ps ts sc n s t in
      parts_next (rw (← n) at lt) (let z = few_parts (shape_at l c) in omega arith) pe ie ue (λ u d s' z. made_shown m u d s' z) x
      x.rest x.left x.total x.goes_on

-- The code's answer and words for a condition that was made.
pub materialize_shown : {w w' : List ℕ} {c : ℕ} {a : Defined} {t : LazyCond} {s : NestState} → Materializes w c w' a
    → ShowsCondition w c t → ShowsTables w s
    → ShowsValue w w' a (materialize_lazy_cond t s)
materialize_shown {t} {s} m x y = made_shown m t x.tree s y
