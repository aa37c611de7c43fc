-- For every state that the words show, a value's three words are those of the definition.
use Rattle.std.specs.Prelude.{◌≡◌, List, [], ◌∷◌, ◌++◌, get_or, take, eqb}
use Rattle.std.proofs.Math.Path.{refl}
use Rattle.std.proofs.Common.{sym, ap, ◌∙◌, arith, take_all}
use Prim.Native.Nat.{ℕ, zero, suc, ◌+◌, ◌-◌, ◌≤◌, ◌<◌}
use Rattle.std.proofs.Math.Decide.{dec_lt}
use Rattle.std.proofs.Math.Nat.{min-eq_left, min-eq_right}
use Rattle.std.proofs.Math.ListN.{length, get_or-eq_default}
use Rattle.std.proofs.lemmas.List.{length-map}
use Rattle.std.proofs.Math.Seq.{take-suc}
use borrow.Author.Tests.{lt-ltb, le-ltb}
use Rattle.meaning.specs.Lists.{pick, times_in}
use Rattle.meaning.specs.Graph.{Graph, Value}
use Rattle.meaning.specs.facts.Elements.{getD_map_in}
use Rattle.meaning.specs.facts.Tests.{eqb_sym}
use Rattle.nesting.specs.Nesting.{NestState, NodeOutput, unmarked}
use Rattle.nesting.specs.Sheet as sheet
use Rattle.state_words.specs.Sections.{word, head}
use Rattle.state_words.specs.Values.{parts_of, bool_from}
use Rattle.state_shown.specs.Values.{value}
use Rattle.state_shown.specs.laws.ValueWords.{Ranged, in_const, in_false, in_true, in_undef, in_output, in_input, in_held, in_instr}
use Rattle.state_shown.specs.laws.ValueWords.{in_none}
use Rattle.state_shown.specs.laws.ValueWords.{ranged}
use Rattle.state_shown.specs.Tables.{ShowsTables, no_output}
use Rattle.cfg_lookups.specs.LookUps as words
use Rattle.cfg_lookups.specs.laws.shown.Shown.{look_up_shown}
use Rattle.sheet_words.specs.Parts.{Concluded, output_nodes, value_part}
use Rattle.sheet_words.specs.Outputs.{node_of, node_times, place_among, value_words}
use Rattle.state_words.specs.Values.{input_from, instr_from, names_nothing, output_from, undef_from}
use Rattle.state_words.specs.Rows.{output_node, outputs_at}

-- ---- Outputs: node and place.
module _ {w : List ℕ} {s : NestState} (t : ShowsTables w s) where
  node_at : (i : ℕ) → i < length s.node_outputs → output_node w i ≡ get_or (output_nodes s) i 0
  node_at i h = (t.outputs_shown i h).node ∙ sym (getD_map_in (λ (o : NodeOutput). o.node) s.node_outputs i no_output 0 h)

  pub node_shown : (o : ℕ) → node_of w o ≡ get_or (output_nodes s) o 0
  unfolding node_of
  node_shown o =
      let n = t.output_total in
      elim (dec_lt o (length s.node_outputs)) [
        | yes h ↦ rw (lt-ltb o (word w head outputs_at) (omega arith)) (node_at o h)
        | no h ↦ rw (le-ltb o (word w head outputs_at) (omega arith))
            (sym (get_or-eq_default (output_nodes s) 0 (rw (length-map s.node_outputs (λ (o : NodeOutput). o.node)) (omega arith))))
      ]

  times_snoc : (n : ℕ) (xs : List ℕ) (x : ℕ) → times_in n (xs ++ (x ∷ [])) ≡ times_in n xs + pick (eqb x n) 1 0
  times_snoc n [] x = rw (eqb_sym n x) (omega arith)
  times_snoc n (y ∷ xs) x = let e = times_snoc n xs x in omega arith

  times_shown : (n i : ℕ) → i ≤ length s.node_outputs → node_times w n i ≡ times_in n (take i (output_nodes s))
  unfolding node_times
  times_shown n zero h = refl
  times_shown n (suc i) h =
      let size : i < length (output_nodes s) = rw (length-map s.node_outputs (λ (o : NodeOutput). o.node)) (omega arith) in
      rw (times_shown n i (omega arith), node_at i (omega arith), take-suc (output_nodes s) i 0 size)
      (sym (times_snoc n (take i (output_nodes s)) (get_or (output_nodes s) i 0)))

  pub place_shown : (n o : ℕ) → place_among w n o ≡ times_in n (take o (output_nodes s))
  place_shown n o =
      let total = t.output_total in
      let size : length (output_nodes s) ≡ length s.node_outputs = length-map s.node_outputs (λ (o : NodeOutput). o.node) in
      elim (dec_lt o (length s.node_outputs)) [
        | yes h ↦ rw (min-eq_left {n = o} {m = word w head outputs_at} (omega arith)) (times_shown n o (omega arith))
        | no h ↦ rw (min-eq_right {n = word w head outputs_at} {m = o} (omega arith), total) (times_shown n (length s.node_outputs) (omega arith)
            ∙ ap (times_in n) (take_all (length s.node_outputs) (output_nodes s) (omega arith)
            ∙ sym (take_all o (output_nodes s) (omega arith))))
      ]

  -- ---- By the range of the word.
  words_shown : (x : ℕ) {v : Value} → Ranged x v → value_words w x ≡ (sheet.value (output_nodes s) (unmarked v)).words
  unfolding value_words parts_of
  words_shown x (in_const a e) = rw (e, lt-ltb x bool_from a)
  words_shown x (in_false a e) = rw (e, a)
  words_shown x (in_true a e) = rw (e, a)
  words_shown x (in_undef a b e) =
      rw (e, le-ltb x bool_from (omega arith), le-ltb x undef_from a, lt-ltb x output_from b)
  words_shown x (in_output a b e) =
      rw (
        e,
        le-ltb x bool_from (omega arith),
        le-ltb x undef_from (omega arith),
        le-ltb x output_from a,
        lt-ltb x input_from b,
        node_shown (x - output_from),
        place_shown (get_or (output_nodes s) (x - output_from) 0) (x - output_from),
      )
  words_shown x (in_input a b e) =
      rw (
        e,
        le-ltb x bool_from (omega arith),
        le-ltb x undef_from (omega arith),
        le-ltb x output_from (omega arith),
        le-ltb x input_from a,
        lt-ltb x instr_from (omega arith),
      )
  words_shown x (in_held a b e) =
      rw (
        e,
        le-ltb x bool_from (omega arith),
        le-ltb x undef_from (omega arith),
        le-ltb x output_from (omega arith),
        le-ltb x input_from
            (omega arith),
        lt-ltb x instr_from b,
      )
  words_shown x (in_instr a b e) =
      rw (
        e,
        le-ltb x bool_from (omega arith),
        le-ltb x undef_from (omega arith),
        le-ltb x output_from (omega arith),
        le-ltb x input_from (omega arith),
        le-ltb x instr_from a,
        lt-ltb x names_nothing b,
      )
  words_shown x (in_none a e) =
      rw (
        e,
        le-ltb x bool_from (omega arith),
        le-ltb x undef_from (omega arith),
        le-ltb x output_from (omega arith),
        le-ltb x input_from (omega arith),
        le-ltb x instr_from (omega arith),
        le-ltb x names_nothing a,
      )

-- ---- A value looked up for the last time.
pub value_shown : {g : Graph} {w : List ℕ} {s : NestState} → Concluded g w s → (x : ℕ)
    → record { value = value_words w (words.look_up w x).value; twice = (words.look_up w x).twice } ≡ value_part s (value x)
unfolding value_part
value_shown {w} {s} c x =
    let t = c.state.tables in
    let found = look_up_shown w s.region_input_rewrites t.rewritten c.chains x in
    rw (words_shown t (words.look_up w x).value (ranged (words.look_up w x).value), found.value, found.twice)
