-- Each definition of the code shows the definition's own, within its limit or refused with 9; entries of the rewrites; attempts and twice.
use Rattle.std.specs.Prelude.{◌≡◌, refl, Bool, true, false, ◌||◌, List, [], ◌∷◌, ◌++◌, get_or}
use Rattle.std.proofs.Common.{sym, ap, ◌∙◌, add-one, lt-ltb, le-ltb}
use Prim.Native.Nat.{ℕ, suc, ◌+◌, ◌≤◌, ◌<◌}
use native.Mathlib.Omega.{arith}
use Rattle.std.proofs.Math.Decide.{dec_lt}
use Rattle.std.proofs.Math.ListN.{length, length-append, get_or-append}
use Rattle.std.proofs.Math.Seq.{sets, get_or-append_seam}
use Rattle.meaning.specs.Graph.{Value, output}
use Rattle.nesting.specs.Nesting.{NodeOutput, NestState, define, define_region, define_node, define_output, add_region, add_node}
use Rattle.nesting.specs.Nesting.{add_attempt, with_tables, with_twice, most_regions, most_nodes, most_outputs}
use Rattle.state_words.specs.Totals.{Defined}
use Rattle.state_words.specs.Sections.{section, word, stored, stored_all, head, rewrites, outputs, start, size}
use Rattle.state_words.specs.laws.Apart.{section_other}
use Rattle.state_words.specs.Totals.{Defines, defined, full, attempted}
use Rattle.state_nodes.specs.NodeTables.{OutputDefined, output_defined, outputs_full}
use Rattle.state_shown.specs.Values.{value}
use Rattle.state_shown.specs.laws.Stores.{section_run, part_length, head_same, ChangesOnly, head_changes, run_changes, changes_then}
use Rattle.state_shown.specs.laws.Stores.{nothing_changes}
use Rattle.meaning.specs.facts.Parts.{run_before, run_in}
use Rattle.state_shown.specs.Tables.{ShowsValues, ShowsOutput, ShowsOutputs, no_output, ShowsTables, ShowsDefined, shows_done}
use Rattle.state_shown.specs.Tables.{shows_full}
use Rattle.meaning.specs.Lists.{bit}
use Rattle.state_words.specs.Rows.{attempts_at, largest, merges_at, nodes_at, output_node_at, output_type_at, output_value_at, outputs_at}
use Rattle.state_words.specs.Rows.{regions_at, twice_at}

-- ---- A word of the head stored: the tables stay, and the totals but one.
module _ {w w' : List ℕ} {s : NestState} (t : ShowsTables w s) where
  pub region_defined : {a : Defined} → Defines 0 most_regions w w' a → ShowsDefined (λ x n. x ≡ n) w' a (define_region s)
  unfolding define_region
  region_defined (defined {n} p h e) =
      let same : n ≡ s.region_count = p ∙ t.region_total in
      let more : n + 1 ≡ suc s.region_count = omega arith in
      let g = head_changes head regions_at w (n + 1) in
      rw (lt-ltb s.region_count most_regions (omega arith), define, e)
      (shows_done {s = add_region s} same
      record {
        size = rw g.words t.size;
        region_total = head_same w regions_at (n + 1) t.size (omega arith) ∙ more;
        node_total = g.totals nodes_at (omega arith) ∙ t.node_total;
        merge_total = g.totals merges_at (omega arith) ∙ t.merge_total;
        output_total = g.totals outputs_at (omega arith) ∙ t.output_total;
        attempts = g.totals attempts_at (omega arith) ∙ t.attempts;
        twice = g.totals twice_at (omega arith) ∙ t.twice;
        few_regions = omega arith;
        few_nodes = t.few_nodes;
        few_merges = t.few_merges;
        few_outputs = t.few_outputs;
        rewritten = rw (g.others rewrites (omega arith) (omega arith)) t.rewritten;
        outputs_shown = rw (g.others outputs (omega arith) (omega arith)) t.outputs_shown;
      })
  region_defined (full h e) = let z = t.region_total in rw (le-ltb s.region_count most_regions (omega arith), define) shows_full

  pub node_defined : {a : Defined} → Defines 1 most_nodes w w' a → ShowsDefined (λ x n. x ≡ n) w' a (define_node s)
  unfolding define_node
  node_defined (defined {n} p h e) =
      let same : n ≡ s.node_count = p ∙ t.node_total in
      let more : n + 1 ≡ suc s.node_count = omega arith in
      let g = head_changes head nodes_at w (n + 1) in
      rw (lt-ltb s.node_count most_nodes (omega arith), define, e)
      (shows_done {s = add_node s} same
      record {
        size = rw g.words t.size;
        region_total = g.totals regions_at (omega arith) ∙ t.region_total;
        node_total = head_same w nodes_at (n + 1) t.size (omega arith) ∙ more;
        merge_total = g.totals merges_at (omega arith) ∙ t.merge_total;
        output_total = g.totals outputs_at (omega arith) ∙ t.output_total;
        attempts = g.totals attempts_at (omega arith) ∙ t.attempts;
        twice = g.totals twice_at (omega arith) ∙ t.twice;
        few_regions = t.few_regions;
        few_nodes = omega arith;
        few_merges = t.few_merges;
        few_outputs = t.few_outputs;
        rewritten = rw (g.others rewrites (omega arith) (omega arith)) t.rewritten;
        outputs_shown = rw (g.others outputs (omega arith) (omega arith)) t.outputs_shown;
      })
  node_defined (full h e) = let z = t.node_total in rw (le-ltb s.node_count most_nodes (omega arith), define) shows_full

  -- There are never as many attempts as a word counts (the bound on attempts).
  pub attempt_counted : s.attempts < largest → w' ≡ attempted w
      → ShowsTables w' (add_attempt s)
  unfolding attempted
  attempt_counted h e =
      let z = t.attempts in
      let q : w' ≡ stored w head attempts_at (word w head attempts_at + 1) = e
      ∙ rw (lt-ltb (word w head attempts_at) largest (omega arith)) in
      let g = head_changes head attempts_at w (word w head attempts_at + 1) in
      rw q
      record {
        size = rw g.words t.size;
        region_total = g.totals regions_at (omega arith) ∙ t.region_total;
        node_total = g.totals nodes_at (omega arith) ∙ t.node_total;
        merge_total = g.totals merges_at (omega arith) ∙ t.merge_total;
        output_total = g.totals outputs_at (omega arith) ∙ t.output_total;
        attempts = head_same w attempts_at (word w head attempts_at + 1) t.size (omega arith)
            ∙ rw (add-one (word w head attempts_at), z);
        twice = g.totals twice_at (omega arith) ∙ t.twice;
        few_regions = t.few_regions;
        few_nodes = t.few_nodes;
        few_merges = t.few_merges;
        few_outputs = t.few_outputs;
        rewritten = rw (g.others rewrites (omega arith) (omega arith)) t.rewritten;
        outputs_shown = rw (g.others outputs (omega arith) (omega arith)) t.outputs_shown;
      }

  -- The note that `twice` is to be 1.
  pub twice_noted : w' ≡ stored w head twice_at 1 → ShowsTables w' (with_twice true s)
  twice_noted e =
      let g = head_changes head twice_at w 1 in
      let b : (x : Bool) → 1 ≡ bit (x || true) = elim [ true ↦ refl | false ↦ refl ] in
      rw e
      record {
        size = rw g.words t.size;
        region_total = g.totals regions_at (omega arith) ∙ t.region_total;
        node_total = g.totals nodes_at (omega arith) ∙ t.node_total;
        merge_total = g.totals merges_at (omega arith) ∙ t.merge_total;
        output_total = g.totals outputs_at (omega arith) ∙ t.output_total;
        attempts = g.totals attempts_at (omega arith) ∙ t.attempts;
        twice = head_same w twice_at 1 t.size (omega arith) ∙ b s.twice;
        few_regions = t.few_regions;
        few_nodes = t.few_nodes;
        few_merges = t.few_merges;
        few_outputs = t.few_outputs;
        rewritten = rw (g.others rewrites (omega arith) (omega arith)) t.rewritten;
        outputs_shown = rw (g.others outputs (omega arith) (omega arith)) t.outputs_shown;
      }

-- ---- An output more.
module _ (l : List ℕ) (os : List NodeOutput) (x : NodeOutput) (vs : List ℕ) where
  abbrev its_words : List ℕ
  its_words = x.node ∷ x.type ∷ vs

  abbrev more_words : List ℕ
  more_words = sets l (output_node_at (length os)) its_words

  output_kept : (q : ℕ) (y : NodeOutput) → q < length os → ShowsOutput l q y → ShowsOutput more_words q y
  output_kept q y h a =
      let u = a.values in
      record {
        node = run_before l (output_node_at (length os)) its_words (output_node_at q) (omega arith) ∙ a.node;
        type = run_before l (output_node_at (length os)) its_words (output_type_at q) (omega arith) ∙ a.type;
        values =
            record {
              few = u.few;
              each = λ j i. ap value
                  (run_before l (output_node_at (length os)) its_words (output_value_at q j) (let z = u.few in omega arith))
                  ∙ u.each j i;
            };
      }

  output_new : length l ≡ size outputs → length os < most_outputs → length vs ≡ 8 → ShowsValues vs 0 x.values
      → ShowsOutput more_words (length os) x
  output_new a b c d =
      let o = output_node_at (length os) in
      let room : o + length its_words ≤ length l = omega arith in
      record {
        node = (let e : o ≡ o + 0 = omega arith in ap (λ i. get_or more_words i 0) e ∙ run_in l o its_words 0 room (omega arith));
        type = run_in l o its_words 1 room (omega arith);
        values =
            record {
              few = d.few;
              each = λ j i.
                  let e : o + 2 + j ≡ o + suc (suc j) = omega arith in
                  let f : 0 + j ≡ j = omega arith in
                  ap (λ i. value (get_or more_words i 0)) e
                  ∙ ap value (run_in l o its_words (suc (suc j)) room (let z = d.few in omega arith) ∙ ap (λ i. get_or vs i 0) (sym f))
                  ∙ d.each j i;
            };
      }

  outputs_more : length l ≡ size outputs → length os < most_outputs → length vs ≡ 8 → ShowsValues vs 0 x.values → ShowsOutputs l os
      → ShowsOutputs more_words (os ++ (x ∷ []))
  outputs_more a b c d h q i =
      elim (dec_lt q (length os)) [
        | yes k ↦ rw (get_or-append os (x ∷ []) no_output q k) (output_kept q (get_or os q no_output) k (h q k))
        | no k ↦ (
            let z = length-append os (x ∷ []) in
            let e : q ≡ length os = omega arith in rw (e, get_or-append_seam os x [] no_output) (output_new a b c d))
      ]

module _ {w w' : List ℕ} {s : NestState} (t : ShowsTables w s) {n ty : ℕ} {vs : List ℕ} {us : List Value} (len : length vs ≡ 8)
    (shown : ShowsValues vs 0 us) where
  pub output_made : {a : Defined} → OutputDefined n ty vs w w' a → ShowsDefined (λ o v. v ≡ output o) w' a (define_output n ty us s)
  unfolding define_output
  output_made (output_defined {o} p h e) =
      let same : o ≡ length s.node_outputs = p ∙ t.output_total in
      let mid = stored_all w outputs (output_node_at o) (n ∷ ty ∷ vs) in
      let first = run_changes outputs outputs_at w (omega arith) (output_node_at o) (n ∷ ty ∷ vs) in
      let g = changes_then first (head_changes outputs outputs_at mid (o + 1)) in
      let z = length-append s.node_outputs (record { node = n; type = ty; values = us } ∷ []) in
      let more : o + 1 ≡ length (s.node_outputs ++ (record { node = n; type = ty; values = us } ∷ [])) = omega arith in
      let sec : section (stored mid head outputs_at (o + 1)) outputs ≡ sets (section w outputs) (output_node_at o) (n ∷ ty ∷ vs) =
      section_other mid head outputs_at (o + 1) outputs (omega arith) ∙ section_run w outputs (output_node_at o) (n ∷ ty ∷ vs) in
      rw (lt-ltb (length s.node_outputs) most_outputs (omega arith), define, e)
      (shows_done {s = with_tables s.region_states s.region_input_rewrites
      (s.node_outputs ++ (record { node = n; type = ty; values = us } ∷ [])) s} (ap output (sym same))
      record {
        size = rw g.words t.size;
        region_total = g.totals regions_at (omega arith) ∙ t.region_total;
        node_total = g.totals nodes_at (omega arith) ∙ t.node_total;
        merge_total = g.totals merges_at (omega arith) ∙ t.merge_total;
        output_total = head_same mid outputs_at (o + 1) (rw first.words t.size) (omega arith) ∙ more;
        attempts = g.totals attempts_at (omega arith) ∙ t.attempts;
        twice = g.totals twice_at (omega arith) ∙ t.twice;
        few_regions = t.few_regions;
        few_nodes = t.few_nodes;
        few_merges = t.few_merges;
        few_outputs = omega arith;
        rewritten = rw (g.others rewrites (omega arith) (omega arith)) t.rewritten;
        outputs_shown = rw (sec, same) (outputs_more (section w outputs) s.node_outputs
            (record { node = n; type = ty; values = us }) vs (part_length (start outputs) (size outputs) w (let y = t.size in omega arith))
            (omega arith) len shown t.outputs_shown);
      })
  output_made (outputs_full h e) =
      let z = t.output_total in rw (le-ltb (length s.node_outputs) most_outputs (omega arith), define) shows_full

-- What an output more leaves.
pub output_changes : {w w' : List ℕ} {n ty : ℕ} {vs : List ℕ} {a : Defined} → OutputDefined n ty vs w w' a
    → ChangesOnly outputs outputs_at w w'
output_changes {w} {n} {ty} {vs} (output_defined {o} p h e) =
    rw e
    (changes_then (run_changes outputs outputs_at w (omega arith) (output_node_at o) (n ∷ ty ∷ vs))
    (head_changes outputs outputs_at (stored_all w outputs (output_node_at o) (n ∷ ty ∷ vs)) (o + 1)))
output_changes {w} (outputs_full h e) = rw e (nothing_changes outputs outputs_at w)
