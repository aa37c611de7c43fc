-- A deferred edge's condition, put part by part as its cells have it, is the definition's field; a part's number is less than its merge's,
-- so that the recursion ends.
use Rattle.std.specs.Prelude.{◌≡◌, refl, List, [], ◌∷◌, ℕ, zero, suc, ◌+◌, ◌≤◌, ◌<◌, get_or}
use Rattle.std.proofs.Math.Path.{sym, ap}
use Rattle.std.proofs.Common.{◌∙◌, arith, lt-ltb}
use Rattle.std.proofs.Math.ListN.{length}
use Rattle.nesting.specs.Nesting.{plain, LazyCond, undef_cond, false_cond, true_cond, merge, LazyConds, no_conds, ◌&◌}
use Rattle.nesting.specs.Sheet as sheet
use Rattle.nesting.specs.SheetNumbers.{letter_m}
use Rattle.state_nodes.specs.NodeTables.{earlier_part, shape_size}
use Rattle.state_shown.specs.Tables.{cond_count, ShowsCond, shows_true, shows_false, shows_undef, shows_merge, ShowsConds, no_parts}
use Rattle.state_shown.specs.Tables.{part_and}
use Rattle.state_shown.specs.laws.Conditions.{shape_cases}
use Rattle.cfg_lookups.specs.laws.paths.MaterializedLaws.{part_below}
use Rattle.sheet_words.specs.declared.place.Place.{Place}
use Rattle.sheet_words.specs.PutInFront.{Puts}
use Rattle.sheet_words.specs.laws.PutInFrontLaws.{◌⊕◌}
use Rattle.sheet_words.specs.laws.Rows.{run, run_list}
use Rattle.sheet_words.specs.laws.PartLaws.{each_plain}
use Rattle.sheet_defers.specs.Conditions.{PutsCondition, condition_part}
use Rattle.state_words.specs.Rows.{merge_node, merge_part, merge_shape}

-- ---- t, f, u.
pub low_condition : (w : List ℕ) {c : ℕ} {out out' : List ℕ} {at at' : Place} → c < 4 → Puts out at (plain (c ∷ [])) out' at'
    → PutsCondition w c out at out' at'
unfolding sheet.condition
low_condition w low p true_cond (shows_true e) = rw e at p
low_condition w low p false_cond (shows_false e) = rw e at p
low_condition w low p undef_cond (shows_undef e) = rw e at p
low_condition w low p (merge n k v ts) (shows_merge h _ _ _ _ _) = absurd (omega arith)

-- ---- The parts of a merge.
field_count : (ts : LazyConds) → length (sheet.conditions ts) ≡ cond_count ts
unfolding sheet.condition
field_count no_conds = refl
field_count (t & ts) = ap suc (field_count ts)

pub part_falls : {p c : ℕ} (x : ℕ) → p ≡ earlier_part x c → 4 ≤ c → p < c
part_falls {p} {c} x e h = rw e (part_below x c h)

-- The part at place j, of those from place i on.
record PartShown (l : List ℕ) (c i j : ℕ) (ts : LazyConds) : Type 0 where
  tree : LazyCond
  shows : ShowsCond l (earlier_part (merge_part l c (i + j)) c) tree
  field : get_or (sheet.conditions ts) j (sheet.label "") ≡ sheet.condition tree

part_shown : {l : List ℕ} {c i : ℕ} {ts : LazyConds} → ShowsConds l c i ts → (j : ℕ) → j < cond_count ts → PartShown l c i j ts
unfolding sheet.condition earlier_part
part_shown no_parts j h = absurd (omega arith)
part_shown {l} {c} {i} (part_and {p = p} {t = t} e b sc ps) zero h =
    let here : i + 0 ≡ i = omega arith in record { tree = t; shows = rw (here, e, lt-ltb p c b) sc; field = refl }
part_shown {l} {c} {i} (part_and e b sc ps) (suc j) h =
    let x = part_shown ps j (omega arith) in
    let there : i + suc j ≡ suc i + j = omega arith in
    record { tree = x.tree; shows = rw there x.shows; field = x.field }

module _ (w : List ℕ) {c n : ℕ} (high : 4 ≤ c) {shape : ℕ} (size : n ≡ shape_size shape) (of_shape : shape ≡ merge_shape w c)
  where
    -- A turn of the loop over them.
    pub part_turn : {j p : ℕ} {out out' : List ℕ} {at at' : Place} → j < n
        → p ≡ earlier_part (merge_part w c j) c → PutsCondition w p out at out' at'
        → {t : LazyCond} → ShowsCond w c t → Puts out at (condition_part t j) out' at'
    part_turn below part puts (shows_true e) = absurd (omega arith)
    part_turn below part puts (shows_false e) = absurd (omega arith)
    part_turn below part puts (shows_undef e) = absurd (omega arith)
    part_turn {j} below part puts (shows_merge {ts = ts} h b node is v ps) =
        let many : n ≡ cond_count ts = size ∙ ap shape_size of_shape ∙ shape_cases is in
        let x = part_shown ps j (omega arith) in
        let here : 0 + j ≡ j = omega arith in
        rw x.field (puts x.tree (rw part (rw here at x.shows)))

    pub merge_is : {node : ℕ} → node ≡ merge_node w c → {t : LazyCond} → ShowsCond w c t
        → plain (letter_m ∷ node ∷ n ∷ []) ⊕ run (condition_part t) 0 n ≡ plain (sheet.condition t).words
    unfolding sheet.condition
    merge_is of_node (shows_true e) = absurd (omega arith)
    merge_is of_node (shows_false e) = absurd (omega arith)
    merge_is of_node (shows_undef e) = absurd (omega arith)
    merge_is of_node {t} (shows_merge {ts = ts} h b node is v ps) =
        let many : n ≡ length (sheet.conditions ts) = size ∙ ap shape_size of_shape ∙ shape_cases is ∙ sym (field_count ts) in
        rw (
          run_list (condition_part t) (λ x. plain x.words) (sheet.label "") n (sheet.conditions ts) many (λ j b. refl)
              ∙ each_plain (λ x. x.words) (sheet.conditions ts),
          many,
          of_node,
          node,
        )
