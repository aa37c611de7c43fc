-- What the parts leave, by the words alone: the record, and the kinds of the regions.
use Rattle.std.specs.Prelude.{Bool, true, false, List, ℕ, zero, suc, ◌-◌, length, eqb}
use Rattle.std.proofs.Common.{arith}
use Rattle.meaning.specs.Graph.{Graph, region, edges_of}
use Rattle.meaning.specs.Lists.{pick}
use Rattle.record.specs.Stands.{Stands}
use Rattle.state_regions.specs.declared.cases.Case.{Case}
use Rattle.state_words.specs.Totals.{Made}
use Rattle.state_words.specs.Sections.{word, stored, head, children, bodies, cases, bundles, set_starts, set_lengths}
use Rattle.state_nodes.specs.NodeTables.{inserted}
use Rattle.state_sets.specs.SetTables.{swapped, bundle_copied, bundle_at, bundle_words, shifted, shift_removed}
use Rattle.state_sets.specs.SetTables.{swap_removed}
use Rattle.state_nodes.specs.NodeTables.{Joins, first_empty}
use Rattle.state_nodes.specs.NodeTables.{second_empty, joined}
use Rattle.state_regions.specs.RegionTables.{case_total}
use Rattle.cfg_lookups.specs.LookUps.{Rewrites, look_up}
use Rattle.state_shown.specs.Front.{SameKinds}
use Rattle.state_shown.specs.laws.Rewrites.{insert_changes}
use Rattle.state_shown.specs.laws.FrontKept.{stands_kept, kinds_same, kinds_stored, kinds_run, kinds_by, kinds_then, adds_kinds}
use Rattle.state_shown.specs.laws.FrontKept.{defines_kinds}
use Rattle.cfg_bundles.specs.EdgesAndCases.{Appends, appended, its_edge, its_rest, cases_filled, filled_from, split_filled, return_deferred}
use Rattle.cfg_bundles.specs.EdgesAndCases.{case_inputs, case_filled}
use Rattle.cfg_bundles.specs.laws.paths.Paths.{front_filled}
use Rattle.cfg_select_nodes.specs.declared.define.Scrutinee.{Scrutinee}
use Rattle.cfg_select_nodes.specs.Cases.{all_replaced, inputs_replaced}
use Rattle.cfg_select_nodes.specs.laws.paths.TurnsLaws.{front_turns}
use Rattle.cfg_emits.specs.Emits.{Emits, EmitAt}
use Rattle.cfg_emits.specs.laws.paths.EmitsLaws.{front_bundle}
use Rattle.cfg_selects.specs.laws.paths.Fronts.{front_cases, front_targets, front_plans, front_select, front_made}
use Rattle.cfg_selects.specs.Into.{SelectIf, not_needed, select_refused, select_made, StructurizesSelect, not_structurized, structurized}
use Rattle.cfg_selects.specs.Into.{StructurizesInto, one_follows, one_refused, all_together, all_refused, with_targets}
use Rattle.cfg_selects.specs.Into.{with_plan}
use Rattle.cfg_loops.specs.Inputs.{RewritesValue, looked_up, left_as_is, RewritesValues, none_yet, one_more, TakesInput, lifted, kept}
use Rattle.cfg_loops.specs.Inputs.{beyond}
use Rattle.cfg_loops.specs.Inputs.{TakesFrom, none_taken, one_taken}
use Rattle.cfg_loops.specs.declared.inputs.LoopInputs.{LoopInputs}
use Rattle.cfg_loops.specs.Exits.{exits_from}
use Rattle.cfg_loops.specs.laws.paths.ExitsLaws.{exit_front}
use Rattle.cfg_loops.specs.Loops as loops
use Rattle.cfg_loops.specs.Loops.{adds_loop, LoopDefined, loop_defined, no_value, no_node, EntersInputs, enters}
use Rattle.state_words.specs.Rows.{bundle_row_at, case_body, case_claimed, case_kind, case_row_at, cases_at, entry_replace, no_total}
use Rattle.state_words.specs.Rows.{spare_slot, twice_at}

-- ---- Words of the state.
inserted_kinds : (w : List ℕ) (r kind : ℕ) (vs : List ℕ) → SameKinds w (inserted w r kind vs)
inserted_kinds w r kind vs = kinds_by (insert_changes w r kind vs no_total) (omega arith)

copied_kinds : (w : List ℕ) (to from : ℕ) → SameKinds w (bundle_copied w to from)
copied_kinds w to from = kinds_run w bundles (omega arith) (bundle_row_at to) (bundle_words w from)

swapped_kinds : (w : List ℕ) (a b : ℕ) → SameKinds w (swapped w a b)
swapped_kinds w a b =
    kinds_then (kinds_stored w set_starts (omega arith) a (word w set_starts b))
    (kinds_stored (stored w set_starts a (word w set_starts b)) set_starts (omega arith) b (word w set_starts a))

shifted_kinds : (w : List ℕ) (start i k : ℕ) → SameKinds w (shifted w start i k)
unfolding shifted
shifted_kinds w start i zero = kinds_same w
shifted_kinds w start i (suc k) =
    kinds_then (copied_kinds w (bundle_at start i) (bundle_at start (suc i)))
    (shifted_kinds (bundle_copied w (bundle_at start i) (bundle_at start (suc i))) start (suc i) k)

shift_removed_kinds : (w : List ℕ) (r i : ℕ) → SameKinds w (shift_removed w r i)
unfolding shift_removed
shift_removed_kinds w r i = go (eqb (word w set_lengths r) 0)
  where
    moved : List ℕ
    moved = shifted w (word w set_starts r) i (word w set_lengths r - 1 - i)

    go : (b : Bool) → SameKinds w (pick b w (stored moved set_lengths r (word w set_lengths r - 1)))
    go true = kinds_same w
    go false = kinds_then (shifted_kinds w (word w set_starts r) i (word w set_lengths r - 1 - i))
        (kinds_stored moved set_lengths (omega arith) r (word w set_lengths r - 1))

swap_removed_kinds : (w : List ℕ) (r b : ℕ) → SameKinds w (swap_removed w r b)
unfolding swap_removed
swap_removed_kinds w r b = go (eqb (word w set_lengths r) 0)
  where
    filled : List ℕ
    filled = bundle_copied w b (bundle_at (word w set_starts r) (word w set_lengths r - 1))

    go : (t : Bool) → SameKinds w (pick t w (stored filled set_lengths r (word w set_lengths r - 1)))
    go true = kinds_same w
    go false = kinds_then (copied_kinds w b (bundle_at (word w set_starts r) (word w set_lengths r - 1)))
        (kinds_stored filled set_lengths (omega arith) r (word w set_lengths r - 1))

joins_kinds : {w w' : List ℕ} {a b h : ℕ} → Joins w w' a b h → SameKinds w w'
joins_kinds {w} (first_empty z e q) = rw e (kinds_same w)
joins_kinds {w} (second_empty d z e q) = rw e (kinds_same w)
joins_kinds (joined d e x) = adds_kinds x

-- ---- Cases filled, a case that stands alone.
filled_kinds : (g : Graph) (w : List ℕ) (r n j : ℕ) → SameKinds w (filled_from g w r n j)
unfolding filled_from
filled_kinds g w r zero j = kinds_same w
filled_kinds g w r (suc n) j = kinds_then (front_filled g w r j) (filled_kinds g (case_filled g w r j) r n (suc j))

pub cases_kinds : (g : Graph) (w : List ℕ) (r : ℕ) → SameKinds w (cases_filled g w r)
cases_kinds g w r =
    let n = length (edges_of (region g r).terminator) in
    kinds_then (kinds_stored w head (omega arith) cases_at n) (filled_kinds g (stored w head cases_at n) r n 0)

pub split_kinds : (g : Graph) (w : List ℕ) (r i : ℕ) → SameKinds w (split_filled g w r i)
unfolding split_filled
split_kinds g w r i =
    kinds_then (shift_removed_kinds w r i)
    (kinds_then (kinds_stored (shift_removed w r i) head (omega arith) cases_at 2)
    (kinds_then (kinds_run _ cases (omega arith) (case_row_at 0) _) (kinds_run _ cases (omega arith) (case_row_at 1) _)))

pub return_kinds : (g : Graph) (w : List ℕ) (r : ℕ) → SameKinds w (return_deferred g w r)
unfolding return_deferred
return_kinds g w r =
    kinds_then (kinds_run w bundles (omega arith) (bundle_row_at (bundle_at (word w set_starts r) 0)) _)
    (kinds_stored _ set_lengths (omega arith) r 1)

pub appends_kinds : {w w' : List ℕ} {r j : ℕ} {x : Case} → Appends w w' r x j → SameKinds w w'
appends_kinds {w} {r} {j} {x} (appended {l₂} {h} k y e) =
    rw e
    (kinds_then (inserted_kinds w x.body 1 (case_inputs w j))
    (kinds_then (joins_kinds y)
    (kinds_then (kinds_stored l₂ children (omega arith) r h)
    (kinds_then (swapped_kinds (stored l₂ children r h) r x.origin)
    (kinds_stored (swapped (stored l₂ children r h) r x.origin) set_lengths (omega arith) r x.length)))))
appends_kinds {w} {r} {x} (its_edge k e) =
    let p = bundle_at (word w set_starts r) 0 in
    rw e (kinds_then (copied_kinds w p x.start.0)
    (kinds_stored (bundle_copied w p x.start.0) set_lengths (omega arith) r x.length))
appends_kinds {w} {r} {x} (its_rest d f e) = rw e (kinds_stored w set_lengths (omega arith) r x.length)

-- ---- Selects.
replaced_kinds : (w : List ℕ) (n j : ℕ) → SameKinds w (all_replaced w n j)
unfolding all_replaced inputs_replaced
replaced_kinds w zero j = kinds_same w
replaced_kinds w (suc n) j = kinds_then (go (eqb (case_kind w j) case_claimed)) (replaced_kinds (inputs_replaced w j) n (suc j))
  where
    go : (b : Bool) → SameKinds w (pick b (inserted w (case_body w j) entry_replace (case_inputs w j)) w)
    go true = inserted_kinds w (case_body w j) 1 (case_inputs w j)
    go false = kinds_same w

emits_kinds : {g : Graph} {h : ℕ} {w w' : List ℕ} {a : Made} → Emits g h w w' a → SameKinds w w'
emits_kinds {g} {h} {w} t = front_turns (EmitAt g h (word w set_starts spare_slot)) (λ j m m' b x. front_bundle x) t

select_if_kinds : {g : Graph} {needed : Bool} {r shape : ℕ} {x : Scrutinee} {w w' : List ℕ} {a : Made} → SelectIf g needed r shape x w w' a
    → SameKinds w w'
select_if_kinds {w} (not_needed e s) = rw s (kinds_same w)
select_if_kinds (select_refused e d) = front_select d
select_if_kinds (select_made e d t) = kinds_then (front_select d) (emits_kinds t)

plan_kinds : (g : Graph) (w : List ℕ) → SameKinds w (with_plan g w)
plan_kinds g w =
    kinds_then (front_cases g w) (kinds_then (front_targets _) (front_plans g (with_targets g w)))

select_kinds : {g : Graph} {r shape : ℕ} {x : Scrutinee} {w w' : List ℕ} {a : Made} → StructurizesSelect g r shape x w w' a → SameKinds w w'
select_kinds {g} {w} (not_structurized s) = kinds_then (plan_kinds g w) (select_if_kinds s)
select_kinds {g} {w} (structurized {l₁} s e) =
    rw e (kinds_then (plan_kinds g w) (kinds_then (select_if_kinds s) (replaced_kinds l₁ (case_total l₁) 0)))

pub into_kinds : {g : Graph} {r shape : ℕ} {x : Scrutinee} {w w' : List ℕ} {a : Made} → StructurizesInto g r shape x w w' a → SameKinds w w'
into_kinds {w} (one_follows h s y) = kinds_then (kinds_run w cases (omega arith) _ _) (kinds_then (select_kinds s) (appends_kinds y))
into_kinds {w} (one_refused h s) = kinds_then (kinds_run w cases (omega arith) _ _) (select_kinds s)
into_kinds {r} (all_together {l₁} h s e) =
    rw e (kinds_then (select_kinds s) (kinds_then (swapped_kinds l₁ r 32)
    (kinds_stored (swapped l₁ r 32) set_lengths (omega arith) r (word l₁ set_lengths spare_slot))))
into_kinds (all_refused h s) = select_kinds s

-- ---- Loops.
rewrites_kinds : {w w' : List ℕ} {v a : ℕ} → Rewrites w v w' a → SameKinds w w'
rewrites_kinds {w} {w'} {v} x = rw x.noted (go (look_up w v).twice)
  where
    go : (b : Bool) → SameKinds w (pick b (stored w head twice_at 1) w)
    go true = kinds_stored w head (omega arith) twice_at 1
    go false = kinds_same w

values_kinds : {n k : ℕ} {w vs w' us : List ℕ} → RewritesValues n k w vs w' us → SameKinds w w'
values_kinds {w} (none_yet e s q) = rw s (kinds_same w)
values_kinds (one_more t x i e) = kinds_then (values_kinds t) (one x)
  where
    one : {n k v : ℕ} {w w' : List ℕ} {a : ℕ} → RewritesValue n k v w w' a → SameKinds w w'
    one (looked_up h x) = rewrites_kinds x
    one {w} (left_as_is h s e) = rw s (kinds_same w)

inputs_kinds : {r wrapper n k : ℕ} {w vs w' ws : List ℕ} {x : LoopInputs} → TakesFrom r wrapper n k w vs w' ws x → SameKinds w w'
inputs_kinds {w} (none_taken e s q c d) = rw s (kinds_same w)
inputs_kinds (one_taken t x i e) = kinds_then (inputs_kinds t) (one x)
  where
    one : {r wrapper n k v : ℕ} {x y : LoopInputs} {w w' : List ℕ} → TakesInput r wrapper n k v x w w' y → SameKinds w w'
    one {w} (lifted h e s a b c) = rw s (kinds_same w)
    one (kept h d x) = adds_kinds x.cell
    one {w} (beyond h s a b c) = rw s (kinds_same w)

entered_kinds : {r wrapper n : ℕ} {w vs w' : List ℕ} {h : ℕ} → EntersInputs r wrapper n w vs w' h → SameKinds w w'
entered_kinds {r} (enters {l₂} {ws} a b e) =
    rw e (kinds_then (values_kinds a) (kinds_then (inputs_kinds b.taken) (inserted_kinds l₂ r 2 ws)))

loop_kinds : {r c kept : ℕ} {w w' : List ℕ} {a : Made} → LoopDefined r c kept w w' a → SameKinds w w'
loop_kinds {r} (loop_defined m d (adds_loop {h} {l₁} x e)) =
    rw e (kinds_then (front_made m) (kinds_then (defines_kinds d) (kinds_then (adds_kinds x) (kinds_stored l₁ children (omega arith) r h))))
loop_kinds (no_value m) = front_made m
loop_kinds (no_node m d) = kinds_then (front_made m) (defines_kinds d)

exits_kinds : (g : Graph) (r start k i : ℕ) (w : List ℕ) → SameKinds w (exits_from g r start k i w)
unfolding exits_from
exits_kinds g r start zero i w = kinds_same w
exits_kinds g r start (suc k) i w = kinds_then (exit_front g r (bundle_at start i) w) (exits_kinds g r start k (suc i) _)

pub loops_kinds : {g : Graph} {r p : ℕ} {w w' : List ℕ} {a : Made} → Stands w g → loops.StructurizesLoop r p w w' a → SameKinds w w'
loops_kinds {g} {r} {p} {w} st (loops.StructurizesLoop.looped {wrapper} {l₃} n d e l x) =
    let front = kinds_then (swap_removed_kinds w r p) (kinds_then (defines_kinds d) (kinds_then (entered_kinds e)
    (kinds_then (loop_kinds l) (kinds_stored l₃ bodies (omega arith) r wrapper)))) in
    rw (x g (stands_kept front st)) (kinds_then front (exits_kinds g r _ _ 0 (stored l₃ bodies r wrapper)))
loops_kinds {r} {p} {w} st (loops.StructurizesLoop.no_wrapper d) = kinds_then (swap_removed_kinds w r p) (defines_kinds d)
loops_kinds {r} {p} {w} st (loops.StructurizesLoop.no_loop n d e l) =
    kinds_then (swap_removed_kinds w r p) (kinds_then (defines_kinds d) (kinds_then (entered_kinds e) (loop_kinds l)))
