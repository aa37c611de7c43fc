-- Why put_cell puts what a cell adds, whatever its tag: the lists inside from the last on, each with the lines before it, then the cell's
-- own. A list that is a loop alone is walked by its body at once, which saves a level of stack; the lines come out the same.
use Rattle.std.specs.Prelude.{◌≡◌, Bool, List, ℕ, ◌-◌, ◌≤◌, ◌<◌, ◌⊎◌, eqb}
use Rattle.std.proofs.Math.Path.{refl}
use Rattle.std.proofs.Common.{sym, ◌∙◌, subst, inl, inr}
use Rattle.std.proofs.Math.Bool.{true, false}
use native.Mathlib.Omega.{arith}
use Rattle.std.proofs.Math.Decide.{ℕ_discrete}
use borrow.Author.Tests.{eq-eqb, ne_eqb, eqb-true}
use Rattle.meaning.specs.Lists.{pick}
use Rattle.meaning.specs.facts.Tests.{clash}
use Rattle.meaning.specs.Graph.{Value, region, exit_invocation}
use Rattle.meaning.specs.Runs.{exit}
use Rattle.nesting.specs.Nesting.{blocks_of}
use Rattle.state_words.specs.Rows.{cell_word, tag_blocks, tag_join, tag_exit, tag_select, tag_loop, cell_tag, blocks_region, join_list}
use Rattle.state_words.specs.Rows.{exit_node, exit_region, select_node, select_cases, loop_body, children_of_case}
use Rattle.state_lists.specs.CellByCell.{case_cell, CaseTotal}
use Rattle.state_lists.specs.laws.CellByCellLaws.{named_below, earlier_within, none_before, case_within}
use Rattle.sheet_words.specs.declared.place.Place.{Place}
use Rattle.sheet_words.specs.PutInFront.{Puts}
use Rattle.sheet_words.specs.Parts.{OfState, node_part, nodes_part}
use Rattle.sheet_selects.specs.SelectLines.{PutsSelectLine, PutsCaseLine}
use Rattle.sheet_nodes.specs.Regions.{PutsNodes}
use Rattle.sheet_nodes.specs.Walk.{PutsCell, PutsCases, PutsLoopLines}
use Rattle.sheet_nodes.specs.Inside.{inner_at, InnerTotal, each_case, one_joined, one_body, none_inside, InnerLine, case_line}
use Rattle.sheet_nodes.specs.Inside.{no_inner_line}
use Rattle.sheet_nodes.specs.Inside.{OwnLines, blocks_lines, exit_line, select_line, body_lines, no_own_line, LinesPut, own_put}
use Rattle.sheet_nodes.specs.Inside.{inner_put}
use Rattle.sheet_nodes.specs.Inside.{is_loop, walked_list, WalkedLines, loop_alone, no_loop, InsidePut}
use Rattle.sheet_nodes.specs.laws.WalkLaws.{cell_blocks, cell_list, cell_exit, cell_select, cell_loop, cell_none}
use Rattle.sheet_nodes.specs.laws.WalkLaws.{cases_start, cases_turn, cases_end, walk_start, walk_turn, walk_end}

-- ---- The list inside, by the tag that was read.
module _ (w : List ℕ) (h j : ℕ) where
  pub inner_case : cell_tag w h ≡ tag_select → inner_at w h j ≡ children_of_case w (case_cell w (select_cases w h) j)
  unfolding inner_at
  inner_case e = rw (eq-eqb (cell_tag w h) tag_select e)

  pub inner_joined : cell_tag w h ≡ tag_join → inner_at w h j ≡ join_list w h
  unfolding inner_at
  inner_joined e = rw (ne_eqb (cell_tag w h) tag_select (omega arith), eq-eqb (cell_tag w h) tag_join e)

  pub inner_before : (cell_tag w h ≡ tag_select → ⊥) → (cell_tag w h ≡ tag_join → ⊥) → inner_at w h j ≡ loop_body w h
  unfolding inner_at
  inner_before d e = rw (ne_eqb (cell_tag w h) tag_select d, ne_eqb (cell_tag w h) tag_join e)

-- It is an earlier one, and so is the one that is walked for it.
inner_below : (w : List ℕ) (h j : ℕ) → 1 ≤ h → inner_at w h j < h
unfolding inner_at
inner_below w h j some =
    let c = case_cell w (select_cases w h) j in
    let of_case = earlier_within (cell_word w c 3) c in
    let of_cases = case_within w (select_cases w h) j {c = c} refl in
    let cases = named_below {p = select_cases w h} (cell_word w h 5) refl some in
    go (eqb (cell_tag w h) tag_select) (eqb (cell_tag w h) tag_join) (omega arith)
    (named_below {p = join_list w h} (cell_word w h 2) refl some) (named_below {p = loop_body w h} (cell_word w h 1) refl some)
  where
    go : (a b : Bool) {x y z : ℕ} → x < h → y < h → z < h → pick a x (pick b y z) < h
    go true b l m n = l
    go false true l m n = m
    go false false l m n = n

pub walked_below : (w : List ℕ) (h j : ℕ) {list p : ℕ} → list ≡ inner_at w h j → p ≡ walked_list w list → 1 ≤ h → p < h
unfolding walked_list
walked_below w h j {list} a b some = rw b (go (is_loop w list))
  where
    go : (t : Bool) → pick t (loop_body w list) list < h
    go true = let y = earlier_within (cell_word w list 1) list in let z = inner_below w h j some in omega arith
    go false = let z = inner_below w h j some in omega arith

-- What was walked for a list, and the lines before it, are the list's.
module _ (w : List ℕ) (list : ℕ) where
  loop_there : is_loop w list ≡ true → (1 ≤ list) × (cell_tag w list ≡ tag_loop)
  unfolding is_loop
  loop_there e =
      elim (ℕ_discrete list 0) [
        | yes z ↦ absurd (clash (let y : false ≡ true = rw (eq-eqb list 0 z) at e in cc))
        | no d ↦ (omega arith, eqb-true (cell_tag w list) tag_loop (rw (ne_eqb list 0 d) at e))
      ]

  list_put : {p : ℕ} {out out₁ out₂ : List ℕ} {at at₁ at₂ : Place} → p ≡ walked_list w list → PutsNodes w p out at out₁ at₁
      → WalkedLines w list out₁ at₁ out₂ at₂ → PutsNodes w list out at out₂ at₂
  unfolding walked_list
  list_put {out = out} {at = at} is nodes (loop_alone e lines) =
      let there = loop_there e in
      let body = rw (is, e) at nodes in
      walk_end w list (omega arith) (walk_turn w list list there.0 (walk_start w list out at)
      (cell_loop w list refl there.1 refl body lines) (sym (none_before w list there.1)))
  list_put is nodes (no_loop e a b) = rw (a, b) (rw (is, e) at nodes)

-- ---- How many there are.
cases_counted : {w : List ℕ} {h n t : ℕ} → InnerTotal w h n t → t ≡ tag_select → CaseTotal w (select_cases w h) n
cases_counted (each_case x) e = x
cases_counted (one_joined x) e = absurd (omega arith)
cases_counted (one_body x) e = absurd (omega arith)
cases_counted (none_inside a b c x) e = absurd (b e)

few_inside : {w : List ℕ} {h n t : ℕ} → InnerTotal w h n t → (t ≡ tag_select → ⊥) → n ≤ 1
few_inside (each_case x) d = absurd (d refl)
few_inside (one_joined x) d = omega arith
few_inside (one_body x) d = omega arith
few_inside (none_inside a b c x) d = omega arith

one_inside : {w : List ℕ} {h n t : ℕ} → InnerTotal w h n t → (t ≡ tag_join) ⊎ (t ≡ tag_loop) → n ≡ 1
one_inside (each_case x) (inl e) = absurd (omega arith)
one_inside (each_case x) (inr e) = absurd (omega arith)
one_inside (one_joined x) e = x
one_inside (one_body x) e = x
one_inside (none_inside a b c x) (inl e) = absurd (a e)
one_inside (none_inside a b c x) (inr e) = absurd (c e)

no_inside : {w : List ℕ} {h n t : ℕ} → InnerTotal w h n t → (t ≡ tag_join → ⊥) → (t ≡ tag_select → ⊥) → (t ≡ tag_loop → ⊥) → n ≡ 0
no_inside (each_case x) a b c = absurd (b refl)
no_inside (one_joined x) a b c = absurd (a refl)
no_inside (one_body x) a b c = absurd (c refl)
no_inside (none_inside a b c x) p q r = x

-- ---- The line of a part.
case_line_put : {w : List ℕ} {h j t : ℕ} {out out' : List ℕ} {at at' : Place} → InnerLine w h j out at out' at' t → t ≡ tag_select
    → PutsCaseLine w (case_cell w (select_cases w h) j) (select_node w h) j out at out' at'
case_line_put (case_line p) e = p
case_line_put (no_inner_line d a b) e = absurd (d e)

nothing_put : {w : List ℕ} {h j t : ℕ} {out out' : List ℕ} {at at' : Place} → InnerLine w h j out at out' at' t → (t ≡ tag_select → ⊥)
    → (out' ≡ out) × (at' ≡ at)
nothing_put (case_line p) d = absurd (d refl)
nothing_put (no_inner_line d a b) e = (a, b)

-- What is walked for the list at place j - 1, and the lines before it.
record InnerPut (w : List ℕ) (h j : ℕ) (out : List ℕ) (at : Place) (out' : List ℕ) (at' : Place) : Type 0 where
  words : List ℕ
  place : Place
  nodes : PutsNodes w (inner_at w h (j - 1)) out at words place
  line : InnerLine w h (j - 1) words place out' at' (cell_tag w h)

inner_of : {w : List ℕ} {h j p : ℕ} {out out₁ out₂ : List ℕ} {at at₁ at₂ : Place} → 0 < j → p ≡ walked_list w (inner_at w h (j - 1))
    → PutsNodes w p out at out₁ at₁ → LinesPut w h j out₁ at₁ out₂ at₂ → InnerPut w h j out at out₂ at₂
inner_of some is nodes (own_put e x) = absurd (omega arith)
inner_of {w} {h} {j} some is nodes (inner_put {out₁} {at₁} d alone x) =
    record { words = out₁; place = at₁; nodes = list_put w (inner_at w h (j - 1)) is nodes alone; line = x }

own_of : {w : List ℕ} {h j : ℕ} {out out' : List ℕ} {at at' : Place} → LinesPut w h j out at out' at' → j ≡ 0
    → OwnLines w h out at out' at' (cell_tag w h)
own_of (own_put e x) none = x
own_of (inner_put d alone x) none = absurd (d none)

same_nodes : (w : List ℕ) (list : ℕ) {out out₁ out₂ out₃ : List ℕ} {at at₁ at₂ at₃ : Place} → out₁ ≡ out → at₁ ≡ at → out₃ ≡ out₂
    → at₃ ≡ at₂ → PutsNodes w list out₁ at₁ out₂ at₂ → PutsNodes w list out at out₃ at₃
same_nodes w list a b c d x = rw (c, d) (rw (a, b) at x)

-- ---- The walk inside.
module _ (w : List ℕ) (h : ℕ) {n : ℕ} (total : InnerTotal w h n (cell_tag w h)) where
  pub inside_start : (out : List ℕ) (at : Place) → InsidePut w h n n out at out at
  inside_start out at =
      record {
        cases = λ e. cases_start w (select_cases w h) (select_node w h) (cases_counted total e) out at;
        list = λ d b. absurd (omega arith);
        nothing = λ d b. (refl, refl);
      }

  pub inside_turn : (j : ℕ) {list p : ℕ} {out out₁ out₂ out₃ : List ℕ} {at at₁ at₂ at₃ : Place} → 0 < j → j ≤ n
      → InsidePut w h n j out at out₁ at₁ → list ≡ inner_at w h (j - 1) → p ≡ walked_list w list → PutsNodes w p out₁ at₁ out₂ at₂
      → LinesPut w h j out₂ at₂ out₃ at₃ → InsidePut w h n (j - 1) out at out₃ at₃
  inside_turn j some within before is walked nodes lines =
      let part = inner_of some (walked ∙ rw is) nodes lines in
      record {
        cases = λ e. cases_turn w (select_cases w h) (select_node w h) j (cases_counted total e) some within (before.cases e) refl
            (inner_case w h (j - 1) e) part.nodes (case_line_put part.line e);
        list = λ d b.
            let few = few_inside total d in
            let none = before.nothing d (omega arith) in
            let same = nothing_put part.line d in
            same_nodes w (inner_at w h (j - 1)) none.0 none.1 same.0 same.1 part.nodes;
        nothing = λ d b. absurd (omega arith);
      }

  pub cell_put : (j : ℕ) {out out₁ out₂ : List ℕ} {at at₁ at₂ : Place} → j ≤ 0 → InsidePut w h n j out at out₁ at₁
      → LinesPut w h 0 out₁ at₁ out₂ at₂ → PutsCell w h out at out₂ at₂
  cell_put j {out} {out₁} {out₂} {at} {at₁} {at₂} end inside lines = go refl (own_of lines refl)
    where
      zero_left : j ≡ 0
      zero_left = omega arith

      first : cell_tag w h ≡ tag_select → PutsCases w (select_cases w h) (select_node w h) 0 out at out₁ at₁
      first e = cases_end w (select_cases w h) (select_node w h) end (inside.cases e)

      one : (cell_tag w h ≡ tag_join) ⊎ (cell_tag w h ≡ tag_loop) → (cell_tag w h ≡ tag_select → ⊥)
          → PutsNodes w (inner_at w h 0) out at out₁ at₁
      one t d = let z = one_inside total t in rw zero_left at (inside.list d (omega arith))

      none : (cell_tag w h ≡ tag_join → ⊥) → (cell_tag w h ≡ tag_select → ⊥) → (cell_tag w h ≡ tag_loop → ⊥) → (out₁ ≡ out) × (at₁ ≡ at)
      none a b c = let z = no_inside total a b c in inside.nothing b (omega arith)

      go : {t : ℕ} → cell_tag w h ≡ t → OwnLines w h out₁ at₁ out₂ at₂ t → PutsCell w h out at out₂ at₂
      go e (blocks_lines p) = let same = none (omega arith) (omega arith) (omega arith) in
          rw (← same.0, ← same.1) (cell_blocks w h refl e refl p)
      go e (exit_line p) = let same = none (omega arith) (omega arith) (omega arith) in
          rw (← same.0, ← same.1) (cell_exit w h refl e refl refl p)
      go e (select_line p) = cell_select w h refl e refl refl (first e) p
      go e (body_lines p) =
          let d : cell_tag w h ≡ tag_select → ⊥ = omega arith in
          cell_loop w h refl e refl (rw (inner_before w h 0 d (omega arith)) at (one (inr e) d)) p
      go {t} e (no_own_line a b c d x y) =
          elim (ℕ_discrete (cell_tag w h) tag_join) [
            | yes q ↦ rw (x, y) (cell_list w h refl q refl (rw (inner_joined w h 0 q) at (one (inl q) (λ z. c (sym e ∙ z)))))
            | no q ↦ (let same = none q (λ z. c (sym e ∙ z)) (λ z. d (sym e ∙ z)) in
                rw (x, y, same.0, same.1)
                (cell_none w h refl (λ z. a (sym e ∙ z)) q (λ z. b (sym e ∙ z)) (λ z. c (sym e ∙ z)) (λ z. d (sym e ∙ z)) out at))
          ]

-- ---- The functions, path by path.
module _ (w : List ℕ) (h : ℕ) {tag : ℕ} (of_tag : tag ≡ cell_tag w h) where
  by_tag : (P : ℕ → Type 0) {t : ℕ} → tag ≡ t → P t → P (cell_tag w h)
  by_tag P e x = subst P (sym e ∙ of_tag) x

  pub total_cases : {list n : ℕ} → tag ≡ tag_select → list ≡ select_cases w h → CaseTotal w list n → InnerTotal w h n (cell_tag w h)
  total_cases {n = n} e is x = by_tag (InnerTotal w h n) e (each_case (rw is at x))

  pub total_joined : tag ≡ tag_join → InnerTotal w h 1 (cell_tag w h)
  total_joined e = by_tag (InnerTotal w h 1) e (one_joined refl)

  pub total_body : tag ≡ tag_loop → InnerTotal w h 1 (cell_tag w h)
  total_body e = by_tag (InnerTotal w h 1) e (one_body refl)

  pub total_none : (tag ≡ tag_select → ⊥) → (tag ≡ tag_join → ⊥) → (tag ≡ tag_loop → ⊥) → InnerTotal w h 0 (cell_tag w h)
  total_none a b c = by_tag (InnerTotal w h 0) refl (none_inside b a c refl)

  pub at_case : {list c p : ℕ} (j : ℕ) → tag ≡ tag_select → list ≡ select_cases w h → c ≡ case_cell w list j → p ≡ children_of_case w c
      → p ≡ inner_at w h j
  at_case j e is of_case x = x ∙ rw (of_case, is) (sym (inner_case w h j (sym of_tag ∙ e)))

  pub at_joined : {p : ℕ} (j : ℕ) → tag ≡ tag_join → p ≡ join_list w h → p ≡ inner_at w h j
  at_joined j e x = x ∙ sym (inner_joined w h j (sym of_tag ∙ e))

  pub at_before : {p : ℕ} (j : ℕ) → (tag ≡ tag_select → ⊥) → (tag ≡ tag_join → ⊥) → p ≡ loop_body w h → p ≡ inner_at w h j
  at_before j a b x = x ∙ sym (inner_before w h j (λ z. a (of_tag ∙ z)) (λ z. b (of_tag ∙ z)))

  module _ {out out' : List ℕ} {at at' : Place} where
    pub line_case : {list c node : ℕ} (j : ℕ) → tag ≡ tag_select → list ≡ select_cases w h → c ≡ case_cell w list j → node ≡ select_node w h
        → PutsCaseLine w c node j out at out' at' → InnerLine w h j out at out' at' (cell_tag w h)
    line_case j e is of_case of_node x =
        by_tag (InnerLine w h j out at out' at') e (case_line (rw (of_case, is, of_node) at x))

    pub own_blocks : {r : ℕ} → tag ≡ tag_blocks → r ≡ blocks_region w h
        → OfState w (λ g s. Puts out at (nodes_part s (blocks_of g r)) out' at')
        → OwnLines w h out at out' at' (cell_tag w h)
    own_blocks e a p = by_tag (OwnLines w h out at out' at') e (blocks_lines (λ g s c. rw a at (p g s c)))

    pub own_exit : {node r : ℕ} → tag ≡ tag_exit → node ≡ exit_node w h → r ≡ exit_region w h
        → OfState w (λ g s. (op : ℕ) (vs : List Value) → (region g r).terminator ≡ exit_invocation op vs
        → Puts out at (node_part s (exit node op vs)) out' at') → OwnLines w h out at out' at' (cell_tag w h)
    own_exit e a b p =
        by_tag (OwnLines w h out at out' at') e (exit_line (λ g s c op vs t. rw a at (p g s c op vs (rw b t))))

    pub own_select : tag ≡ tag_select → PutsSelectLine w h out at out' at' → OwnLines w h out at out' at' (cell_tag w h)
    own_select e p = by_tag (OwnLines w h out at out' at') e (select_line p)

    pub own_loop : tag ≡ tag_loop → PutsLoopLines w h out at out' at' → OwnLines w h out at out' at' (cell_tag w h)
    own_loop e p = by_tag (OwnLines w h out at out' at') e (body_lines p)

  module _ (out : List ℕ) (at : Place) where
    pub line_none : (j : ℕ) → (tag ≡ tag_select → ⊥) → InnerLine w h j out at out at (cell_tag w h)
    line_none j d = by_tag (InnerLine w h j out at out at) refl (no_inner_line d refl refl)

    pub own_none : (tag ≡ tag_blocks → ⊥) → (tag ≡ tag_exit → ⊥) → (tag ≡ tag_select → ⊥) → (tag ≡ tag_loop → ⊥)
        → OwnLines w h out at out at (cell_tag w h)
    own_none a b c d = by_tag (OwnLines w h out at out at) refl (no_own_line a b c d refl refl)

-- A list that is a loop alone, or not.
module _ (w : List ℕ) (list : ℕ) where
  pub no_list_there : list ≡ 0 → false ≡ is_loop w list
  unfolding is_loop
  no_list_there e = rw (eq-eqb list 0 e)

  pub loop_tag : {tag : ℕ} → (list ≡ 0 → ⊥) → tag ≡ cell_tag w list → eqb tag 5 ≡ is_loop w list
  unfolding is_loop
  loop_tag d e = rw (ne_eqb list 0 d, e)

  module _ {t : Bool} (test : t ≡ is_loop w list) where
    pub walked_body : {p : ℕ} → t ≡ true → p ≡ loop_body w list → p ≡ walked_list w list
    unfolding walked_list
    walked_body e x = x ∙ rw (sym test ∙ e)

    pub walked_itself : t ≡ false → list ≡ walked_list w list
    unfolding walked_list
    walked_itself e = rw (sym test ∙ e)
