-- Bundles made of the record, and the cases of a select, as the words alone have them.
use Rattle.std.specs.Prelude.{◌≡◌, List, [], ◌∷◌, ◌++◌, ℕ, zero, suc, ◌+◌, ◌-◌, length, get_or, ltb, eqb}
use Rattle.meaning.specs.Graph.{Graph, Value, const, input, instr, output, bool, undef, held, no_value, region, edges_of}
use Rattle.meaning.specs.Lists.{pick}
use Rattle.fields.specs.ByNumber.{end_values, edge_of}
use Rattle.fields.specs.ItemsAndPlaces.{value_item}
use Rattle.state_regions.specs.declared.cases.Case.{Case}
use Rattle.state_regions.specs.declared.cases.CaseKind.{CaseKind}
use Rattle.state_regions.specs.declared.cases.CaseKind.TheVariants.{NothingDeferred, OwnEdge, ClaimedRegion, Others}
use Rattle.state_words.specs.Sections.{word, stored, stored_all, head, children, bodies, set_starts, set_lengths, cases, bundles}
use Rattle.state_sets.specs.SetTables.{bundle_at, own_edge, input_word, bundle_copied, shift_removed, swapped}
use Rattle.state_regions.specs.RegionTables.{target_answer, case_words}
use Rattle.state_nodes.specs.NodeTables.{inserted}
use Rattle.state_nodes.specs.NodeTables.{Joins}
use Rattle.state_words.specs.Values as state
use Rattle.state_words.specs.Values.{undef_from, input_from, names_nothing}
use Rattle.state_words.specs.Rows.{bundle_condition, bundle_row_at, bundle_target, case_input}
use Rattle.state_words.specs.Rows.{case_row_at, cases_at, entry_replace, level_claimed, level_deferred, return_word}
use Rattle.state_words.specs.Rows.{returned_at, condition_true}
use Rattle.state_words.specs.Rows.{types_at}

-- ---- Targets.
unfoldable pub input_count : Graph → List ℕ → ℕ → ℕ
input_count g l t = pick (eqb t return_word) (word l head returned_at) (length (region g t).inputs)

unfoldable pub target_type : Graph → List ℕ → ℕ → ℕ → ℕ
target_type g l t k = pick (eqb t return_word) (word l head (types_at + k)) (get_or (region g t).inputs k 0)

unfoldable pub condition_in : List ℕ → ℕ → ℕ → ℕ
condition_in l p n = pick (eqb n 1) condition_true (bundle_condition l p)

-- ---- Values of the record as words; a record has no outputs and no marked inputs.
abbrev pub record_word : Value → ℕ
record_word (const i) = state.const_word i
record_word (input r k) = state.region_word input_from r k
record_word (instr r k) = state.instr_word r k
record_word (output o) = names_nothing
record_word (bool b) = state.bool_word b
record_word (undef ty) = state.undef_word ty
record_word (held r k) = names_nothing
record_word no_value = names_nothing

-- Value k of n; beyond them undefined, of type 0.
unfoldable pub padded_by : ℕ → List Value → ℕ → ℕ
padded_by n vs k = pick (ltb k n) (record_word (get_or vs k no_value)) undef_from

abbrev pub padded : List Value → List ℕ
padded vs =
    let word_at : ℕ → ℕ = λ k. padded_by (length vs) vs k in
    word_at 0 ∷ word_at 1 ∷ word_at 2 ∷ word_at 3 ∷ []

-- The same of the values that are listed at place p.
unfoldable pub listed_word : List ℕ → ℕ → ℕ → ℕ → ℕ
listed_word l p n k = pick (ltb k n) (record_word (value_item l p k)) undef_from

abbrev pub listed : List ℕ → ℕ → List ℕ
listed l p =
    let word_at : ℕ → ℕ = λ k. listed_word l p (get_or l p 0) k in
    word_at 0 ∷ word_at 1 ∷ word_at 2 ∷ word_at 3 ∷ []

unfoldable pub edge_deferred : Graph → List ℕ → ℕ → ℕ → ℕ → List ℕ
edge_deferred g l p r j = stored_all l bundles (bundle_row_at p) ((edge_of g r j).target ∷ 1 ∷ 1 ∷ padded (edge_of g r j).inputs)

unfoldable pub return_deferred : Graph → List ℕ → ℕ → List ℕ
return_deferred g l r =
    let p = bundle_at (word l set_starts r) 0 in
    stored (stored_all l bundles (bundle_row_at p) (return_word ∷ 0 ∷ 1 ∷ padded (end_values g r))) set_lengths r 1

-- ---- Cases.
abbrev pub unclaimed_case : CaseKind → ℕ → ℕ → Case
unclaimed_case kind start length =
    record { kind = kind; origin = 0; body = 0; children = record { 0 = 0 }; start = record { 0 = start }; length = length }

abbrev pub claimed_case : List ℕ → ℕ → Case
claimed_case l t =
    record {
      kind = ClaimedRegion;
      origin = t;
      body = word l bodies t;
      children = record { 0 = word l children t };
      start = record { 0 = word l set_starts t };
      length = word l set_lengths t;
    }

unfoldable pub case_filled : Graph → List ℕ → ℕ → ℕ → List ℕ
case_filled g l r j =
    let e = edge_of g r j in
    pick (eqb (target_answer l r j) level_claimed)
    (stored_all l cases (case_row_at j) (case_words (claimed_case l e.target) ++ padded e.inputs))
    (pick (eqb (target_answer l r j) level_deferred)
    (stored_all (edge_deferred g l (own_edge j) r j) cases (case_row_at j) (case_words (unclaimed_case OwnEdge (own_edge j) 1)))
    (stored_all l cases (case_row_at j) (case_words (unclaimed_case NothingDeferred 0 0))))

-- n cases from case j on.
unfoldable pub filled_from : Graph → List ℕ → ℕ → ℕ → ℕ → List ℕ
filled_from g l r zero j = l
filled_from g l r (suc n) j = filled_from g (case_filled g l r j) r n (suc j)

abbrev pub cases_filled : Graph → List ℕ → ℕ → List ℕ
cases_filled g l r =
    let n = length (edges_of (region g r).terminator) in
    filled_from g (stored l head cases_at n) r n 0

unfoldable pub given_word : List ℕ → ℕ → ℕ → ℕ → ℕ
given_word l p n k = pick (ltb k n) (input_word l p k) undef_from

abbrev pub given_inputs : Graph → List ℕ → ℕ → List ℕ
given_inputs g l p =
    let n = length (region g (bundle_target l p)).inputs in
    given_word l p n 0 ∷ given_word l p n 1 ∷ given_word l p n 2 ∷ given_word l p n 3 ∷ []

unfoldable pub split_filled : Graph → List ℕ → ℕ → ℕ → List ℕ
split_filled g l r i =
    let start = word l set_starts r in
    let p = bundle_at start i in
    let rest = shift_removed l r i in
    let first = case_words (claimed_case l (bundle_target l p)) ++ given_inputs g l p in
    stored_all (stored_all (stored rest head cases_at 2) cases (case_row_at 0) first) cases (case_row_at 1)
    (case_words (unclaimed_case Others start (word rest set_lengths r)))

abbrev pub case_inputs : List ℕ → ℕ → List ℕ
case_inputs l j =
    let input_at : ℕ → ℕ = λ k. case_input l j k in
    input_at 0 ∷ input_at 1 ∷ input_at 2 ∷ input_at 3 ∷ []

-- ---- A case that stands alone.
pub data Appends (l l' : List ℕ) (r : ℕ) (x : Case) (j : ℕ) : Type 0 where
  appended : {l₂ : List ℕ} {h : ℕ} → x.kind ≡ ClaimedRegion
      → Joins (inserted l x.body entry_replace (case_inputs l j)) l₂
      (word (inserted l x.body entry_replace (case_inputs l j)) children r) x.children.0 h
      → l' ≡ stored (swapped (stored l₂ children r h) r x.origin) set_lengths r x.length → Appends l l' r x j
  its_edge : x.kind ≡ OwnEdge
      → l' ≡ stored (bundle_copied l (bundle_at (word l set_starts r) 0) x.start.0) set_lengths r x.length
      → Appends l l' r x j
  its_rest : (x.kind ≡ ClaimedRegion → ⊥) → (x.kind ≡ OwnEdge → ⊥) → l' ≡ stored l set_lengths r x.length → Appends l l' r x j
