-- The proved cases of document 01, from the bytes of a store to the printed answer, in one list; the last ones are ours.
use Rattle.std.specs.Prelude.{◌≡◌, refl, Bool, true, false, ◌&&◌, List, [], ◌∷◌, ◌++◌, map, ℕ, suc, length, get_or, eqb, leb}
use Rattle.std.proofs.Common.{◌∙◌}
use Rattle.std.proofs.Math.Option.{Option}
use Prim.Native.String.{String}
use Rattle.meaning.specs.Graph.{Graph, return, unreachable, branch}
use Rattle.format.specs.Store.{Answer, accepted, refused}
use Rattle.format.specs.Accept.{accept}
use Rattle.nesting.specs.Nesting.{RewriteEntry, done, turned_away, ClaimedRegion, incoming_edge_counts, try_claim_edge_bundle}
use Rattle.nesting.specs.Nesting.{initial_state}
use Rattle.nesting.specs.Nesting
use Rattle.meaning.specs.Text.{Text, ascii}
use Rattle.nesting.specs.cases.Computes.{nesting_computes}
use Rattle.format.specs.stores.Pack.{store_of_graph}
use Rattle.nesting.specs.Sheet.{printed}
use Rattle.format.specs.stores.Quick.{quick_accept, same_accept}
use Rattle.nesting.specs.cases.QuickPrint.{quick_printed, prints}
use Rattle.nesting.specs.cases.CaseGraphs.{A, B, one_region, to, both_the_same, many_targets, regions, no_loop, one_goes_on}
use Rattle.nesting.specs.cases.CaseGraphs.{loop_in_loop, two_exits, renumbered, crossing, dear}
use Rattle.meaning.specs.facts.Tests.{and_both}
use Rattle.meaning.specs.Lists.{pick}
use Rattle.meaning.specs.facts.Elements.{same_numbers, numbers_same}

-- What a case shows: the printed answer, and the wrapper regions of its loops, which the sheet does not name.
pub record CaseShown : Type 0 where
  pub prints : Text
  pub wrappers : List ℕ

pub record Case : Type 0 where
  pub store : List ℕ
  pub shows : CaseShown

abbrev pub lines : List String → Text
lines [] = []
lines (l ∷ ls) = ascii l ++ ascii "\n" ++ lines ls

abbrev pub case : Graph → List String → List ℕ → Case
case g ls ws = record { store = store_of_graph g; shows = record { prints = lines ls; wrappers = ws } }

-- ---- what the definitions show
-- Added regions, from n on, whose inputs were replaced: a claimed loop is put in place by its wrapper.
abbrev pub added : ℕ → List RewriteEntry → List ℕ
added n [] = []
added n (e ∷ es) = pick (leb n e.region) (e.region ∷ added n es) (added n es)

abbrev pub wrappers_after : ℕ → Nesting.StepAnswer (Option ClaimedRegion) → List ℕ
wrappers_after n (done c s) = added n s.region_input_rewrites
wrappers_after n (turned_away refusal word) = []

unfoldable pub wrappers_of : Answer Graph → List ℕ
unfolding incoming_edge_counts try_claim_edge_bundle
wrappers_of (refused n w) = []
wrappers_of (accepted g) =
    elim (eqb (get_or (incoming_edge_counts g) g.entry 0) 1) [
      | false ↦ []
      | true ↦
          wrappers_after (length g.regions) (
          try_claim_edge_bundle g (incoming_edge_counts g) (suc (length g.regions)) g.entry 1 [] (initial_state g)
          )
    ]

unfoldable pub shown : List ℕ → CaseShown
shown s = record { prints = printed s; wrappers = wrappers_of (accept s) }

-- ---- document 01's cases
abbrev pub case_A : Case
case_A = case A (
    "whole figure 11 attempts 8 twice 0"
    ∷ "region 0 in - kids 0,3 out n3.0"
    ∷ "block 0 0.0/7/1/-"
    ∷ "select 3 bool d0.0 cases 1,2 out 2"
    ∷ "region 1 in - kids 1 out c0"
    ∷ "block 1 1.0/8/0/-"
    ∷ "region 2 in - kids 2 out c1"
    ∷ "block 2 2.0/9/0/-"
    ∷ []
    ) []

abbrev pub case_B : Case
case_B = case B (
    "whole figure 100 attempts 7 twice 0"
    ∷ "region 0 in - kids 2 out -"
    ∷ "loop 2 in true body 1 repeat d1.0"
    ∷ "region 1 in 1 kids 0,1 out d1.0"
    ∷ "block 0 1.0/5/1/-"
    ∷ "select 1 bool d1.0 cases 3,4 out -"
    ∷ "region 3 in - kids - out -"
    ∷ "region 4 in - kids - out -"
    ∷ []
    ) (5 ∷ [])

-- The whole sheet of a form without children: outcome and attempts, then its one region.
abbrev pub empty_form : String → List String
empty_form line_1 = line_1 ∷ "region 0 in - kids - out -" ∷ []

-- A; B; one region, Return; one region, Unreachable; a branch to the entry; both targets the same empty Return region;
-- 8 targets, and 9; 32 regions, and 33; an empty store.
abbrev pub document_cases : List Case
document_cases =
    case_A
    ∷ case_B
    ∷ case (one_region (return [])) (empty_form "whole figure 0 attempts 1 twice 0") []
    ∷ case (one_region unreachable) (empty_form "closed figure 0 attempts 1 twice 0") []
    ∷ case (one_region (branch (to 0 []))) ("untouched figure - attempts 0 twice 0" ∷ []) []
    ∷ case both_the_same (empty_form "whole figure 0 attempts 4 twice 0") []
    ∷ case (many_targets 8) (empty_form "whole figure 0 attempts 9 twice 0") []
    ∷ case (many_targets 9) ("refused 5 0" ∷ []) []
    ∷ case (regions 32) (empty_form "whole figure 0 attempts 32 twice 0") []
    ∷ case (regions 33) ("refused 5 0" ∷ []) []
    ∷ record { store = []; shows = record { prints = lines ("refused 1 0" ∷ []); wrappers = [] } }
    ∷ []

-- ---- ours
abbrev pub case_no_loop : Case
case_no_loop = case no_loop (
    "leftover figure - attempts 3 twice 0"
    ∷ "region 0 in - kids - out -"
    ∷ "region 1 in - kids - out -"
    ∷ "defer 0 to 1 count 1 in - if t"
    ∷ "defer 1 to return count 0 in - if t"
    ∷ []
    ) []

abbrev pub case_one_goes_on : Case
case_one_goes_on = case one_goes_on (
    "whole figure 4 attempts 3 twice 0"
    ∷ "region 0 in - kids 2,0 out -"
    ∷ "select 2 bool true cases 3,2 out -"
    ∷ "region 3 in - kids - out -"
    ∷ "region 2 in - kids 1 out -"
    ∷ "exit 1 9 in -"
    ∷ "block 0 1.0/7/0/-"
    ∷ []
    ) []

abbrev pub case_loop_in_loop : Case
case_loop_in_loop = case loop_in_loop (
    "closed figure 246 attempts 8 twice 0"
    ∷ "region 0 in - kids 3 out -"
    ∷ "loop 3 in - body 1 repeat true"
    ∷ "region 1 in - kids 2 out -"
    ∷ "loop 2 in - body 2 repeat n1.0"
    ∷ "region 2 in - kids 0,1 out -"
    ∷ "block 0 2.0/5/1/-"
    ∷ "select 1 bool d2.0 cases 3,4 out 1"
    ∷ "region 3 in - kids - out false"
    ∷ "region 4 in - kids - out true"
    ∷ []
    ) (5 ∷ 6 ∷ [])

abbrev pub case_two_exits : Case
case_two_exits = case two_exits (
    "whole figure 28 attempts 16 twice 0"
    ∷ "region 0 in - kids 4 out -"
    ∷ "loop 4 in - body 1 repeat n3.0"
    ∷ "region 1 in - kids 0,3 out -"
    ∷ "block 0 1.0/7/1/-"
    ∷ "select 3 bool d1.0 cases 2,7 out 1"
    ∷ "region 2 in - kids 1,2 out d2.0"
    ∷ "block 1 2.0/8/1/-"
    ∷ "select 2 bool d2.0 cases 5,6 out -"
    ∷ "region 5 in - kids - out -"
    ∷ "region 6 in - kids - out -"
    ∷ "region 7 in - kids - out false"
    ∷ []
    ) (8 ∷ [])

abbrev pub case_renumbered : Case
case_renumbered = case renumbered (
    "closed figure 150 attempts 8 twice 1"
    ∷ "region 0 in 1 kids 3 out -"
    ∷ "loop 3 in c0 body 1 repeat true"
    ∷ "region 1 in 1 kids 2 out i2.0"
    ∷ "loop 2 in c0 body 2 repeat d2.0"
    ∷ "region 2 in 1 kids 0,1 out d2.0"
    ∷ "block 0 2.0/7/1/i0.0"
    ∷ "select 1 bool d2.0 cases 3,4 out -"
    ∷ "region 3 in - kids - out -"
    ∷ "region 4 in - kids - out -"
    ∷ []
    ) (5 ∷ 6 ∷ [])

abbrev pub case_crossing : Case
case_crossing = case crossing (
    "leftover figure - attempts 10 twice 0"
    ∷ "region 0 in - kids 0,3 out -"
    ∷ "block 0 0.0/7/1/-"
    ∷ "select 3 bool d0.0 cases 5,6 out -"
    ∷ "region 5 in - kids - out -"
    ∷ "region 6 in - kids - out -"
    ∷ "region 1 in - kids 1,2 out -"
    ∷ "block 1 1.0/8/1/-"
    ∷ "select 2 bool d1.0 cases 4,3 out -"
    ∷ "region 4 in - kids - out -"
    ∷ "region 3 in - kids - out -"
    ∷ "region 2 in - kids - out -"
    ∷ "defer 0 to 1 count 1 in - if m3[t,f]"
    ∷ "defer 0 to 2 count 1 in - if m3[f,t]"
    ∷ "defer 1 to 2 count 1 in - if m2[t,f]"
    ∷ "defer 1 to return count 0 in - if m2[f,t]"
    ∷ "defer 2 to 1 count 1 in - if t"
    ∷ []
    ) []

abbrev pub case_dear : Case
case_dear = case dear ("refused 11 0" ∷ []) (5 ∷ [])

abbrev pub cases : List Case
cases =
    document_cases
    ++ (
    case_no_loop
    ∷ case_one_goes_on
    ∷ case_loop_in_loop
    ∷ case_two_exits
    ∷ case_renumbered
    ∷ case_crossing
    ∷ case_dear
    ∷ []
    )

-- ---- computed, by the quick walk along each store
unfoldable pub quick_shown : List ℕ → CaseShown
quick_shown s = record { prints = quick_printed s; wrappers = wrappers_of (quick_accept s) }

same_shown : (s : List ℕ) → shown s ≡ quick_shown s
unfolding shown quick_shown
same_shown s = rw (prints s (quick_printed s) refl, same_accept s)

-- ---- the test that is computed: one bit
abbrev pub right : Case → Bool
right c = same_numbers (quick_shown c.store).prints c.shows.prints
    && same_numbers (quick_shown c.store).wrappers c.shows.wrappers

unfoldable pub all_right : List Case → Bool
all_right [] = true
all_right (c ∷ cs) = right c && all_right cs

shown_same : (a b : CaseShown) → a.prints ≡ b.prints → a.wrappers ≡ b.wrappers → a ≡ b
shown_same a b p q = λ i. record { prints = p i; wrappers = q i }

case_right : (c : Case) → right c ≡ true → shown c.store ≡ c.shows
case_right c e =
    let q = quick_shown c.store in
    let h = and_both (same_numbers q.prints c.shows.prints) (same_numbers q.wrappers c.shows.wrappers) e in
    same_shown c.store
    ∙ shown_same q c.shows (numbers_same q.prints c.shows.prints h.0) (numbers_same q.wrappers c.shows.wrappers h.1)

all_shown : (cs : List Case) → all_right cs ≡ true → map (λ c. shown c.store) cs ≡ map (λ c. c.shows) cs
unfolding all_right
all_shown [] e = refl
all_shown (c ∷ cs) e =
    let h = and_both (right c) (all_right cs) e in
    rw (case_right c h.0, all_shown cs h.1)

-- For each case of the list the definitions show, from its bytes, what it states.
pub proved_cases : map (λ c. shown c.store) cases ≡ map (λ c. c.shows) cases
unfolding all_right quick_shown quick_printed quick_accept nesting_computes wrappers_of store_of_graph
proved_cases = all_shown cases refl
