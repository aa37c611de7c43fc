-- What a step does to the levels of regions and to the cases of the select under way; and which state, answer or kind a word says.
use Rattle.std.specs.Prelude.{List, [], ◌∷◌, ℕ, ltb, eqb}
use Rattle.state_regions.specs.declared.cases.Case.{Case}
use Rattle.state_regions.specs.declared.cases.CaseKind.{CaseKind}
use Rattle.state_regions.specs.declared.cases.CaseKind.TheVariants as case_kinds
use Rattle.state_regions.specs.declared.regions.RegionState.{RegionState}
use Rattle.state_regions.specs.declared.regions.RegionState.TheVariants as states
use Rattle.state_regions.specs.declared.regions.TargetAnswer.{TargetAnswer}
use Rattle.state_regions.specs.declared.regions.TargetAnswer.TheVariants as answers
use Rattle.state_words.specs.Sections.{word, stored, head}
use Rattle.state_words.specs.Sections.{levels}
use Rattle.meaning.specs.Lists.{pick}
use Rattle.state_words.specs.Rows.{case_word}
use Rattle.state_words.specs.Rows.{cases_at, level, level_at}
use Rattle.state_words.specs.Rows.{level_unreachable, level_deferred, level_claimed}
use Rattle.state_words.specs.Rows.{kind_not_begun, kind_in_progress, kind_ready, kind_claimed}
use Rattle.state_words.specs.Rows.{case_nothing, case_own_edge, case_claimed, case_others}

-- ---- What a word says, and back.
abbrev pub region_state_of : ℕ → RegionState
region_state_of n =
    pick (eqb n kind_not_begun) states.NotBegun
    (pick (eqb n kind_in_progress) states.InProgress
    (pick (eqb n kind_ready) states.Ready
    (pick (eqb n kind_claimed) states.Claimed (states.Unknown n))))

abbrev pub region_state_word : RegionState → ℕ
region_state_word states.NotBegun = kind_not_begun
region_state_word states.InProgress = kind_in_progress
region_state_word states.Ready = kind_ready
region_state_word states.Claimed = kind_claimed
region_state_word (states.Unknown n) = n

abbrev pub target_answer_of : ℕ → TargetAnswer
target_answer_of n =
    pick (eqb n level_unreachable) answers.Unreachable
    (pick (eqb n level_deferred) answers.Deferred
    (pick (eqb n level_claimed) answers.Claimed (answers.Unknown n)))

abbrev pub target_answer_word : TargetAnswer → ℕ
target_answer_word answers.Unreachable = level_unreachable
target_answer_word answers.Deferred = level_deferred
target_answer_word answers.Claimed = level_claimed
target_answer_word (answers.Unknown n) = n

abbrev pub case_kind_of : ℕ → CaseKind
case_kind_of n =
    pick (eqb n case_nothing) case_kinds.NothingDeferred
    (pick (eqb n case_own_edge) case_kinds.OwnEdge
    (pick (eqb n case_claimed) case_kinds.ClaimedRegion
    (pick (eqb n case_others) case_kinds.Others (case_kinds.Unknown n))))

abbrev pub case_kind_word : CaseKind → ℕ
case_kind_word case_kinds.NothingDeferred = case_nothing
case_kind_word case_kinds.OwnEdge = case_own_edge
case_kind_word case_kinds.ClaimedRegion = case_claimed
case_kind_word case_kinds.Others = case_others
case_kind_word (case_kinds.Unknown n) = n

-- ---- Cases.
abbrev pub case_words : Case → List ℕ
case_words x = case_kind_word x.kind ∷ x.origin ∷ x.body ∷ x.children.0 ∷ x.start.0 ∷ x.length ∷ []

unfoldable pub case_total : List ℕ → ℕ
case_total l = pick (ltb (word l head cases_at) 8) (word l head cases_at) 8

abbrev pub case_row : List ℕ → ℕ → Case
case_row l j =
    let field : ℕ → ℕ = λ i. case_word l j i in
    record {
      kind = case_kind_of (field 0);
      origin = field 1;
      body = field 2;
      children = record { 0 = field 3 };
      start = record { 0 = field 4 };
      length = field 5;
    }

unfoldable pub target_answer : List ℕ → ℕ → ℕ → ℕ
target_answer l r j = pick (ltb j 8) (level l r j) level_unreachable

unfoldable pub target_answer_stored : List ℕ → ℕ → ℕ → ℕ → List ℕ
target_answer_stored l r j x = pick (ltb j 8) (stored l levels (level_at r j) x) l
