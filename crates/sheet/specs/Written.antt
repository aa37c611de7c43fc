-- A whole sheet in the lent words: what is put, measured and written, as the definition's sheet has it.
use Rattle.std.specs.Prelude.{◌≡◌, Bool, ◌||◌, List, [], ◌∷◌, ◌++◌, ℕ, ◌-◌, ◌≤◌, ◌<◌, length, drop, min, Result, Ok, Err}
use Rattle.meaning.specs.Lists.{pick}
use Rattle.meaning.specs.Graph.{Graph}
use Rattle.meaning.specs.Runs.{Nodes, ⟨⟩}
use Rattle.nesting.specs.Nesting.{NestState, Nested, untouched, whole, closed, leftover, piece, conclude_with, unclaimed_from, plain}
use Rattle.nesting.specs.Nesting.{DeferredEdgeBundle, DeferredEdgeBundleSet, region_body}
use Rattle.nesting.specs.Sheet as sheet
use Rattle.state_words.specs.Sections.{word, head}
use Rattle.state_shown.specs.States.{ShowsBody}
use Rattle.sheet_words.specs.declared.place.Place.{Place}
use Rattle.sheet_words.specs.PutInFront.{Puts, written}
use Rattle.sheet_words.specs.Parts.{OfState, most}
use Rattle.sheet.specs.declared.whole.TooFew.{TooFew}
use Rattle.sheet_nodes.specs.Whole.{nested_lines, nested_words}
use Rattle.state_words.specs.Rows.{attempts_at, kind_claimed, region_kind, twice_at}

-- ---- How the words show a nested answer: by the number of its outcome, and the entry's children and set.
pub data ShowsAnswer (g : Graph) (w : List ℕ) (s : NestState) (x : Nested) : ℕ → Type 0 where
  shows_untouched : x ≡ conclude_with g s untouched (piece g g.entry ⟨⟩ [] []) [] → ShowsAnswer g w s x 0
  shows_whole : {ks : Nodes} {e : DeferredEdgeBundle} → ShowsBody g w g.entry (region_body ks (e ∷ []))
      → x ≡ conclude_with g s whole (piece g g.entry ks e.target_inputs []) [] → ShowsAnswer g w s x 1
  shows_closed : {ks : Nodes} → ShowsBody g w g.entry (region_body ks [])
      → x ≡ conclude_with g s closed (piece g g.entry ks [] []) [] → ShowsAnswer g w s x 2
  shows_leftover : {ks : Nodes} {d : DeferredEdgeBundleSet} → region_kind w g.entry ≡ kind_claimed
      → ShowsBody g w g.entry (region_body ks d)
      → x ≡ conclude_with g s leftover (piece g g.entry ks [] d) (unclaimed_from g 0 s.region_states) → ShowsAnswer g w s x 3

-- Of every answer that the words show under the outcome's number.
abbrev pub OfShownAnswer : List ℕ → ℕ → (Graph → NestState → Nested → Type 0) → Type 0
OfShownAnswer w outcome P = OfState w (λ g s. (x : Nested) → ShowsAnswer g w s x outcome → P g s x)

-- The words behind line 1.
abbrev pub behind_head : Nested → List ℕ
behind_head x = elim x.outcome [
  | untouched ↦ []
  | whole ↦ nested_lines most x
  | closed ↦ nested_lines most x
  | leftover ↦ nested_lines most x
]

-- The lines behind line 1 are put; with the note so far theirs is the answer's.
pub record LinesPut (s : NestState) (x : Nested) (out : List ℕ) (at : Place) (out' : List ℕ) (at' : Place) : Type 0 where
  pub twice : Bool
  pub noted : (s.twice || twice) ≡ x.twice
  pub puts : Puts out at (record { value = behind_head x; twice = twice }) out' at'

abbrev pub PutsLines : List ℕ → ℕ → List ℕ → Place → List ℕ → Place → Type 0
PutsLines w outcome out at out' at' = OfShownAnswer w outcome (λ g s x. LinesPut s x out at out' at')

-- ---- Line 1.
abbrev pub twice_word : List ℕ → Place → ℕ
twice_word w at = pick at.twice 1 (word w head twice_at)

abbrev pub PutsHead : List ℕ → ℕ → ℕ → List ℕ → Place → List ℕ → Place → Type 0
PutsHead w outcome figure out at out' at' =
    Puts out at (plain (outcome ∷ figure ∷ word w head attempts_at ∷ twice_word w at ∷ [])) out' at'

-- ---- The whole.
pub record SheetPut (ws out : List ℕ) (end : ℕ) (out' : List ℕ) (a : ℕ) : Type 0 where
  pub begins : a ≡ end - length ws
  pub words : out' ≡ written out end ws

abbrev pub OfSheet : List ℕ → ℕ → ℕ → (Graph → Nested → Type 0) → Type 0
OfSheet w outcome figure P = OfShownAnswer w outcome (λ g s x. figure ≡ (sheet.sheet_of g x).figure → P g x)

abbrev pub PutsSheet : List ℕ → ℕ → ℕ → List ℕ → ℕ → List ℕ → ℕ → Type 0
PutsSheet w outcome figure out end out' a = OfSheet w outcome figure (λ g x. SheetPut (nested_words most g x) out end out' a)

abbrev pub far : ℕ
far = 1099511627776

abbrev pub Measures : List ℕ → ℕ → ℕ → ℕ → Type 0
Measures w outcome figure a = OfSheet w outcome figure (λ g x. a ≡ far - (far - length (nested_words most g x)))

-- How many words are lent; no more than a word can say are used.
abbrev pub lent : List ℕ → ℕ
lent out = min (length out) 4294967295

pub data SheetWritten (ws out out' : List ℕ) : Result ℕ TooFew → Type 0 where
  sheet_written : {n : ℕ} → n ≡ length ws → length ws ≤ lent out → out' ≡ ws ++ drop (length ws) out → SheetWritten ws out out' (Ok n)
  too_few : lent out < length ws → out' ≡ out → SheetWritten ws out out' (Err (record {}))

abbrev pub WritesSheet : List ℕ → ℕ → ℕ → List ℕ → List ℕ → Result ℕ TooFew → Type 0
WritesSheet w outcome figure out out' a =
    OfSheet w outcome figure (λ g x. SheetWritten (sheet.sheet_words (sheet.sheet_of g x)) out out' a)
