-- The regions of the cases, put from the last to the first, with their count in front. The count is not held back: a handle has no more
-- cases than its number.
use Rattle.std.specs.Prelude.{◌≡◌, List, [], ◌∷◌, ℕ, ◌+◌, ◌≤◌, length}
use Rattle.std.proofs.Common.{arith}
use Rattle.meaning.specs.Graph.{Graph}
use Rattle.meaning.specs.Runs.{Cases}
use Rattle.nesting.specs.Nesting.{plain}
use Rattle.nesting.specs.Sheet.{case_numbers}
use Rattle.state_words.specs.Sections.{section, cells}
use Rattle.state_words.specs.Rows.{cases_after, case_region}
use Rattle.state_shown.specs.Cells.{ShowsCaseCells, no_cases, case_and}
use Rattle.state_lists.specs.CellByCell.{FirstCase, case_first}
use Rattle.state_lists.specs.laws.CellByCellLaws.{first_case}
use Rattle.sheet_words.specs.declared.place.Place.{Place}
use Rattle.sheet_words.specs.PutInFront.{Puts}
use Rattle.sheet_words.specs.laws.PutInFrontLaws.{puts_then}
use Rattle.sheet_regions.specs.declared.Counted.{Counted}
use Rattle.sheet_regions.specs.Numbers.{PutsNumbers}
use Rattle.sheet_regions.specs.laws.NumbersLaws.{numbers_none, numbers_then, most_whole}
use Rattle.sheet_selects.specs.CaseNumbers.{PutsRegions, PutsCaseNumbers}

pub no_regions : (w : List ℕ) {list : ℕ} (out : List ℕ) (x : Counted) → list ≡ 0 → x.count ≤ 4294967295 → PutsRegions w list out x out x
no_regions w {list} out x z h g cs shown = go shown
  where
    go : {cs : Cases} → ShowsCaseCells g (section w cells) list cs → PutsNumbers out x (case_numbers cs) out x
    go (no_cases _) = numbers_none out x h
    go (case_and _ p _ _ _ _) = absurd (omega arith)

pub first_region : (w : List ℕ) {list q n : ℕ} {out out₁ out₂ : List ℕ} {x x₁ x₂ : Counted} → (list ≡ 0 → ⊥) → q ≡ cases_after w list
    → PutsRegions w q out x out₁ x₁ → n ≡ case_region w list → PutsNumbers out₁ x₁ (n ∷ []) out₂ x₂ → PutsRegions w list out x out₂ x₂
first_region w {list} {out = out} {out₂ = out₂} {x = x} {x₂ = x₂} some of_rest p of_region last g cs shown =
    go (first_case w shown (omega arith))
  where
    go : {cs : Cases} → FirstCase g w list cs → PutsNumbers out x (case_numbers cs) out₂ x₂
    go (case_first {ns} {cs} _ rest e) = rw e (numbers_then (p g cs (rw of_rest rest)) (rw of_region at last))

-- No handle has more cases than it is high.
few_cases : {g : Graph} {l : List ℕ} {h : ℕ} {cs : Cases} → ShowsCaseCells g l h cs → length (case_numbers cs) ≤ h
few_cases (no_cases _) = omega arith
few_cases (case_and _ p _ _ rest e) = let n = few_cases rest in rw e (omega arith)

pub case_numbers_put : (w : List ℕ) {list : ℕ} {out out₁ out₂ : List ℕ} {at at' : Place} {x : Counted} → list ≤ 65535
    → PutsRegions w list out (record { at = at; count = 0 }) out₁ x → Puts out₁ x.at (plain (x.count ∷ [])) out₂ at'
    → PutsCaseNumbers w list out at out₂ at'
case_numbers_put w few p q g cs shown =
    let n = p g cs shown in
    let size = few_cases shown in
    let e : 0 + length (case_numbers cs) ≡ length (case_numbers cs) = omega arith in
    puts_then n.puts (rw (n.count, e, ← most_whole (length (case_numbers cs)) (omega arith)) at q)
