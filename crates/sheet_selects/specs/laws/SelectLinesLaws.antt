-- The parts of a case's line and of a select's, put from the back, are the whole line of the definition.
use Rattle.std.specs.Prelude.{◌≡◌, List, [], ◌∷◌, ℕ}
use Rattle.std.proofs.Common.{sym, ◌∙◌, eq-eqb, ne_eqb, arith}
use Rattle.meaning.specs.Graph.{SelectionKind}
use Rattle.nesting.specs.Nesting.{plain, case_outputs}
use Rattle.nesting.specs.Sheet as sheet
use Rattle.nesting.specs.SheetNumbers.{lead_select}
use Rattle.state_words.specs.Rows.{select_node, select_shape, select_scrutinee, select_cases, case_region, children_of_case, bool_shape}
use Rattle.state_shown.specs.Values.{value}
use Rattle.state_shown.specs.Tables.{ShowsShape, shape_bool, shape_number}
use Rattle.sheet_words.specs.declared.place.Place.{Place}
use Rattle.sheet_words.specs.PutInFront.{Puts}
use Rattle.sheet_words.specs.laws.PutInFrontLaws.{puts_then, puts_as}
use Rattle.sheet_words.specs.Parts.{OfState, value_part}
use Rattle.sheet_regions.specs.declared.region_line.RegionInputs.TheVariants.{None}
use Rattle.sheet_regions.specs.RegionLine.{no_types, PutsRegionLine}
use Rattle.sheet_regions.specs.laws.RegionLineLaws.{line_put}
use Rattle.sheet_selects.specs.laws.SelectPartsLaws.{select_line}
use Rattle.sheet_selects.specs.OwnOutputs.{PutsCaseOutputs, PutsOutputTypes}
use Rattle.sheet_selects.specs.CaseNumbers.{PutsCaseNumbers}
use Rattle.sheet_selects.specs.SelectLines.{kind_word, PutsCaseLine, PutsSelectLine}

kind_shown : {shape n : ℕ} {kind : SelectionKind} → ShowsShape shape n kind → (sheet.kind kind).words ≡ kind_word shape ∷ []
unfolding kind_word
kind_shown {shape} (shape_bool e _) = rw (eq-eqb shape bool_shape e)
kind_shown {shape} (shape_number some _ _) = rw (ne_eqb shape bool_shape (λ z. omega arith))

pub case_line_put : (w : List ℕ) (h node j : ℕ) {list r : ℕ} {out₀ out₁ out₂ : List ℕ} {at₀ at₁ at₂ : Place}
    → PutsCaseOutputs w node j out₀ at₀ out₁ at₁ → r ≡ case_region w h → list ≡ children_of_case w h
    → PutsRegionLine w r None list out₁ at₁ out₂ at₂ → PutsCaseLine w h node j out₀ at₀ out₂ at₂
case_line_put w h node j outputs of_region of_list line g s x ns nodes shown =
    line_put s (case_region w h) [] ns (case_outputs node j s.node_outputs) (outputs g s x shown)
    (rw of_region at (line g s x [] ns no_types (rw of_list nodes)))

pub select_line_put : (w : List ℕ) (h : ℕ) {node list v shape kind : ℕ} {out₀ out₁ out₂ out₃ out₄ : List ℕ} {at₀ at₁ at₂ at₃ at₄ : Place}
    → node ≡ select_node w h → PutsOutputTypes w node out₀ at₀ out₁ at₁
    → list ≡ select_cases w h → PutsCaseNumbers w list out₁ at₁ out₂ at₂
    → v ≡ select_scrutinee w h → OfState w (λ g s. Puts out₂ at₂ (value_part s (value v)) out₃ at₃)
    → shape ≡ select_shape w h → kind ≡ kind_word shape → Puts out₃ at₃ (plain (lead_select ∷ node ∷ kind ∷ [])) out₄ at₄
    → PutsSelectLine w h out₀ at₀ out₄ at₄
select_line_put w h of_node types of_list cases of_value scrutinee of_shape of_kind front g s x kind v cs shape is shown =
    let a = rw of_node at (types g s x) in
    let b = cases g cs (rw of_list shown) in
    let c = rw (of_value, is) at (scrutinee g s x) in
    let d = rw (of_kind, of_shape, of_node) at front in
    puts_as (puts_then (puts_then (puts_then a b) c) d)
    (sym (select_line s (select_node w h) kind v cs ∙ rw (kind_shown shape)))
