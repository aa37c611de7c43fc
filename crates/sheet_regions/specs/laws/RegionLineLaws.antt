-- A region's line: its parts in turn make its front, and the front before its outputs is the line that the definition has.
use Rattle.std.specs.Prelude.{◌≡◌, List, [], ◌∷◌, ℕ, length}
use Rattle.meaning.specs.Graph.{Value, region}
use Rattle.meaning.specs.Runs.{Nodes}
use Rattle.nesting.specs.Nesting.{NestState, LoopInputs, plain}
use Rattle.nesting.specs.SheetNumbers.{lead_region}
use Rattle.record.specs.Stands.{OfRecord}
use Rattle.state_words.specs.declared.handles.Handle.{Handle}
use Rattle.sheet_words.specs.declared.place.Place.{Place}
use Rattle.sheet_words.specs.PutInFront.{Puts}
use Rattle.sheet_words.specs.laws.PutInFrontLaws.{puts_then}
use Rattle.sheet_words.specs.Parts.{OfState, values_part, region_part}
use Rattle.sheet_regions.specs.declared.region_line.RegionInputs.{RegionInputs}
use Rattle.sheet_regions.specs.declared.region_line.RegionInputs.TheVariants.{None, All, Kept}
use Rattle.sheet_regions.specs.Kept.{KeepsInputs}
use Rattle.sheet_regions.specs.Lists.{PutsKids}
use Rattle.sheet_regions.specs.RegionLine.{HasTypes, no_types, all_types, kept_types, region_front, PutsTypes, PutsRegionLine}

-- ---- The types, by the inputs that are named.
module _ (w : List ℕ) (r : ℕ) {inputs : RegionInputs} {out out' : List ℕ} {at at' : Place} where
  pub types_none : inputs ≡ None → Puts out at (plain (0 ∷ [])) out' at' → PutsTypes w r inputs out at out' at'
  types_none e p g s x ts has = go (rw e at has)
    where
      go : {ts : List ℕ} → HasTypes g w r None ts → Puts out at (plain (length ts ∷ ts)) out' at'
      go no_types = p

  pub types_all : inputs ≡ All → OfRecord w (λ g. Puts out at (plain (length (region g r).inputs ∷ (region g r).inputs)) out' at')
      → PutsTypes w r inputs out at out' at'
  types_all e p g s x ts has = go (rw e at has)
    where
      go : {ts : List ℕ} → HasTypes g w r All ts → Puts out at (plain (length ts ∷ ts)) out' at'
      go all_types = p g x.state.stands

  pub types_kept : {list : Handle} → inputs ≡ Kept list
      → OfState w (λ g s. (y : LoopInputs) → KeepsInputs g w r list.0 y → Puts out at (plain (length y.types ∷ y.types)) out' at')
      → PutsTypes w r inputs out at out' at'
  types_kept {list} e p g s x ts has = go (rw e at has)
    where
      go : {ts : List ℕ} → HasTypes g w r (Kept list) ts → Puts out at (plain (length ts ∷ ts)) out' at'
      go (kept_types y keeps) = p g s x y keeps

-- ---- Child nodes, types, region, lead.
pub front_put : (w : List ℕ) (r list : ℕ) (inputs : RegionInputs) {out out₁ out₂ out₃ out₄ : List ℕ} {at at₁ at₂ at₃ at₄ : Place}
    → PutsKids w list out at out₁ at₁ → PutsTypes w r inputs out₁ at₁ out₂ at₂ → Puts out₂ at₂ (plain (r ∷ [])) out₃ at₃
    → Puts out₃ at₃ (plain (lead_region ∷ [])) out₄ at₄ → PutsRegionLine w r inputs list out at out₄ at₄
front_put w r list inputs kids types number lead g s x ts ks has shown =
    puts_then (puts_then (puts_then (kids g x.state.stands ks shown) (types g s x ts has)) number) lead

-- Behind its front stand the outputs.
pub line_put : (s : NestState) (r : ℕ) (ts : List ℕ) (ks : Nodes) (vs : List Value) {out out₁ out₂ : List ℕ} {at at₁ at₂ : Place}
    → Puts out at (values_part s vs) out₁ at₁ → Puts out₁ at₁ (plain (region_front r ts ks)) out₂ at₂
    → Puts out at (region_part s r ts ks vs) out₂ at₂
unfolding region_part values_part
line_put s r ts ks vs outputs front = puts_then outputs front
