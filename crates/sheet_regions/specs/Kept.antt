-- The inputs that a loop keeps, along their cells: each names the one before it, and the last is put first.
use Rattle.std.specs.Prelude.{◌≡◌, refl, Bool, true, false, List, [], ◌∷◌, ◌++◌, map, ℕ, ◌≤◌, length, get_or}
use Rattle.std.proofs.Common.{sym, ap, ◌∙◌, arith, lt-ltb}
use Rattle.std.proofs.lemmas.List.{map-append, length-map}
use Rattle.meaning.specs.Graph.{Value, Graph, region}
use Rattle.meaning.specs.Lists.{pick}
use Rattle.nesting.specs.Nesting.{NestState, plain, LoopInputs}
use Rattle.state_words.specs.Sections.{section, cells}
use Rattle.state_words.specs.Values.{region_word, input_from}
use Rattle.state_words.specs.Rows.{earlier, cell_before, kept_input, kept_wrapper, kept_back}
use Rattle.state_shown.specs.Values.{value}
use Rattle.state_shown.specs.laws.ValueWords.{value_input}
use Rattle.state_shown.specs.Cells.{ShowsKept, none_kept, one_kept}
use Rattle.sheet_words.specs.declared.place.Place.{Place}
use Rattle.sheet_words.specs.PutInFront.{Part, Puts}
use Rattle.sheet_words.specs.laws.PutInFrontLaws.{◌⊕◌}
use Rattle.sheet_words.specs.laws.PartLaws.{numbers_listed, values_counted, each_map}
use Rattle.sheet_words.specs.Parts.{each, value_part, values_part}

-- The inputs that the loop of header r keeps, by the list's handle.
abbrev pub KeepsInputs : Graph → List ℕ → ℕ → ℕ → LoopInputs → Type 0
KeepsInputs g w r list y = ShowsKept g (section w cells) r list y.initial_inputs y.types y.outputs

-- What is passed back at the end of a turn, and what is passed to the first one: of the cell h, and of all.
unfoldable pub kept_word : List ℕ → Bool → ℕ → ℕ
kept_word w back h = pick back (kept_back w h) (region_word input_from (kept_wrapper w h) (kept_input w h))

abbrev pub kept_values : Bool → LoopInputs → List Value
kept_values back y = pick back y.outputs y.initial_inputs

abbrev pub kept_type : Graph → List ℕ → ℕ → ℕ → ℕ
kept_type g w r h = get_or (region g r).inputs (kept_input w h) 0

-- ---- The cells of a list, from its first on.
pub data Chain (w : List ℕ) : ℕ → List ℕ → Type 0 where
  no_cell : {h : ℕ} → h ≡ 0 → Chain w h []
  then_cell : {h : ℕ} {hs hs' : List ℕ} → 1 ≤ h → Chain w (cell_before w h) hs → hs' ≡ hs ++ (h ∷ []) → Chain w h hs'

pub record KeptCells (g : Graph) (w : List ℕ) (r list : ℕ) (is : List Value) (ts : List ℕ) (os : List Value) : Type 0 where
  pub handles : List ℕ
  pub chain : Chain w list handles
  pub initial : is ≡ map (λ h. value (kept_word w false h)) handles
  pub types : ts ≡ map (kept_type g w r) handles
  pub outputs : os ≡ map (λ h. value (kept_word w true h)) handles

one_more : {A : Type 0} {xs ys : List A} {x : A} (f : ℕ → A) (hs : List ℕ) (h : ℕ) → ys ≡ xs ++ (x ∷ []) → xs ≡ map f hs → x ≡ f h
    → ys ≡ map f (hs ++ (h ∷ []))
one_more f hs h e d a = e ∙ rw (d, a, map-append f hs (h ∷ []))

pub kept_cells : {g : Graph} (w : List ℕ) {r h : ℕ} {is os : List Value} {ts : List ℕ} → ShowsKept g (section w cells) r h is ts os
    → KeptCells g w r h is ts os
unfolding kept_word earlier
kept_cells w (none_kept e) = record { handles = []; chain = no_cell e; initial = refl; types = refl; outputs = refl }
kept_cells {g} w {r} {h} (one_kept {p = p} {k = k} {wrapper = wrapper} x below few low before v a b c) =
    let y = kept_cells w before in
    record {
      handles = y.handles ++ (h ∷ []);
      chain = then_cell {h = h} {hs = y.handles} (omega arith) (rw (x.is 1 (omega arith), lt-ltb p h below) y.chain) refl;
      initial = one_more (λ h. value (kept_word w false h)) y.handles h a y.initial
          (rw (x.is 2 (omega arith), x.is 3 (omega arith)) (sym (value_input wrapper k low few)));
      types = one_more (kept_type g w r) y.handles h b y.types (rw (x.is 2 (omega arith)));
      outputs = one_more (λ h. value (kept_word w true h)) y.handles h c y.outputs (rw (x.is 4 (omega arith)) (sym v));
    }

-- ---- A loop along the cells: those behind list h are put, n of them.
pub record CellsBehindPut (w : List ℕ) (f : ℕ → Part) (hs : List ℕ) (h n : ℕ) (out₀ : List ℕ) (at₀ : Place) (out : List ℕ) (at : Place)
    : Type 0 where
  pub left : List ℕ
  pub behind : List ℕ
  pub chain : Chain w h left
  pub whole : hs ≡ left ++ behind
  pub count : n ≡ length behind
  pub puts : Puts out₀ at₀ (each f behind) out at

abbrev pub CellsPut : List ℕ → (ℕ → Part) → ℕ → ℕ → ℕ → List ℕ → Place → List ℕ → Place → Type 0
CellsPut w f list h n out₀ at₀ out at = (hs : List ℕ) → Chain w list hs → CellsBehindPut w f hs h n out₀ at₀ out at

-- ---- What was put, as the definition has it.
values_of : (s : NestState) (f : ℕ → Value) (hs : List ℕ) {vs : List Value} → vs ≡ map f hs
    → plain (length hs ∷ []) ⊕ each (λ h. value_part s (f h)) hs ≡ values_part s vs
values_of s f hs e =
    ap (λ z. plain (length hs ∷ []) ⊕ z) (sym (each_map (value_part s) f hs)) ∙ rw (e, values_counted s (map f hs), length-map hs f)

types_of : (f : ℕ → ℕ) (hs : List ℕ) {ts : List ℕ} → ts ≡ map f hs
    → plain (length hs ∷ []) ⊕ each (λ h. plain (f h ∷ [])) hs ≡ plain (length ts ∷ ts)
types_of f hs e =
    ap (λ z. plain (length hs ∷ []) ⊕ z) (sym (each_map (λ n. plain (n ∷ [])) f hs))
    ∙ rw (e, ← length-map hs f) (numbers_listed (map f hs))

module _ {g : Graph} (w : List ℕ) {r list : ℕ} (y : LoopInputs) (keeps : KeepsInputs g w r list y) where
  abbrev pub handles : List ℕ
  handles = (kept_cells w keeps).handles

  pub values_are : (s : NestState) (back : Bool)
      → plain (length handles ∷ []) ⊕ each (λ h. value_part s (value (kept_word w back h))) handles ≡ values_part s (kept_values back y)
  values_are s true = values_of s (λ h. value (kept_word w true h)) handles (kept_cells w keeps).outputs
  values_are s false = values_of s (λ h. value (kept_word w false h)) handles (kept_cells w keeps).initial

  pub types_are : plain (length handles ∷ []) ⊕ each (λ h. plain (kept_type g w r h ∷ [])) handles ≡ plain (length y.types ∷ y.types)
  types_are = types_of (kept_type g w r) handles (kept_cells w keeps).types
