-- What the references leave: a valid graph. Theorems about nesting assume this alone of a graph.
use Rattle.std.specs.Prelude.{◌≡◌, List, [], ◌∷◌, ℕ, suc, ◌≤◌, ◌<◌, length}
use Rattle.meaning.specs.Graph.{Value, Instr, SelectionKind, bool_cond, number, Edge, ControlInst, unreachable, return, exit_invocation}
use Rattle.meaning.specs.Graph.{branch, select_branch, Region, Graph, region}
use Rattle.meaning.specs.Lists.{Distinct, All, Within}
use Rattle.format.specs.References.{type_in, instructions, behind_all, return_types}

module _ (g : Graph) (r : ℕ) where
  -- The value may be used in region r behind its first `before` instructions: it has a type there, and no type is 0.
  pub record Usable (before : ℕ) (v : Value) : Type 0 where
    pub typed : 1 ≤ type_in g r before v

  -- As many values as types, each usable by the terminator, and of its type.
  abbrev pub Passed : List ℕ → List Value → Type 0
  Passed [] [] = Unit
  Passed [] (v ∷ vs) = ⊥
  Passed (t ∷ ts) [] = ⊥
  Passed (t ∷ ts) (v ∷ vs) = Usable (behind_all g r) v × (type_in g r (behind_all g r) v ≡ t) × Passed ts vs

  pub record ValidInstr (k : ℕ) (i : Instr) : Type 0 where
    pub type : i.type ≤ 255
    pub few : length i.reads ≤ 3
    pub reads : All (Usable k) i.reads

  -- The instructions from number k on.
  abbrev pub ValidInstrs : ℕ → List Instr → Type 0
  ValidInstrs k [] = Unit
  ValidInstrs k (i ∷ is) = ValidInstr k i × ValidInstrs (suc k) is

  pub record ValidEdge (e : Edge) : Type 0 where
    pub target : e.target < length g.regions
    pub inputs : Passed (region g e.target).inputs e.inputs

  abbrev pub TestRight : SelectionKind → Value → List Edge → Type 0
  TestRight bool_cond v es = (type_in g r (behind_all g r) v ≡ 1) × (length es ≡ 2)
  TestRight number v es = Within 1 8 (length es)

  abbrev pub ValidEnd : ControlInst → Type 0
  ValidEnd unreachable = Unit
  ValidEnd (return vs) = (length vs ≤ 4) × Passed (return_types g) vs
  ValidEnd (exit_invocation op vs) = (length vs ≤ 4) × All (Usable (behind_all g r)) vs
  ValidEnd (branch e) = ValidEdge e
  ValidEnd (select_branch k v es) = Usable (behind_all g r) v × TestRight k v es × All ValidEdge es

  pub record ValidRegion (x : Region) : Type 0 where
    pub inputs_few : length x.inputs ≤ 4
    pub inputs : All (Within 1 255) x.inputs
    pub blocks_few : length x.blocks ≤ 8
    pub blocks : All (λ b. Within 1 8 (length b)) x.blocks
    pub instructions : ValidInstrs 0 (instructions x.blocks)
    pub limit : Within 1 65535 x.limit
    pub terminator : ValidEnd x.terminator
    pub exits_few : length x.exits ≤ 32
    pub exits : All (λ t. t < length g.regions) x.exits
    pub exits_distinct : Distinct x.exits

pub record Valid (g : Graph) : Type 0 where
  pub count : Within 1 32 (length g.regions)
  pub entry : g.entry < length g.regions
  pub constants_few : length g.constants ≤ 64
  pub constants : All (Within 1 255) g.constants
  pub regions : (r : ℕ) → r < length g.regions → ValidRegion g r (region g r)
