-- What a region may use, in the shape in which the runs are compared: by its number, its number of inputs and its instructions done.
use Rattle.std.specs.Prelude.{◌≡◌, List, [], ◌∷◌, ℕ, suc, ◌+◌, ◌≤◌, ◌<◌, length}
use Rattle.meaning.specs.Graph.{Value, const, input, instr, output, bool, undef, held, Instr, SelectionKind, bool_cond, Edge, ControlInst}
use Rattle.meaning.specs.Graph.{unreachable, return, exit_invocation, branch, select_branch, Graph, region, no_value}
use Rattle.format.specs.References.{return_types}

-- The values that region r may use once k of its instructions are done.
abbrev pub UsableIn : ℕ → ℕ → ℕ → Value → Type 0
UsableIn r arity k (const i) = Unit
UsableIn r arity k (bool b) = Unit
UsableIn r arity k (undef t) = Unit
UsableIn r arity k no_value = ⊥
UsableIn r arity k (input q i) = (q ≡ r) × (i < arity)
UsableIn r arity k (instr q i) = (q ≡ r) × (i < k)
UsableIn r arity k (held q i) = ⊥
UsableIn r arity k (output o) = ⊥

abbrev pub AllUsable : ℕ → ℕ → ℕ → List Value → Type 0
AllUsable r arity k [] = Unit
AllUsable r arity k (v ∷ vs) = UsableIn r arity k v × AllUsable r arity k vs

-- The reads of a block whose first instruction has number k, and of the blocks from there on.
abbrev pub BlockUsable : ℕ → ℕ → ℕ → List Instr → Type 0
BlockUsable r arity k [] = Unit
BlockUsable r arity k (i ∷ is) = AllUsable r arity k i.reads × BlockUsable r arity (suc k) is

abbrev pub BlocksUsable : ℕ → ℕ → ℕ → List (List Instr) → Type 0
BlocksUsable r arity k [] = Unit
BlocksUsable r arity k (b ∷ bs) = BlockUsable r arity k b × BlocksUsable r arity (k + length b) bs

-- The number of the instruction that would follow the blocks, the first being number k.
abbrev pub after_blocks : ℕ → List (List Instr) → ℕ
after_blocks k [] = k
after_blocks k (b ∷ bs) = after_blocks (k + length b) bs

module _ (g : Graph) (r : ℕ) where
  abbrev pub arity : ℕ
  arity = length (region g r).inputs

  -- What the terminator may use: all instructions are done.
  abbrev pub EndUsable : Value → Type 0
  EndUsable v = UsableIn r arity (after_blocks 0 (region g r).blocks) v

  abbrev pub EndsUsable : List Value → Type 0
  EndsUsable vs = AllUsable r arity (after_blocks 0 (region g r).blocks) vs

  pub record EdgeUsable (e : Edge) : Type 0 where
    pub inputs : EndsUsable e.inputs
    pub target : e.target < length g.regions
    pub many : length e.inputs ≡ length (region g e.target).inputs

  abbrev pub EdgesUsable : List Edge → Type 0
  EdgesUsable [] = Unit
  EdgesUsable (e ∷ es) = EdgeUsable e × EdgesUsable es

  pub record TestUsable (kind : SelectionKind) (v : Value) (es : List Edge) : Type 0 where
    pub scrutinee : EndUsable v
    pub edges : EdgesUsable es
    pub two : kind ≡ bool_cond → length es ≡ 2
    pub some : 1 ≤ length es

  abbrev pub TerminatorUsable : ControlInst → Type 0
  TerminatorUsable unreachable = Unit
  TerminatorUsable (return vs) = EndsUsable vs × (length vs ≡ length (return_types g))
  TerminatorUsable (exit_invocation op vs) = EndsUsable vs
  TerminatorUsable (branch e) = EdgeUsable e
  TerminatorUsable (select_branch kind v es) = TestUsable kind v es

pub record UsableGraph (g : Graph) : Type 0 where
  pub entry : g.entry < length g.regions
  pub blocks : (r : ℕ) → r < length g.regions → BlocksUsable r (arity g r) 0 (region g r).blocks
  pub terminator : (r : ℕ) → r < length g.regions → TerminatorUsable g r (region g r).terminator
