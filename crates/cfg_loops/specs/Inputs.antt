-- The inputs of a loop's header, as the words alone have them.
use Rattle.std.specs.Prelude.{◌≡◌, List, [], ◌∷◌, ℕ, ◌+◌, ◌≤◌, ◌<◌, get_or, set}
use Rattle.state_words.specs.Values.{region_word, held_from, input_from}
use Rattle.state_nodes.specs.NodeTables.{Adds}
use Rattle.state_sets.specs.SetTables.{input_word}
use Rattle.state_nodes.specs.NodeTables.{Kept}
use Rattle.cfg_lookups.specs.LookUps.{Rewrites}
use Rattle.cfg_loops.specs.declared.inputs.LoopInputs.{LoopInputs}

abbrev pub backedge_inputs : List ℕ → ℕ → List ℕ
backedge_inputs l p = input_word l p 0 ∷ input_word l p 1 ∷ input_word l p 2 ∷ input_word l p 3 ∷ []

-- Value v at place k is looked up if it is one of n.
pub data RewritesValue (n k v : ℕ) (l l' : List ℕ) (a : ℕ) : Type 0 where
  looked_up : k < n → Rewrites l v l' a → RewritesValue n k v l l' a
  left_as_is : n ≤ k → l' ≡ l → a ≡ v → RewritesValue n k v l l' a

-- The first k places, in turn: from words l and values vs to l' and us.
pub data RewritesValues (n : ℕ) : ℕ → List ℕ → List ℕ → List ℕ → List ℕ → Type 0 where
  none_yet : {k : ℕ} {l vs l' us : List ℕ} → k ≡ 0 → l' ≡ l → us ≡ vs → RewritesValues n k l vs l' us
  one_more : {k i a : ℕ} {l vs l₁ us l' us' : List ℕ} → RewritesValues n k l vs l₁ us → RewritesValue n k (get_or us k 0) l₁ l' a
      → i ≡ k + 1 → us' ≡ set us k a → RewritesValues n i l vs l' us'

-- Input k of header r is kept: its cell, and its new number.
pub record KeepsInput (r wrapper k v : ℕ) (x : LoopInputs) (l l' : List ℕ) (y : LoopInputs) : Type 0 where
  pub cell : Adds l l' (Kept x.cells.0 k wrapper v) y.cells.0
  pub count : y.count ≡ x.count + 1
  pub entry : y.entry ≡ region_word held_from r x.count

-- Input k of n is taken, for which the back edge passes v.
pub data TakesInput (r wrapper n k v : ℕ) (x : LoopInputs) (l l' : List ℕ) (y : LoopInputs) : Type 0 where
  lifted : k < n → v ≡ region_word input_from r k → l' ≡ l → y.count ≡ x.count → y.cells ≡ x.cells
      → y.entry ≡ region_word input_from wrapper k
      → TakesInput r wrapper n k v x l l' y
  kept : k < n → (v ≡ region_word input_from r k → ⊥) → KeepsInput r wrapper k v x l l' y → TakesInput r wrapper n k v x l l' y
  beyond : n ≤ k → l' ≡ l → y.count ≡ x.count → y.cells ≡ x.cells → y.entry ≡ region_word held_from r k
      → TakesInput r wrapper n k v x l l' y

-- The first k are taken: from words l and values vs to l' and ws, where the first k are their entries.
pub data TakesFrom (r wrapper n : ℕ) : ℕ → List ℕ → List ℕ → List ℕ → List ℕ → LoopInputs → Type 0 where
  none_taken : {k : ℕ} {l vs l' ws : List ℕ} {x : LoopInputs} → k ≡ 0 → l' ≡ l → ws ≡ vs → x.count ≡ 0 → x.cells.0 ≡ 0
      → TakesFrom r wrapper n k l vs l' ws x
  one_taken : {k i : ℕ} {l vs l₁ ws l' ws' : List ℕ} {x y : LoopInputs} → TakesFrom r wrapper n k l vs l₁ ws x
      → TakesInput r wrapper n k (get_or ws k 0) x l₁ l' y → i ≡ k + 1 → ws' ≡ set ws k y.entry → TakesFrom r wrapper n i l vs l' ws' y

-- All four places; h is the list of kept inputs.
pub record TakesInputs (r wrapper n : ℕ) (l vs l' ws : List ℕ) (h : ℕ) : Type 0 where
  pub last : LoopInputs
  pub taken : TakesFrom r wrapper n 4 l vs l' ws last
  pub cells : h ≡ last.cells.0
