-- The outputs of one node among all of them: a loop from the last to the first puts a part of each, and counts them.
use Rattle.std.specs.Prelude.{◌≡◌, List, [], ◌∷◌, ℕ, ◌<◌, length, get_or, eqb}
use Rattle.meaning.specs.Lists.{pick}
use Rattle.meaning.specs.Graph.{undef}
use Rattle.nesting.specs.Nesting.{NestState, plain, case_outputs}
use Rattle.state_shown.specs.Values.{value}
use Rattle.state_shown.specs.Tables.{no_output}
use Rattle.sheet_words.specs.declared.place.Place.{Place}
use Rattle.sheet_words.specs.PutInFront.{Part, Puts}
use Rattle.sheet_words.specs.Parts.{OfState, value_part, values_part}
use Rattle.sheet_selects.specs.SelectParts.{output_types}
use Rattle.state_words.specs.Rows.{output_node, output_type, output_value}

-- At place j the words have, of each output of the node, the value that the definition takes there.
abbrev pub ValuesShown : List ℕ → NestState → ℕ → ℕ → Type 0
ValuesShown w s node j =
    (o : ℕ) → o < length s.node_outputs → (get_or s.node_outputs o no_output).node ≡ node
    → value (output_value w o j) ≡ get_or (get_or s.node_outputs o no_output).values j (undef 0)

abbrev pub PutsCaseOutputs : List ℕ → ℕ → ℕ → List ℕ → Place → List ℕ → Place → Type 0
PutsCaseOutputs w node j out at out' at' =
    OfState w (λ g s. ValuesShown w s node j → Puts out at (values_part s (case_outputs node j s.node_outputs)) out' at')

abbrev pub PutsOutputTypes : List ℕ → ℕ → List ℕ → Place → List ℕ → Place → Type 0
PutsOutputTypes w node out at out' at' =
    OfState w (λ g s. Puts out at (plain (length (output_types s node) ∷ output_types s node)) out' at')

-- ---- The loop. Before a turn the node's outputs from place k on are put, and counted.
-- f o is what is put of output o.
unfoldable pub own : List ℕ → ℕ → (ℕ → Part) → ℕ → Part
own w node f o = pick (eqb node (output_node w o)) (f o) (plain [])

abbrev pub case_value : List ℕ → ℕ → NestState → ℕ → Part
case_value w j s o = value_part s (value (output_value w o j))

abbrev pub type_word : List ℕ → ℕ → Part
type_word w o = plain (output_type w o ∷ [])
