-- The lists of a graph that the listing joins by commas, and the line of a target.
use Rattle.std.specs.Prelude.{Bool, true, false, List, [], ℕ}
use Rattle.meaning.specs.Graph.{Value, Edge, Graph, region, targets_of}
use Rattle.meaning.specs.Text.{Text}
use Rattle.fields.specs.ByNumber.{instr_of, end_values, edge_of}
use Rattle.text_parts.specs.Listing.{pass_text}
use Rattle.text_parts.specs.declared.lists.Numbers.{Numbers}
use Rattle.text_parts.specs.declared.lists.Numbers.TheVariants.{Constants, Inputs, Targets, Exits}
use Rattle.text_parts.specs.declared.lists.Values.{Values}
use Rattle.text_parts.specs.declared.lists.Values.TheVariants.{Terminator, Reads, Passed}

abbrev pub numbers_of : Graph → Numbers → List ℕ
numbers_of g Constants = g.constants
numbers_of g (Inputs r) = (region g r).inputs
numbers_of g (Targets r) = targets_of g r
numbers_of g (Exits r) = (region g r).exits

abbrev pub list_of : Graph → Values → List Value
list_of g (Terminator r) = end_values g r
list_of g (Reads r b i) = (instr_of g r b i).reads
list_of g (Passed r j) = (edge_of g r j).inputs

-- The line of the target at a place, unless it stood before.
unfoldable pub pass_once : Bool → Edge → Text
unfolding pass_text
pass_once again e = elim again [ true ↦ [] | false ↦ pass_text e ]
