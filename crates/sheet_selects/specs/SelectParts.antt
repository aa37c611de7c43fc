-- A select's line, and the lines of its cases, as the parts of a sheet.
use Rattle.std.specs.Prelude.{List, map, ℕ}
use Rattle.meaning.specs.Graph.{Value, SelectionKind}
use Rattle.meaning.specs.Runs.{Cases}
use Rattle.nesting.specs.Nesting.{NestState, plain, ◌⊛◌, output_decls}
use Rattle.sheet_words.specs.PutInFront.{Part}
use Rattle.sheet_words.specs.Parts.{most, output_nodes, look_up_at_end, select_words}

-- The line of a select alone: node, kind, value, case regions, types of its outputs.
unfoldable pub select_part : NestState → ℕ → SelectionKind → Value → Cases → Part
select_part s n kind v cs =
    let outputs = output_decls n 0 s.node_outputs in
    plain (λ u. select_words most (output_nodes s) (record { number = n; kind = kind; scrutinee = u; outputs = outputs }) cs)
    ⊛ look_up_at_end s v

abbrev pub output_types : NestState → ℕ → List ℕ
output_types s n = map (λ o. o.type) (output_decls n 0 s.node_outputs)
