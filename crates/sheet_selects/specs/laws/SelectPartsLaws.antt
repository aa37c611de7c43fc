-- The definition's words of a select, as the parts that are put: its own line, then each case's line with the nodes behind it.
use Rattle.std.specs.Prelude.{◌≡◌, ℕ, suc, length}
use Rattle.std.proofs.Math.Path.{refl}
use Rattle.std.proofs.Common.{ap}
use Rattle.std.proofs.Math.Bool.{or-false}
use mathlib.Core.List.{List, [], ◌∷◌, ◌++◌, append_assoc}
use Rattle.meaning.specs.Graph.{Value, SelectionKind}
use Rattle.meaning.specs.Runs.{Nodes, Cases, ∅}
use Rattle.nesting.specs.Nesting.{NestState, plain, new_case, new_select, case_outputs, look_up_node}
use Rattle.nesting.specs.Sheet as sheet
use Rattle.nesting.specs.SheetNumbers.{lead_select}
use Rattle.sheet_words.specs.laws.PutInFrontLaws.{◌⊕◌}
use Rattle.sheet_words.specs.Parts.{look_up_at_end, node_words, value_part, node_part, nodes_part}
use Rattle.sheet_words.specs.Parts.{cases_part, region_part}
use Rattle.sheet_words.specs.laws.PartLaws.{parts_assoc, kids_looked_up, cases_looked_up, numbers_words}
use Rattle.sheet_selects.specs.SelectParts.{select_part, output_types}

regrouped : (a b c d e : List ℕ) → a ++ b ++ c ++ d ++ e ≡ a ++ (b ++ (c ++ (d ++ e)))
regrouped a b c d e = simp append_assoc

module _ (s : NestState) where
  pub select_line : (n : ℕ) (kind : SelectionKind) (v : Value) (cs : Cases)
      → select_part s n kind v cs
      ≡ plain (lead_select ∷ n ∷ []) ⊕ plain (sheet.kind kind).words ⊕ value_part s v
      ⊕ plain (length (sheet.case_numbers cs) ∷ sheet.case_numbers cs) ⊕ plain (length (output_types s n) ∷ output_types s n)
  unfolding select_part value_part
  select_line n kind v cs =
      let words = regrouped (lead_select ∷ n ∷ []) (sheet.kind kind).words (value_part s v).value
      (length (sheet.case_numbers cs) ∷ sheet.case_numbers cs) (length (output_types s n) ∷ output_types s n) in
      let note = (look_up_at_end s v).twice in
      rw (numbers_words (sheet.case_numbers cs), numbers_words (output_types s n), or-false note)
      (ap (λ (l : List ℕ). record { value = l; twice = note }) words)

  -- Its cases' lines stand behind it.
  pub new_select_part : (n : ℕ) (kind : SelectionKind) (v : Value) (cs : Cases)
      → node_part s (new_select n kind v cs) ≡ select_part s n kind v cs ⊕ cases_part s cs n 0
  unfolding node_part select_part cases_part look_up_node node_words
  new_select_part n kind v cs = rw (cases_looked_up (look_up_at_end s) s.node_outputs cs n 0)

  pub no_cases_part : (n j : ℕ) → cases_part s ∅ n j ≡ plain []
  unfolding cases_part look_up_node node_words
  no_cases_part n j = refl

  -- The first case: its line, its nodes, and the other cases.
  pub new_case_part : (r : ℕ) (ns : Nodes) (cs : Cases) (n j : ℕ)
      → cases_part s (new_case r ns cs) n j
      ≡ region_part s r [] ns (case_outputs n j s.node_outputs) ⊕ nodes_part s ns ⊕ cases_part s cs n (suc j)
  unfolding cases_part region_part nodes_part look_up_node node_words
  new_case_part r ns cs n j =
      rw (kids_looked_up (look_up_at_end s) s.node_outputs ns)
      (parts_assoc (region_part s r [] ns (case_outputs n j s.node_outputs)) (nodes_part s ns) (cases_part s cs n (suc j)))
