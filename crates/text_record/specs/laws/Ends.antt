-- The terminator's line by the kind that its accessor answers.
use Rattle.std.specs.Prelude.{◌≡◌, ◌++◌, map, ℕ, get_or}
use Rattle.std.proofs.Common.{sym, ◌∙◌}
use Rattle.std.proofs.Math.Path.{ap}
use Prim.Native.String.{String}
use Rattle.meaning.specs.Graph.{no_value, undef, SelectionKind, bool_cond, number, ControlInst, select_branch, edges_of, no_edge}
use Rattle.meaning.specs.Text.{Text, ascii, decimal}
use Rattle.format.specs.References.{values_of}
use Rattle.fields.specs.Shape.{terminator_is}
use Rattle.fields.specs.declared.shape.Terminator.TheVariants.{Unreachable, Return, ExitInvocation, Branch, SelectBool, SelectNumber}
use Rattle.text.specs.Text.{labeled}
use Rattle.text_parts.specs.Listing.{value_listing, numbers_text, values_text, select_line_text, terminator_text}

module _ (x : ControlInst) where
  pub unreachable_text : terminator_is Unreachable x ≡ x → ascii "unreachable\n" ≡ terminator_text x
  unfolding terminator_text
  unreachable_text e = ap terminator_text e

  pub return_text : terminator_is Return x ≡ x → ascii "return " ++ values_text (values_of x) ++ ascii "\n" ≡ terminator_text x
  unfolding terminator_text
  return_text e = ap terminator_text e

  pub exit_text : (op : ℕ) → terminator_is (ExitInvocation op) x ≡ x
      → ascii "exit " ++ decimal op ++ (ascii " " ++ values_text (values_of x) ++ ascii "\n") ≡ terminator_text x
  unfolding terminator_text labeled
  exit_text op e = ap terminator_text e

  pub branch_text : terminator_is Branch x ≡ x → labeled "branch to " (get_or (edges_of x) 0 no_edge).target ++ ascii "\n"
      ≡ terminator_text x
  unfolding terminator_text
  branch_text e = ap terminator_text e

  -- The value that is tested, also by the accessor's default.
  tested : (k : SelectionKind) → select_branch k (get_or (values_of x) 0 (undef 0)) (edges_of x) ≡ x
      → get_or (values_of x) 0 no_value ≡ get_or (values_of x) 0 (undef 0)
  tested k e = ap (λ y. get_or (values_of y) 0 no_value) (sym e)

  abbrev select_text : String → Text
  select_text label =
      ascii label ++ value_listing (get_or (values_of x) 0 no_value) ++ ascii " to " ++ numbers_text
      (map (λ e. e.target) (edges_of x)) ++ ascii "\n"

  select_same : (k : SelectionKind) (label : String) → select_branch k (get_or (values_of x) 0 (undef 0)) (edges_of x) ≡ x
      → select_text label ≡ select_line_text label (get_or (values_of x) 0 (undef 0)) (edges_of x)
  unfolding select_line_text
  select_same k label e =
      ap (λ v. ascii label ++ value_listing v ++ ascii " to " ++ numbers_text (map (λ e. e.target) (edges_of x)) ++ ascii "\n")
      (tested k e)

  pub bool_text : terminator_is SelectBool x ≡ x → select_text "select bool " ≡ terminator_text x
  unfolding terminator_text
  bool_text e = select_same bool_cond "select bool " e ∙ ap terminator_text e

  pub number_text : terminator_is SelectNumber x ≡ x → select_text "select num " ≡ terminator_text x
  unfolding terminator_text
  number_text e = select_same number "select num " e ∙ ap terminator_text e
