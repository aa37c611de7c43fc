-- The value that a word stands for. Below `names_nothing` two words that stand for one value are the same word; the others name nothing.
use Rattle.std.specs.Prelude.{ℕ, ◌-◌, ◌/◌, ◌%◌, ltb, eqb}
use Rattle.meaning.specs.Graph.{Value, const, input, instr, output, bool, undef, held, no_value}
use Rattle.state_words.specs.Values.{input_region, input_index, held_from, input_from, instr_from, names_nothing, output_from, undef_from}
use Rattle.state_words.specs.Values.{true_word, bool_from}
use Rattle.meaning.specs.Lists.{pick}

unfoldable pub value : ℕ → Value
value x =
    pick (ltb x bool_from) (const x)
    (pick (ltb x undef_from) (bool (eqb x true_word))
    (pick (ltb x output_from) (undef (x - undef_from))
    (pick (ltb x input_from) (output (x - output_from))
    (pick (ltb x held_from) (input (input_region x) (input_index x))
    (pick (ltb x instr_from) (held (input_region x) (input_index x))
    (pick (ltb x names_nothing) (instr ((x - instr_from) / 64) (x % 64)) no_value))))))
