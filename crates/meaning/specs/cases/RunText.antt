-- Runs as text, a line for the graph's and a line for the nested one, and a rule that four numbers make.
-- END is `returned WORDS` or `exited OPCODE WORDS`; an event is region.index/opcode/reads, the earliest first.
use Rattle.std.specs.Prelude.{List, [], ◌∷◌, ◌++◌, ℕ, suc, ◌+◌, ◌*◌, length, get_or}
use Rattle.std.proofs.Math.Option.{Option, none, some}
use Rattle.meaning.specs.Graph.{Value, Graph}
use Rattle.meaning.specs.Lists.{bit}
use Rattle.meaning.specs.Runs.{Word, word, mark, Event, End, returned, exited, Rule, Given, Nodes, Ended, graph_run, run_from}
use Rattle.meaning.specs.Runs.{entry_words, put_inputs, put, do_blocks, do_block, do_instr, NestedRun, ends_as, without_end}
use Rattle.meaning.specs.Runs.{nested_run, run_nodes, turns, put_outputs}
use Rattle.meaning.specs.Text.{Text, ascii, decimal, joined, listed}

-- ---- the rule
-- Each read times its place, counted from 1; a mark counts as 1.
abbrev pub weighted_reads : ℕ → List Word → ℕ
weighted_reads place [] = 0
weighted_reads place (word w ∷ ws) = place * w + weighted_reads (suc place) ws
weighted_reads place (mark ∷ ws) = place + weighted_reads (suc place) ws

-- opcode, reads, what went before: each with its factor, and a number besides
abbrev pub linear : ℕ → ℕ → ℕ → ℕ → Rule
linear a b c d opcode reads before = a * opcode + b * weighted_reads 1 reads + c * length before + d

-- constants, entry inputs, the four numbers of the rule
abbrev pub given_words : List ℕ → List ℕ → ℕ → ℕ → ℕ → ℕ → Given
given_words cs is a b c d = record { constants = λ i. get_or cs i 0; entry_inputs = λ k. get_or is k 0; rule = linear a b c d }

-- ---- the text
abbrev pub spaced : List Text → Text
spaced ts = joined (ascii " ") ts ++ ascii "\n"

unfoldable pub word_text : Word → Text
unfolding decimal
word_text (word w) = decimal w
word_text mark = ascii "u"

unfoldable pub run_words_text : List Word → Text
unfolding word_text listed
run_words_text ws = listed word_text ws

unfoldable pub event_text : Event → Text
unfolding run_words_text
event_text e =
    decimal e.region ++ ascii "." ++ decimal e.index ++ ascii "/" ++ decimal e.opcode ++ ascii "/" ++ run_words_text e.reads

-- The events are the latest first.
abbrev pub earliest_first : List Event → List Text → List Text
earliest_first [] ts = ts
earliest_first (e ∷ es) ts = earliest_first es (event_text e ∷ ts)

unfoldable pub events_text : List Event → Text
unfolding event_text joined
events_text [] = ascii "-"
events_text (e ∷ es) = joined (ascii ";") (earliest_first (e ∷ es) [])

unfoldable pub end_text : End → Text
unfolding run_words_text joined
end_text (returned ws) = joined (ascii " ") (ascii "returned" ∷ run_words_text ws ∷ [])
end_text (exited op ws) = joined (ascii " ") (ascii "exited" ∷ decimal op ∷ run_words_text ws ∷ [])

unfoldable pub graph_line : Option Ended → Text
unfolding end_text events_text
graph_line none = ascii "graph none\n"
graph_line (some e) = spaced (ascii "graph" ∷ end_text e.end ∷ events_text e.events ∷ [])

unfoldable pub nested_line : NestedRun → Text
unfolding end_text events_text
nested_line (without_end why) = ascii "nested none\n"
nested_line (ends_as e) =
    spaced (
    ascii "nested"
    ∷ end_text e.end
    ∷ events_text e.events
    ∷ ascii "cost" ∷ decimal e.cost
    ∷ ascii "over" ∷ decimal (bit e.over_limit) ∷ []
    )

-- ---- both runs
-- Within a number of regions.
unfoldable pub graph_says : ℕ → Graph → Given → Text
unfolding graph_run run_from entry_words put_inputs put do_blocks do_block do_instr graph_line
graph_says n g x = graph_line (graph_run g x n)

-- Within a number of turns for each loop; children, and the entry's outputs.
unfoldable pub form_says : ℕ → Graph → Given → Nodes → Option (List Value) → Text
unfolding nested_run run_nodes turns entry_words put_inputs put_outputs put do_block do_instr nested_line
form_says n g x ks outs = nested_line (nested_run g x ks outs n)
