-- Which tag of a cell a word says, and back.
use Rattle.std.specs.Prelude.{ℕ, eqb}
use Rattle.state_nodes.specs.declared.cells.CellTag.{CellTag}
use Rattle.state_nodes.specs.declared.cells.CellTag.TheVariants.{Blocks, Join, Exit, Select, Loop, Case, Kept, Unknown}
use Rattle.meaning.specs.Lists.{pick}
use Rattle.state_words.specs.Rows.{tag_blocks, tag_join, tag_exit, tag_select, tag_loop, tag_case, tag_kept}

abbrev pub tag_of : ℕ → CellTag
tag_of n =
    pick (eqb n tag_blocks) Blocks
    (pick (eqb n tag_join) Join
    (pick (eqb n tag_exit) Exit
    (pick (eqb n tag_select) Select
    (pick (eqb n tag_loop) Loop
    (pick (eqb n tag_case) Case
    (pick (eqb n tag_kept) Kept (Unknown n)))))))

abbrev pub tag_word : CellTag → ℕ
tag_word Blocks = tag_blocks
tag_word Join = tag_join
tag_word Exit = tag_exit
tag_word Select = tag_select
tag_word Loop = tag_loop
tag_word Case = tag_case
tag_word Kept = tag_kept
tag_word (Unknown n) = n
