-- What stands in the sections, by name: the words of the head, and of each table the length of a row, its fields and its tags. For a field
-- `x` of row n: `x-at n` is its place in the section, `x w n` the word there. Below this file and its laws no place is a number.
use Rattle.std.specs.Prelude.{List, ℕ, ◌+◌, ◌*◌, ltb}
use Rattle.meaning.specs.Lists.{pick}
use Rattle.nesting.specs.SheetNumbers as sheet_numbers
use Rattle.state_words.specs.Sections.{word, kinds, levels, cases, rewrites, outputs, conditions}
use Rattle.state_words.specs.Sections.{cells, bundles}

-- ---- The head: totals, attempts, the note `twice`, cases under way, how many values a Return has, and their types.
abbrev pub regions_at : ℕ
regions_at = 0

abbrev pub nodes_at : ℕ
nodes_at = 1

abbrev pub merges_at : ℕ
merges_at = 2

abbrev pub outputs_at : ℕ
outputs_at = 3

abbrev pub cells_at : ℕ
cells_at = 4

abbrev pub attempts_at : ℕ
attempts_at = 5

abbrev pub twice_at : ℕ
twice_at = 6

abbrev pub cases_at : ℕ
cases_at = 7

abbrev pub returned_at : ℕ
returned_at = 8

abbrev pub types_at : ℕ
types_at = 9

-- None of the head's words.
abbrev pub no_total : ℕ
no_total = 16

-- ---- Kinds of a region's state; each word of these sections is a region's.
abbrev pub kind_not_begun : ℕ
kind_not_begun = 0

abbrev pub kind_in_progress : ℕ
kind_in_progress = 1

abbrev pub kind_ready : ℕ
kind_ready = 2

abbrev pub kind_claimed : ℕ
kind_claimed = 3

abbrev pub region_kind : List ℕ → ℕ → ℕ
region_kind w r = word w kinds r

-- The slot that no region has: as of a region 32.
abbrev pub spare_slot : ℕ
spare_slot = 32

-- ---- Levels: for each of eight targets of a region, how it was taken.
abbrev pub level_row : ℕ
level_row = 8

abbrev pub level_at : ℕ → ℕ → ℕ
level_at r j = level_row * r + j

abbrev pub level : List ℕ → ℕ → ℕ → ℕ
level w r j = word w levels (level_at r j)

abbrev pub level_unreachable : ℕ
level_unreachable = 0

abbrev pub level_deferred : ℕ
level_deferred = 1

abbrev pub level_claimed : ℕ
level_claimed = 2

-- ---- A case of the select under way: its kind; of a claimed region its number, structured body and children; its set; four inputs.
abbrev pub case_row_size : ℕ
case_row_size = 10

abbrev pub case_row_at : ℕ → ℕ
case_row_at j = case_row_size * j

abbrev pub case_word_at : ℕ → ℕ → ℕ
case_word_at j i = case_row_size * j + i

abbrev pub case_kind_field : ℕ
case_kind_field = 0

abbrev pub case_kind_at : ℕ → ℕ
case_kind_at j = case_word_at j case_kind_field

abbrev pub case_origin_field : ℕ
case_origin_field = 1

abbrev pub case_origin_at : ℕ → ℕ
case_origin_at j = case_word_at j case_origin_field

abbrev pub case_body_field : ℕ
case_body_field = 2

abbrev pub case_body_at : ℕ → ℕ
case_body_at j = case_word_at j case_body_field

abbrev pub case_children_field : ℕ
case_children_field = 3

abbrev pub case_children_at : ℕ → ℕ
case_children_at j = case_word_at j case_children_field

abbrev pub case_set_start_field : ℕ
case_set_start_field = 4

abbrev pub case_set_start_at : ℕ → ℕ
case_set_start_at j = case_word_at j case_set_start_field

abbrev pub case_set_length_field : ℕ
case_set_length_field = 5

abbrev pub case_set_length_at : ℕ → ℕ
case_set_length_at j = case_word_at j case_set_length_field

abbrev pub case_input_at : ℕ → ℕ → ℕ
case_input_at j k = case_word_at j (6 + k)

abbrev pub case_word : List ℕ → ℕ → ℕ → ℕ
case_word w j i = word w cases (case_word_at j i)

abbrev pub case_kind : List ℕ → ℕ → ℕ
case_kind w j = word w cases (case_kind_at j)

abbrev pub case_origin : List ℕ → ℕ → ℕ
case_origin w j = word w cases (case_origin_at j)

abbrev pub case_body : List ℕ → ℕ → ℕ
case_body w j = word w cases (case_body_at j)

abbrev pub case_children : List ℕ → ℕ → ℕ
case_children w j = word w cases (case_children_at j)

abbrev pub case_set_start : List ℕ → ℕ → ℕ
case_set_start w j = word w cases (case_set_start_at j)

abbrev pub case_set_length : List ℕ → ℕ → ℕ
case_set_length w j = word w cases (case_set_length_at j)

abbrev pub case_input : List ℕ → ℕ → ℕ → ℕ
case_input w j k = word w cases (case_input_at j k)

-- Nothing is deferred; the edge of its own; a claimed region; what is left of the parent's own set.
abbrev pub case_nothing : ℕ
case_nothing = 0

abbrev pub case_own_edge : ℕ
case_own_edge = 1

abbrev pub case_claimed : ℕ
case_claimed = 2

abbrev pub case_others : ℕ
case_others = 3

-- ---- An entry of the rewrites: its kind and four values. Behind the entries stands how many of them are set.
abbrev pub rewrite_row_size : ℕ
rewrite_row_size = 5

abbrev pub rewrite_kind_at : ℕ → ℕ
rewrite_kind_at r = rewrite_row_size * r

abbrev pub rewrite_values_at : ℕ → ℕ
rewrite_values_at r = rewrite_row_size * r + 1

abbrev pub rewrite_value_at : ℕ → ℕ → ℕ
rewrite_value_at r k = rewrite_row_size * r + 1 + k

abbrev pub rewrite_value : List ℕ → ℕ → ℕ → ℕ
rewrite_value w r k = word w rewrites (rewrite_value_at r k)

abbrev pub entries_at : ℕ
entries_at = 640

abbrev pub entry_none : ℕ
entry_none = 0

abbrev pub entry_replace : ℕ
entry_replace = 1

abbrev pub entry_renumber : ℕ
entry_renumber = 2

-- ---- An output: its node, its type, and a value for each of eight cases.
abbrev pub output_row_size : ℕ
output_row_size = 10

abbrev pub output_node_at : ℕ → ℕ
output_node_at o = output_row_size * o

abbrev pub output_type_at : ℕ → ℕ
output_type_at o = output_row_size * o + 1

abbrev pub output_values_at : ℕ → ℕ
output_values_at o = output_row_size * o + 2

abbrev pub output_value_at : ℕ → ℕ → ℕ
output_value_at o j = output_row_size * o + 2 + j

abbrev pub output_node : List ℕ → ℕ → ℕ
output_node w o = word w outputs (output_node_at o)

abbrev pub output_type : List ℕ → ℕ → ℕ
output_type w o = word w outputs (output_type_at o)

abbrev pub output_value : List ℕ → ℕ → ℕ → ℕ
output_value w o j = word w outputs (output_value_at o j)

-- ---- A lazy condition record: the cell of its select, and eight parts. Three numbers are conditions without a record, and 0 is none.
abbrev pub merge_row_size : ℕ
merge_row_size = 9

abbrev pub merge_row_at : ℕ → ℕ
merge_row_at c = merge_row_size * c

abbrev pub merge_word_at : ℕ → ℕ → ℕ
merge_word_at c i = merge_row_size * c + i

abbrev pub merge_select_at : ℕ → ℕ
merge_select_at c = merge_word_at c 0

abbrev pub merge_part_at : ℕ → ℕ → ℕ
merge_part_at c j = merge_word_at c (1 + j)

abbrev pub merge_select : List ℕ → ℕ → ℕ
merge_select w c = word w conditions (merge_select_at c)

abbrev pub merge_part : List ℕ → ℕ → ℕ → ℕ
merge_part w c j = word w conditions (merge_part_at c j)

abbrev pub condition_true : ℕ
condition_true = 1

abbrev pub condition_false : ℕ
condition_false = 2

abbrev pub condition_undef : ℕ
condition_undef = 3

abbrev pub merges_from : ℕ
merges_from = 4

-- The shape of a select on a boolean; of a number, how many cases it has.
abbrev pub bool_shape : ℕ
bool_shape = 0

-- ---- A cell: its tag, the list before it, and four words by its tag.
abbrev pub cell_row_size : ℕ
cell_row_size = 6

abbrev pub cell_row_at : ℕ → ℕ
cell_row_at h = cell_row_size * h

abbrev pub cell_word_at : ℕ → ℕ → ℕ
cell_word_at h i = cell_row_size * h + i

abbrev pub cell_word : List ℕ → ℕ → ℕ → ℕ
cell_word w h i = word w cells (cell_word_at h i)

-- All blocks of a region; a list behind another; an exit; a select; a loop; a case of a select; an input that a loop keeps.
abbrev pub tag_blocks : ℕ
tag_blocks = 1

abbrev pub tag_join : ℕ
tag_join = 2

abbrev pub tag_exit : ℕ
tag_exit = 3

abbrev pub tag_select : ℕ
tag_select = 4

abbrev pub tag_loop : ℕ
tag_loop = 5

abbrev pub tag_case : ℕ
tag_case = 6

abbrev pub tag_kept : ℕ
tag_kept = 7

-- A handle, or 0 where it names no earlier cell.
unfoldable pub earlier : ℕ → ℕ → ℕ
earlier p h = pick (ltb p h) p 0

-- The list that it names at word i.
abbrev pub list_at : List ℕ → ℕ → ℕ → ℕ
list_at w h i = earlier (cell_word w h i) h

abbrev pub cell_tag : List ℕ → ℕ → ℕ
cell_tag w h = cell_word w h 0

abbrev pub cell_before : List ℕ → ℕ → ℕ
cell_before w h = list_at w h 1

-- Of an exit, a select or a loop.
abbrev pub cell_node : List ℕ → ℕ → ℕ
cell_node w h = cell_word w h 2

abbrev pub blocks_region : List ℕ → ℕ → ℕ
blocks_region w h = cell_word w h 2

abbrev pub join_list : List ℕ → ℕ → ℕ
join_list w h = list_at w h 2

abbrev pub exit_node : List ℕ → ℕ → ℕ
exit_node w h = cell_word w h 2

abbrev pub exit_region : List ℕ → ℕ → ℕ
exit_region w h = cell_word w h 3

abbrev pub select_node : List ℕ → ℕ → ℕ
select_node w h = cell_word w h 2

abbrev pub select_shape : List ℕ → ℕ → ℕ
select_shape w h = cell_word w h 3

abbrev pub select_scrutinee : List ℕ → ℕ → ℕ
select_scrutinee w h = cell_word w h 4

abbrev pub select_cases : List ℕ → ℕ → ℕ
select_cases w h = list_at w h 5

abbrev pub loop_body : List ℕ → ℕ → ℕ
loop_body w h = list_at w h 1

abbrev pub loop_node : List ℕ → ℕ → ℕ
loop_node w h = cell_word w h 2

abbrev pub loop_header : List ℕ → ℕ → ℕ
loop_header w h = cell_word w h 3

abbrev pub loop_repeat : List ℕ → ℕ → ℕ
loop_repeat w h = cell_word w h 4

abbrev pub loop_kept : List ℕ → ℕ → ℕ
loop_kept w h = list_at w h 5

abbrev pub cases_after : List ℕ → ℕ → ℕ
cases_after w h = list_at w h 1

abbrev pub case_region : List ℕ → ℕ → ℕ
case_region w h = cell_word w h 2

abbrev pub children_of_case : List ℕ → ℕ → ℕ
children_of_case w h = list_at w h 3

abbrev pub kept_input : List ℕ → ℕ → ℕ
kept_input w h = cell_word w h 2

abbrev pub kept_wrapper : List ℕ → ℕ → ℕ
kept_wrapper w h = cell_word w h 3

abbrev pub kept_back : List ℕ → ℕ → ℕ
kept_back w h = cell_word w h 4

-- Cells that there is room for; cell 0 is none.
abbrev pub most_cells : ℕ
most_cells = 652

-- Of a condition's select, which its cell has: node, shape and scrutinee.
abbrev pub merge_node : List ℕ → ℕ → ℕ
merge_node w c = select_node w (merge_select w c)

abbrev pub merge_shape : List ℕ → ℕ → ℕ
merge_shape w c = select_shape w (merge_select w c)

abbrev pub merge_scrutinee : List ℕ → ℕ → ℕ
merge_scrutinee w c = select_scrutinee w (merge_select w c)

-- ---- A bundle of deferred edges: target, count, condition, and four inputs.
abbrev pub bundle_row_size : ℕ
bundle_row_size = 7

abbrev pub bundle_row_at : ℕ → ℕ
bundle_row_at p = bundle_row_size * p

abbrev pub bundle_word_at : ℕ → ℕ → ℕ
bundle_word_at p i = bundle_row_size * p + i

abbrev pub bundle_target_field : ℕ
bundle_target_field = 0

abbrev pub bundle_target_at : ℕ → ℕ
bundle_target_at p = bundle_word_at p bundle_target_field

abbrev pub bundle_count_field : ℕ
bundle_count_field = 1

abbrev pub bundle_count_at : ℕ → ℕ
bundle_count_at p = bundle_word_at p bundle_count_field

abbrev pub bundle_condition_field : ℕ
bundle_condition_field = 2

abbrev pub bundle_condition_at : ℕ → ℕ
bundle_condition_at p = bundle_word_at p bundle_condition_field

abbrev pub bundle_input_field : ℕ → ℕ
bundle_input_field k = 3 + k

abbrev pub bundle_input_at : ℕ → ℕ → ℕ
bundle_input_at p k = bundle_word_at p (bundle_input_field k)

abbrev pub bundle_word : List ℕ → ℕ → ℕ → ℕ
bundle_word w p i = word w bundles (bundle_word_at p i)

abbrev pub bundle_target : List ℕ → ℕ → ℕ
bundle_target w p = word w bundles (bundle_target_at p)

abbrev pub bundle_count : List ℕ → ℕ → ℕ
bundle_count w p = word w bundles (bundle_count_at p)

abbrev pub bundle_condition : List ℕ → ℕ → ℕ
bundle_condition w p = word w bundles (bundle_condition_at p)

abbrev pub bundle_input : List ℕ → ℕ → ℕ → ℕ
bundle_input w p k = word w bundles (bundle_input_at p k)

-- A slot for each of 32 regions and a spare one, with room for 32 targets and Return; then a bundle for each case's own edge.
abbrev pub slot_count : ℕ
slot_count = 33

abbrev pub slot_size : ℕ
slot_size = 33

abbrev pub slot_words : ℕ
slot_words = 231

abbrev pub own_edges_from : ℕ
own_edges_from = 1089

abbrev pub most_bundles : ℕ
most_bundles = 1097

-- No bundle; the target Return, as a sheet has it; the largest word.
abbrev pub no_bundle_word : ℕ
no_bundle_word = 65535

abbrev pub return_word : ℕ
return_word = sheet_numbers.return_word

abbrev pub largest : ℕ
largest = 65535
