-- Readers that give a text for a field or a list of fields, as the code goes about them.
use Rattle.std.specs.Prelude.{[], map, ℕ, length}
use Rattle.meaning.specs.Text.{Text, ascii}
use Rattle.nesting.specs.Sheet.{joint, list, numbers, kind}
use Rattle.nesting.specs.decoding.Lines.{values_field, item_field, condition_field, condition_fields}
use Rattle.nesting.specs.decoding.Decode.{decode_number, decode_list, decode_value, decode_item}
use Rattle.nesting.specs.decoding.Decode.{decode_condition, parts}
use Rattle.text_cursor.specs.Lines.{TextReader, shown}
use Rattle.text_fields.specs.declared.fields.Field.{Field}
use Rattle.text_fields.specs.declared.fields.Field.TheVariants.{Number, Value, Item, Condition}
use Rattle.text_cursor.specs.Texts.{say, ◌then◌, number_text, value_text, skip_text}

abbrev pub item_text : TextReader
item_text = shown (λ i. (item_field i).text) decode_item

-- `depth` bounds how deep conditions stand in conditions.
abbrev pub condition_text : ℕ → TextReader
condition_text depth = shown (λ c. (condition_field c).text) (decode_condition depth)

abbrev pub field_within : ℕ → Field → TextReader
field_within depth Number = number_text
field_within depth Value = value_text
field_within depth Item = item_text
field_within depth Condition = condition_text depth

-- A list: its count, then its fields. Nothing stands for an empty one between the brackets of a condition.
abbrev pub list_within : ℕ → Field → TextReader
list_within depth Number = shown (λ ns. (numbers ns).text) (decode_list decode_number)
list_within depth Value = shown (λ vs. (values_field vs).text) (decode_list decode_value)
list_within depth Item = shown (λ is. (list (map item_field is)).text) (decode_list decode_item)
list_within depth Condition = shown (λ cs. (joint "," (condition_fields (parts cs))).text) (decode_list (decode_condition depth))

abbrev pub none_text : Field → Text
none_text Number = ascii "-"
none_text Value = ascii "-"
none_text Item = ascii "-"
none_text Condition = []

-- A condition is no deeper than it has words.
abbrev pub field_text : Field → TextReader
field_text kind ws = field_within (length ws) kind ws

abbrev pub list_text : Field → TextReader
list_text kind ws = list_within (length ws) kind ws

-- An item up to its reads.
abbrev pub item_head : TextReader
item_head =
    number_text then say (ascii ".") then number_text then say (ascii "/") then number_text then say (ascii "/") then number_text
    then say (ascii "/")

-- A condition up to its parts: m and the node.
abbrev pub merge_head : TextReader
merge_head = skip_text then say (ascii "m") then number_text then say (ascii "[")
