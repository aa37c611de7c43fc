-- The word of a value, by ranges: what the tests and parts of a word are.
use Rattle.std.specs.Prelude.{Bool, false, ℕ, ◌+◌, ◌*◌, ◌-◌, ◌/◌, ◌%◌, ltb}
use Rattle.meaning.specs.Lists.{pick}
use Rattle.meaning.specs.Graph.{const_kind, input_kind, instr_kind, output_kind, bool_kind, undef_kind}
use Rattle.fields.specs.declared.shape.Value.{Value}
use Rattle.fields.specs.declared.shape.Value.TheVariants.{Const, Input, Instr, Bool as Truth, Undef, Nothing}
use Rattle.state_words.specs.declared.values.Parts.{Parts}
use Rattle.nesting.specs.Nesting.{most_regions, most_outputs}

-- Where each range begins, behind the constants: booleans, false before true; undefined values, outputs, inputs, marked inputs,
-- instructions; from the last on a word names nothing.
abbrev pub bool_from : ℕ
bool_from = 64

abbrev pub false_word : ℕ
false_word = bool_from

abbrev pub true_word : ℕ
true_word = 65

abbrev pub undef_from : ℕ
undef_from = 66

abbrev pub output_from : ℕ
output_from = 322

abbrev pub input_from : ℕ
input_from = 1024

abbrev pub held_from : ℕ
held_from = 1536

abbrev pub instr_from : ℕ
instr_from = 2048

abbrev pub names_nothing : ℕ
names_nothing = 4096

-- Input k of region r, marked or not: four from `base` on for each region. Instruction k of region r: 64 for each.
abbrev pub input_word_at : ℕ → ℕ → ℕ → ℕ
input_word_at base r k = base + 4 * r + k

abbrev pub instr_word_at : ℕ → ℕ → ℕ
instr_word_at r k = instr_from + 64 * r + k

unfoldable pub is_input : ℕ → Bool
is_input v = pick (ltb v input_from) false (ltb v held_from)

unfoldable pub is_held : ℕ → Bool
is_held v = pick (ltb v held_from) false (ltb v instr_from)

-- The region and the index of an input, marked or not.
abbrev pub input_region : ℕ → ℕ
input_region v = v % (4 * most_regions) / 4

abbrev pub input_index : ℕ → ℕ
input_index v = v % 4

-- The words of values.
unfoldable pub const_word : ℕ → ℕ
const_word i = pick (ltb i bool_from) i names_nothing

abbrev pub bool_word : Bool → ℕ
bool_word b = pick b true_word false_word

unfoldable pub instr_word : ℕ → ℕ → ℕ
instr_word r k = pick (ltb r 32) (pick (ltb k 64) (instr_word_at r k) names_nothing) names_nothing

unfoldable pub output_word : ℕ → ℕ
output_word o = pick (ltb o most_outputs) (output_from + o) names_nothing

unfoldable pub undef_word : ℕ → ℕ
undef_word ty = pick (ltb ty 256) (undef_from + ty) names_nothing

unfoldable pub region_word : ℕ → ℕ → ℕ → ℕ
region_word base r k = pick (ltb r most_regions) (pick (ltb k 4) (input_word_at base r k) names_nothing) names_nothing

-- The word of a record's value.
abbrev pub value_word : Value → ℕ
value_word (Const i) = const_word i
value_word (Input r k) = region_word input_from r k
value_word (Instr r k) = instr_word r k
value_word (Truth b) = bool_word b
value_word (Undef ty) = undef_word ty
value_word Nothing = names_nothing

-- A value taken apart, by its range.
abbrev pub parts : ℕ → ℕ → ℕ → Parts
parts kind of index = record { kind = kind; of = of; index = index }

unfoldable pub parts_of : ℕ → Parts
parts_of v =
    pick (ltb v bool_from) (parts const_kind 0 v)
    (pick (ltb v undef_from) (parts bool_kind 0 (v - bool_from))
    (pick (ltb v output_from) (parts undef_kind 0 (v - undef_from))
    (pick (ltb v input_from) (parts output_kind 0 (v - output_from))
    (pick (ltb v instr_from) (parts input_kind (input_region v) (input_index v))
    (pick (ltb v names_nothing) (parts instr_kind ((v - instr_from) / 64) (v % 64)) (parts undef_kind 0 0))))))
