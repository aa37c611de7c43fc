-- The types of undefined values in a record that stands: what reading leaves of them, by the numbers of regions and instructions.
use Rattle.std.specs.Prelude.{List, [], ℕ}
use Rattle.meaning.specs.Graph.{Graph, nowhere, region}
use Rattle.meaning.specs.Lists.{All}
use Rattle.meaning.specs.facts.Elements.{all_get_d}
use Rattle.format.specs.References.{no_instr}
use Rattle.format.proofs.laws.UndefinedTypes.{TypeRead, ReadsTypes, TypesRead, record_types}
use Rattle.record.specs.Stands.{Stands, words_of_record}
use Rattle.fields.specs.ByNumber.{block_of, instr_of, end_values}

types_read : {w : List ℕ} {g : Graph} → Stands w g → (r : ℕ) → TypesRead (region g r)
types_read {w} {g} s r =
    all_get_d TypesRead nowhere (record { blocks = tt; end = tt }) g.regions (record_types (words_of_record w) g s.reads) r

-- The values that an instruction reads, and those that the terminator of a region has, in a record that stands.
pub instr_types_read : {w : List ℕ} {g : Graph} → Stands w g → (r b i : ℕ) → All TypeRead (instr_of g r b i).reads
instr_types_read {g = g} s r b i =
    all_get_d ReadsTypes no_instr tt (block_of g r b) (all_get_d (All ReadsTypes) [] tt (region g r).blocks (types_read s r).blocks b) i

pub end_types_read : {w : List ℕ} {g : Graph} → Stands w g → (r : ℕ) → All TypeRead (end_values g r)
end_types_read s r = (types_read s r).end
