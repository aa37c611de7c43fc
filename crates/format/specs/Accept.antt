-- Every store of bytes is accepted, with its graph, or refused under one number, with a word (document 01, 1 to 8).
use Rattle.std.specs.Prelude.{List, ℕ}
use Rattle.meaning.specs.Graph.{Graph}
use Rattle.format.specs.Store.{Answer, accepted, if_accepted, store_words}
use Rattle.format.specs.Read.{read_record}
use Rattle.format.specs.References.{references}

-- Reading is whole before the first reference is looked at.
abbrev pub with_references : Answer Graph → Answer Graph
with_references r = if_accepted r λ g. if_accepted (references g) λ _. accepted g

-- Store, reading, references, in this order.
unfoldable pub accept : List ℕ → Answer Graph
unfolding store_words read_record references
accept s = if_accepted (store_words s) λ ws. with_references (read_record ws)
