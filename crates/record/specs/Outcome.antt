-- What reading a record answers, and what the lent words hold then.
use Rattle.std.specs.Prelude.{◌≡◌, List, ℕ, length, get_or, take, drop, leb, Result}
use Rattle.meaning.specs.Graph.{Graph}
use Rattle.format.specs.Store.{Answer, accepted, refused}
use Rattle.format.specs.Read.{read_record}
use Rattle.format.specs.Refusals.{wrong_word_count}
use Rattle.store.specs.Layout.{record_end, index_end}
use Rattle.store.specs.Loaded.{answered}
use Rattle.store.specs.declared.refusals.Refusal.{Refusal}
use Rattle.record.specs.Stands.{words_of_record, Stands}
use Rattle.meaning.specs.Lists.{pick}

-- An answer with what was taken forgotten.
abbrev pub forget : {A : Type 0} → Answer A → Answer Unit
forget (accepted a) = accepted tt
forget (refused n w) = refused n w

-- Only the index may have changed.
pub record RestKept (old new : List ℕ) : Type 0 where
  pub size : length new ≡ length old
  pub front : take record_end new ≡ take record_end old
  pub back : drop index_end new ≡ drop index_end old

-- The record in front of the words: word 0 says how many words it has, and no record has more than the longest.
abbrev pub record_in : List ℕ → Answer Graph
record_in w = pick (leb (get_or w 0 0) record_end) (read_record (words_of_record w)) (refused wrong_word_count 0)

-- `old` are the lent words as they are read, `new` as they are handed back.
pub record ReadOutcome (old new : List ℕ) (a : Result Unit Refusal) : Type 0 where
  pub answer : answered a ≡ forget (record_in old)
  pub stands : (g : Graph) → record_in old ≡ accepted g → Stands new g
  pub kept : RestKept old new
