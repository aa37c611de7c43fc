-- What accepting a store answers, and what the lent words hold then (document 01, refusals 1 to 8).
use Rattle.std.specs.Prelude.{◌≡◌, List, ℕ, length, take, drop, Result}
use Rattle.std.proofs.Math.Seq.{slice}
use Rattle.meaning.specs.Graph.{Graph}
use Rattle.format.specs.Store.{accepted, refused, store_words}
use Rattle.format.specs.Accept.{accept}
use Rattle.store.specs.Layout.{record_end, index_end}
use Rattle.store.specs.Loaded.{answered}
use Rattle.store.specs.declared.refusals.Refusal.{Refusal}
use Rattle.record.specs.Stands.{Stands}
use Rattle.record.specs.Outcome.{forget, RestKept, record_in}
use Rattle.accept.specs.Judged.{Judged}

-- `old` are the words as lent, `new` as they are handed back. A store that is refused leaves them as lent. Otherwise its words
-- stand in front, also where its record is refused, and only the index, words 4,048 to 4,399, may have changed besides.
pub record Accepts (s old new : List ℕ) (a : Result (Unit {0}) Refusal) : Type 0 where
  pub answer : answered a ≡ forget (accept s)
  pub stands : (g : Graph) → accept s ≡ accepted g → Stands new g
  pub in_front : (ws : List ℕ) → store_words s ≡ accepted ws → take (length ws) new ≡ ws
  pub between : (ws : List ℕ) → store_words s ≡ accepted ws → slice (length ws) record_end new ≡ slice (length ws) record_end old
  pub size : length new ≡ length old
  pub beyond : drop index_end new ≡ drop index_end old
  pub as_lent : (n w : ℕ) → store_words s ≡ refused n w → new ≡ old

-- Of the record in front of the words: what reading and references answer, and that only the index may have changed.
pub record ReadChecked (old new : List ℕ) (a : Result (Unit {0}) Refusal) : Type 0 where
  pub judged : Judged (record_in old) new (answered a)
  pub kept : RestKept old new
