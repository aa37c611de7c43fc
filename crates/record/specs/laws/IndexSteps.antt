-- The paths through the code that reads the regions and makes the index.
use Rattle.std.specs.Prelude.{◌≡◌, Bool, List, ◌∷◌, length, set, Ok, Err}
use Rattle.std.proofs.Math.Path.{refl, ap}
use Rattle.std.proofs.Common.{sym, ◌∙◌, add-one, take-take, length-take-le}
use Rattle.std.proofs.Math.Bool.{true, false}
use Prim.Native.Nat.{ℕ, suc, ◌+◌, ◌-◌, ◌≤◌, ◌<◌}
use native.Mathlib.Omega.{arith}
use Rattle.std.proofs.Math.ListN.{get_or, take}
use Rattle.std.proofs.Math.Dec.{ltb}
use borrow.Author.Tests.{eq-eqb, ne_eqb, ltb-true, ltb-false}
use Rattle.meaning.specs.Graph.{Region}
use Rattle.meaning.specs.facts.Numbers.{one_less, none_left}
use Rattle.format.specs.Store.{Answer, accepted, refused, if_accepted}
use Rattle.format.specs.Read.{Read, got, bad, read_region, word_for, settle, regions_from}
use Rattle.format.specs.Refusals.{wrong_word_count}
use Rattle.format.specs.Places.{next, forget_value, after, block_of_region, limit_of_region, exits_of_region}
use Rattle.meaning.specs.facts.Tests.{clash}
use Rattle.store.specs.Layout.{record_end, row_words, start_word, limit_word, exits_word, blocks_word, index_at, index_end}
use Rattle.store.specs.Refusals.{refused_as}
use Rattle.store.specs.declared.refusals.Refusal.{Refusal}
use Rattle.store.specs.declared.refusals.Refusal.TheVariants.{WrongWordCount}
use Rattle.reading.specs.laws.Forgotten.{next_of}
use Rattle.reading.specs.Answers.{fault_number, Reads}
use Rattle.reading.specs.declared.words.Cursor.{Cursor}
use Rattle.reading.specs.declared.words.Fault.{Fault}
use Rattle.record.specs.Answers.{Placed, RegionPlaced}
use Rattle.record.specs.laws.Row.{row_none, row_next, row_join, row_front, row_back}
use Rattle.record.specs.Outcome.{forget, RestKept}
use Rattle.record.specs.Index.{Row, row_of, IndexedFrom, RegionsOutcome}
use Rattle.record.specs.declared.regions.RegionPlaces.{RegionPlaces}

-- one region more, refused, and the end
pub forget_then : {A B : Type 0} (r : Answer A) (f : A → B) → forget (if_accepted r λ a. accepted (f a)) ≡ forget r
forget_then (accepted a) f = refl
forget_then (refused n w) f = refl

module _ (n r : ℕ) (ws : List ℕ) (at : ℕ) where
  regions_step : {e : ℕ} → forget_value (read_region ws at) ≡ got tt e
      → forget (regions_from (suc n) r ws at) ≡ forget (regions_from n (suc r) ws e)
  unfolding regions_from
  regions_step {e} h = by_first (read_region ws at) h
    where
      by_first : (x : Read Region) → forget_value x ≡ got tt e
          → forget (settle r x λ y i. if_accepted (regions_from n (suc r) ws i) λ ys. accepted (y ∷ ys)) ≡ forget
          (regions_from n (suc r) ws e)
      by_first (got y i) q = let same : e ≡ i = next_of (got y i) q in rw same (forget_then (regions_from n (suc r) ws i) (λ ys. y ∷ ys))
      by_first (bad m) q = absurd (clash (cc))

  regions_stop : {m : ℕ} → forget_value (read_region ws at) ≡ bad m → forget (regions_from (suc n) r ws at) ≡ refused m (word_for m r)
  unfolding regions_from
  regions_stop {m} h = by_first (read_region ws at) h
    where
      by_first : (x : Read Region) → forget_value x ≡ bad m
          → forget (settle r x λ y i. if_accepted (regions_from n (suc r) ws i) λ ys. accepted (y ∷ ys)) ≡ refused m (word_for m r)
      by_first (got y i) q = absurd (clash (cc))
      by_first (bad k) q = let same : k ≡ m = cc in ap (λ j. refused j (word_for j r)) same

regions_end : (r : ℕ) (ws : List ℕ) (at : ℕ) → at ≡ length ws → accepted tt ≡ forget (regions_from 0 r ws at)
unfolding regions_from
regions_end r ws at h = rw (regions_from, eq-eqb at (length ws) h)

regions_over : (r : ℕ) (ws : List ℕ) (at : ℕ) → (at ≡ length ws → ⊥) → refused wrong_word_count 0 ≡ forget (regions_from 0 r ws at)
unfolding regions_from
regions_over r ws at h = rw (regions_from, ne_eqb at (length ws) h)

-- what is refused is not accepted
pub never : {A B : Type 0} (r : Answer A) {a : A} {m k : ℕ} → forget r ≡ refused m k → r ≡ accepted a → B
never r {a} {m} {k} p q = absurd (unlike (sym (ap forget q) ∙ p))
  where
    unlike : ◌≡◌ {A = Answer Unit} (accepted tt) (refused m k) → ⊥
    unlike h = clash (cc)

-- the three words in front of a region's blocks
abbrev pub stored_words : List ℕ → ℕ → ℕ → RegionPlaces → List ℕ
stored_words old at start x = set (set (set old (at + start_word) start) (at + limit_word) x.limit) (at + exits_word) x.exits

-- and its blocks
pub store_row : (old new : List ℕ) (r start : ℕ) (x : RegionPlaces) → r < 32 → index_end ≤ length old
    → Row (stored_words old (index_at r) start x) new (index_at r + blocks_word) 8 (λ b. get_or x.blocks b 0)
    → Row old new (index_at r) row_words (row_of start x)
unfolding row_of
store_row old new r start x l long blocks =
    let at = index_at r in
    let f = row_of start x in
    let one = row_next old old at start_word f (row_none old at f) (omega arith) refl in
    let two = row_next old _ at limit_word f one (omega arith) refl in
    let three = row_next old _ at exits_word f two (omega arith) refl in
    row_join old _ new at blocks_word 8 f (λ b. get_or x.blocks b 0) three blocks (λ b. block_row b)
  where
    block_row : (b : ℕ) → get_or x.blocks b 0 ≡ row_of start x (3 + b)
    block_row b = let same : 3 + b ≡ suc (suc (suc b)) = omega arith in rw same

-- the index of the region just read, and of those before
module _ (ws : List ℕ) (from : ℕ) where
  indexed_here : (r at : ℕ) (x : RegionPlaces) (old new : List ℕ) → at ≡ after r read_region ws from → Placed ws at x
      → Row old new (index_at r) row_words (row_of at x) → IndexedFrom ws from new r
  unfolding row_of
  indexed_here r at x old new place placed row =
      record {
        start = row.row start_word (omega arith) ∙ place;
        limit = row.row limit_word (omega arith) ∙ placed.limit ∙ ap (limit_of_region ws) place;
        exits = row.row exits_word (omega arith) ∙ placed.exits ∙ ap (exits_of_region ws) place;
        block =
            λ b small below. ap (λ i. get_or new i 0) (at_block b) ∙ row.row (suc (suc (suc b))) (omega arith)
            ∙ placed.blocks b (rw place below) ∙ ap (λ i. block_of_region ws i b) place;
      }
    where
      at_block : (b : ℕ) → index_at r + blocks_word + b ≡ index_at r + suc (suc (suc b))
      at_block b = omega arith

  indexed_kept : (k r : ℕ) (old new : List ℕ) (f : ℕ → ℕ) → k < r → Row old new (index_at r) row_words f → IndexedFrom ws from old k
      → IndexedFrom ws from new k
  indexed_kept k r old new f l row x =
      record {
        start = row.below (index_at k + start_word) (omega arith) ∙ x.start;
        limit = row.below (index_at k + limit_word) (omega arith) ∙ x.limit;
        exits = row.below (index_at k + exits_word) (omega arith) ∙ x.exits;
        block = λ b small below. row.below (index_at k + blocks_word + b) (omega arith) ∙ x.block b small below;
      }

-- The r-th turn of the loop over them: the rest is read from a place.
pub record RegionsGoing (n count from : ℕ) (old : List ℕ) (r at : ℕ) (new : List ℕ) : Type 0 where
  pub bound : r ≤ n
  pub rest : forget (regions_from n 0 (take count old) from) ≡ forget (regions_from (n - r) r (take count old) at)
  pub place : at ≡ after r read_region (take count old) from
  pub index : (k : ℕ) → k < r → IndexedFrom (take count old) from new k
  pub kept : RestKept old new

pub kept_none : (old : List ℕ) → RestKept old old
kept_none old = record { size = refl; front = refl; back = refl }

kept_row : (old mid new : List ℕ) (r : ℕ) (f : ℕ → ℕ) → r < 32 → RestKept old mid → Row mid new (index_at r) row_words f → RestKept old new
kept_row old mid new r f l k row =
    record {
      size = row.size ∙ k.size;
      front = row_front row record_end (omega arith) ∙ k.front;
      back = row_back row index_end (omega arith) ∙ k.back;
    }

-- the record's words stay
pub kept_words : (old new : List ℕ) (count : ℕ) → count ≤ record_end → RestKept old new → take count new ≡ take count old
kept_words old new count l k = sym (take-take count record_end new l) ∙ ap (take count) k.front ∙ take-take count record_end old l

module _ (n count from : ℕ) (old : List ℕ) where
  pub regions_start : RegionsGoing n count from old 0 from old
  unfolding after
  regions_start =
      record {
        bound = omega arith;
        rest = ap (λ k. forget (regions_from k 0 (take count old) from)) (omega arith);
        place = refl;
        index =
            λ k l. absurd (omega arith);
        kept = kept_none old;
      }

  module _ {r : ℕ} {mid : List ℕ} (c : Cursor) (g : RegionsGoing n count from old r c.at mid) (ends : c.end ≡ count)
      (turn : r < n) (small : count ≤ record_end) where
    same_words : take count mid ≡ take count old
    same_words = kept_words old mid count small g.kept

    pub regions_next : (x : RegionPlaces) (new : List ℕ) → RegionPlaced mid c x → n ≤ 32
        → Row mid new (index_at r) row_words (row_of c.at x) → RegionsGoing n count from old (r + 1) x.behind.at new
    unfolding after
    regions_next x new read few row =
        let ws = take count old in
        let at = c.at in
        let there = rw ends at read.step.is in
        let whole : forget_value (read_region ws at) ≡ got tt x.behind.at = rw same_words at there in
        record {
          bound = omega arith;
          rest =
              g.rest ∙ ap (λ k. forget (regions_from k r ws at)) (one_less n r turn) ∙ regions_step (n - (r + 1)) r ws at whole
              ∙ ap (λ k. forget (regions_from (n - (r + 1)) k ws x.behind.at)) (sym (add-one r));
          place =
              next_of (read_region ws at) whole ∙ ap (λ i. next (read_region ws i)) g.place
              ∙ ap (λ k. after k read_region ws from) (sym (add-one r));
          index = λ k below. by_region k below (ltb k r) refl row (rw (ends, same_words) at read.placed);
          kept = kept_row old mid new r (row_of at x) (omega arith) g.kept row;
        }
      where
        by_region : (k : ℕ) → k < r + 1 → (t : Bool) → ltb k r ≡ t → Row mid new (index_at r) row_words (row_of c.at x)
            → Placed (take count old) c.at x → IndexedFrom (take count old) from new k
        by_region k below true q row placed =
            indexed_kept (take count old) from k r mid new (row_of c.at x) (ltb-true k r q) row (g.index k (ltb-true k r q))
        by_region k below false q row placed =
            let same : k ≡ r = omega (arith, ltb-false k r q) in
            rw same (indexed_here (take count old) from r c.at x mid new g.place placed row)

    pub regions_refused : (fault : Fault) (why : Refusal) → Reads read_region mid c (Err fault)
        → refused_as {A = Unit {0}} why ≡ refused (fault_number fault) (word_for (fault_number fault) r)
        → RegionsOutcome n count from old mid (Err why)
    regions_refused fault why h told =
        let ws = take count old in
        let at = c.at in
        let m = fault_number fault in
        let there = rw ends at h in
        let stop : forget_value (read_region ws at) ≡ bad m = rw same_words at there in
        let answer : forget (regions_from n 0 ws from) ≡ refused m (word_for m r) = g.rest
        ∙ ap (λ k. forget (regions_from k r ws at)) (one_less n r turn) ∙ regions_stop (n - (r + 1)) r ws at stop in
        record { answer = told ∙ sym answer; index = λ rs q. never (regions_from n 0 ws from) answer q; kept = g.kept }

  module _ {r at : ℕ} {mid : List ℕ} (g : RegionsGoing n count from old r at mid) (over : n ≤ r) (fits : count ≤ length old) where
    long : length (take count old) ≡ count
    long = length-take-le count old fits

    pub regions_read : at ≡ count → RegionsOutcome n count from old mid (Ok tt)
    regions_read h =
        record {
          answer =
              regions_end r (take count old) at (h ∙ sym long) ∙ sym
              (g.rest ∙ ap (λ k. forget (regions_from k r (take count old) at)) (none_left n r over));
          index = λ rs q k below. g.index k (omega arith);
          kept = g.kept;
        }

    pub regions_left : (at ≡ count → ⊥) → RegionsOutcome n count from old mid (Err WrongWordCount)
    regions_left h =
        let ws = take count old in
        let answer : refused wrong_word_count 0 ≡ forget (regions_from n 0 ws from) = regions_over r ws at (λ q. h (q ∙ long))
        ∙ sym (g.rest ∙ ap (λ k. forget (regions_from k r ws at)) (none_left n r over)) in
        record { answer = answer; index = λ rs q. never (regions_from n 0 ws from) (sym answer) q; kept = g.kept }
