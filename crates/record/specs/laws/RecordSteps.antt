-- The record as a whole: what the head and the regions answer together.
use Rattle.std.specs.Prelude.{◌≡◌, refl, List, ℕ, ◌≤◌, ◌<◌, length, get_or, take, Result, Ok, Err, MatchResult}
use Rattle.std.proofs.Common.{sym, ap, ◌∙◌, arith, get_or-take, le-leb}
use Rattle.std.specs.Result.{IsErrAnd}
use Rattle.meaning.specs.Graph.{Graph, Region}
use Rattle.meaning.specs.Graph as graph
use Rattle.store.specs.Layout.{record_end, Lent}
use Rattle.store.specs.Loaded.{answered}
use Rattle.store.specs.Refusals.{refused_as}
use Rattle.store.specs.declared.refusals.Refusal.{Refusal}
use Rattle.store.specs.declared.refusals.Refusal.TheVariants.{WrongWordCount}
use Rattle.std.proofs.lemmas.Bool.{lt-leb}
use Rattle.format.specs.Store.{accepted, refused}
use Rattle.format.specs.Read.{Read, got, bad, block, read_region, word_for, regions_from, Head, head, read_record}
use Rattle.format.specs.Places.{next, after, start_of_region, blocks_of_region, block_of_region, limit_of_region, exits_of_region}
use Rattle.meaning.specs.facts.Tests.{clash}
use Rattle.format.specs.Refusals.{wrong_word_count}
use Rattle.format.specs.laws.Readers.{many_length}
use Rattle.record.specs.Stands.{words_of_record, Indexed, Stands}
use Rattle.record.specs.laws.Parts.{RecordParts, record_parts, region_parts, counted_parts, settled_at, then, regions_many}
use Rattle.record.specs.laws.Parts.{accepted_value}
use Rattle.record.specs.laws.PartsWithin.{head_parts}
use Rattle.record.specs.Readings.{count_of, head_count}
use Rattle.record.specs.Outcome.{forget, RestKept, record_in, ReadOutcome}
use Rattle.record.specs.Index.{IndexedFrom, RegionsOutcome}
use Rattle.record.specs.laws.IndexSteps.{never, forget_then, kept_none, kept_words}

-- What was called, from what its `map_err` answered.
pub mapped_ok : {X E F : Type 0} (r : Result X E) (s : Result X F) (Q : E → F → Type 0) {x : X}
    → MatchResult r (λ y. s ≡ Ok y) (λ e. IsErrAnd s (Q e)) → s ≡ Ok x → r ≡ Ok x
mapped_ok (Ok y) s Q h is = cc
mapped_ok (Err e) (Ok y) Q h is = absurd h
mapped_ok (Err e) (Err f) Q h is = absurd (clash (cc))

pub record MappedErr {X E F : Type 0} (r : Result X E) (Q : E → F → Type 0) (f : F) : Type 0 where
  pub why : E
  pub is : r ≡ Err why
  pub told : Q why f

pub mapped_err : {X E F : Type 0} (r : Result X E) (s : Result X F) (Q : E → F → Type 0) (f : F)
    → MatchResult r (λ y. s ≡ Ok y) (λ e. IsErrAnd s (Q e)) → s ≡ Err f → MappedErr r Q f
mapped_err (Ok y) s Q f h is = absurd (clash (cc))
mapped_err (Err e) (Ok y) Q f h is = absurd h
mapped_err (Err e) (Err g) Q f h is = record { why = e; is = refl; told = let same : g ≡ f = cc in rw (← same) h }

-- A head of which the count and the place are known.
record HeadFound (ws : List ℕ) (n at : ℕ) : Type 0 where
  h : Head
  is : head ws 1 ≡ got h at
  count : h.count ≡ n

head_found : (ws : List ℕ) {n at : ℕ} → head_count ws 1 ≡ got n at → HeadFound ws n at
unfolding head_count
head_found ws {n} {at} q = by_head (head ws 1) refl q
  where
    by_head : (r : Read Head) → head ws 1 ≡ r → count_of r ≡ got n at → HeadFound ws n at
    by_head (got h i) p q = let there : i ≡ at = cc in record { h = h; is = p ∙ ap (got h) there; count = cc }
    by_head (bad m) p q = absurd (clash (cc))

pub head_few : (ws : List ℕ) {n at : ℕ} → head_count ws 1 ≡ got n at → n ≤ 32
head_few ws h = let f = head_found ws h in omega (arith, (head_parts ws f.is).high_bound, f.count)

bad_head : (r : Read Head) {m : ℕ} → count_of r ≡ bad m → r ≡ bad m
bad_head (got h i) q = absurd (clash (cc))
bad_head (bad n) q = cc

-- Of a record with W words, which is not too long.
pub record WordsOutcome (count : ℕ) (old new : List ℕ) (a : Result Unit Refusal) : Type 0 where
  pub answer : answered a ≡ forget (read_record (take count old))
  pub stands : (g : Graph) → read_record (take count old) ≡ accepted g → Stands new g
  pub kept : RestKept old new

pub in_words : (count : ℕ) (old new : List ℕ) (a : Result Unit Refusal) → count ≡ get_or old 0 0 → count ≤ record_end → WordsOutcome count old new a
    → ReadOutcome old new a
in_words count old new a is few o =
    let same : record_in old ≡ read_record (take count old) = rw (← is, le-leb count record_end few) in
    record { answer = o.answer ∙ sym (ap forget same); stands = λ g q. o.stands g (sym same ∙ q); kept = o.kept }

pub too_long : (count : ℕ) (old : List ℕ) → count ≡ get_or old 0 0 → record_end < count → ReadOutcome old old (Err WrongWordCount)
too_long count old is over =
    let none : record_in old ≡ refused wrong_word_count 0 = rw (← is, lt-leb count record_end over) in
    record { answer = sym (ap forget none); stands = λ g q. absurd (clash (cc)); kept = kept_none old }

-- the head is refused
pub record_stop : (count : ℕ) (old : List ℕ) (why : Refusal) {m : ℕ} → head_count (take count old) 1 ≡ bad m
    → refused_as {A = Unit {0}} why ≡ refused m (word_for m 0) → WordsOutcome count old old (Err why)
unfolding read_record head_count
record_stop count old why {m} h told =
    let stop = bad_head (head (take count old) 1) h in
    let answer : forget (read_record (take count old)) ≡ refused m (word_for m 0) = rw stop in
    record { answer = told ∙ sym answer; stands = λ g q. never (read_record (take count old)) answer q; kept = kept_none old }

-- the regions decide
record_answer : (ws : List ℕ) (n at : ℕ) → HeadFound ws n at → forget (read_record ws) ≡ forget (regions_from n 0 ws at)
unfolding read_record
record_answer ws n at f =
    rw f.is
    (forget_then (regions_from f.h.count 0 ws at) (λ rs. record {
      entry = f.h.entry;
      test_cost = f.h.test_cost;
      constants =
          f.h.constants;
      regions = rs;
    })
    ∙ ap (λ k. forget (regions_from k 0 ws at)) f.count)

-- the regions of a record that is accepted
regions_accepted : (ws : List ℕ) (n at : ℕ) {g : Graph} → HeadFound ws n at → read_record ws ≡ accepted g
    → regions_from n 0 ws at ≡ accepted g.regions
unfolding read_record
regions_accepted ws n at {g} f h =
    let a = settled_at 0 (head ws 1) _ g h in
    let b = then (regions_from a.value.count 0 ws a.place) _ g a.second in
    same_head a.value a.place b.value (sym a.first ∙ f.is) b.first (accepted_value b.second)
  where
    same_head : (v : Head) (p : ℕ) (rs : List Region) → got v p ≡ got f.h at → regions_from v.count 0 ws p ≡ accepted rs
        → record { entry = v.entry; test_cost = v.test_cost; constants = v.constants; regions = rs } ≡ g
        → regions_from n 0 ws at ≡ accepted g.regions
    same_head v p rs q r whole =
        let place : at ≡ p = cc in
        let value : f.h ≡ v = cc in
        let count : n ≡ v.count = sym f.count ∙ ap (λ x. x.count) value in
        ap (λ k. regions_from k 0 ws at) count ∙ ap (regions_from v.count 0 ws) place ∙ r ∙ ap (λ x. accepted x.regions) whole

-- The index that the regions made is the index of the graph.
indexed_as : (ws w : List ℕ) (g : Graph) (at r : ℕ) → words_of_record w ≡ ws → at ≡ next (head ws 1) → RecordParts ws g
    → r < length g.regions → IndexedFrom ws at w r → Indexed w g r
unfolding start_of_region
indexed_as ws w g at r words place parts below x =
    let start : after r read_region ws at ≡ start_of_region (words_of_record w) r = ap (after r read_region ws) place
    ∙ ap (λ s. start_of_region s r) (sym words) in
    let blocks = counted_parts 0 8 block ws (blocks_of_region ws (start_of_region ws r))
    (region_parts ws (start_of_region ws r) (parts.region r below)).blocks in
    let count : get_or ws (blocks_of_region ws (after r read_region ws at)) 0 ≡ length (graph.region g r).blocks =
    ap (λ i. get_or ws (blocks_of_region ws i) 0) (ap (after r read_region ws) place) ∙ blocks.count in
    record {
      start = x.start ∙ start;
      limit = x.limit ∙ ap (limit_of_region ws) start ∙ ap (λ s. limit_of_region s (start_of_region (words_of_record w) r)) (sym words);
      exits = x.exits ∙ ap (exits_of_region ws) start ∙ ap (λ s. exits_of_region s (start_of_region (words_of_record w) r)) (sym words);
      block =
          λ b l. x.block b (omega (arith, blocks.high_bound)) (omega (arith, count)) ∙ ap (λ i. block_of_region ws i b) start
          ∙ ap (λ s. block_of_region s (start_of_region (words_of_record w) r) b) (sym words);
    }

pub record_whole : (n count at : ℕ) (old new : List ℕ) (a : Result Unit Refusal) → count ≤ record_end → get_or old 0 0 ≡ count → Lent old
    → head_count (take count old) 1 ≡ got n at → RegionsOutcome n count at old new a → WordsOutcome count old new a
record_whole n count at old new a small first long h out =
    let ws = take count old in
    let f = head_found ws h in
    record {
      answer = out.answer ∙ sym (record_answer ws n at f);
      stands = λ g q. stand g q f;
      kept = out.kept;
    }
  where
    first_kept : get_or new 0 0 ≡ get_or old 0 0
    first_kept =
        sym (get_or-take record_end new 0 0 (omega arith)) ∙ ap (λ l. get_or l 0 0) out.kept.front
        ∙ get_or-take record_end old 0 0 (omega arith)

    words : words_of_record new ≡ take count old
    words = ap (λ k. take k new) (first_kept ∙ first) ∙ kept_words old new count small out.kept

    stand : (g : Graph) → read_record (take count old) ≡ accepted g → HeadFound (take count old) n at → Stands new g
    stand g q f =
        let ws = take count old in
        let parts = record_parts ws q in
        let regions = regions_accepted ws n at f q in
        let size : length g.regions ≡ n = many_length read_region ws n at (regions_many n 0 ws at regions) in
        record {
          lent = record { room = omega (arith, out.kept.size, long.room); few = omega (arith, out.kept.size, long.few) };
          fits = omega (arith, first_kept);
          reads = ap read_record words ∙ q;
          index =
              λ r below. indexed_as ws new g at r words (sym (ap next f.is)) parts below
              (out.index g.regions regions r (omega (arith, size)));
        }
