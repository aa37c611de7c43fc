-- What reading alone leaves of a region: every count, type and limit within its bounds.
use Rattle.std.specs.Prelude.{◌≡◌, refl, Bool, true, false, ◌&&◌, List, [], ◌∷◌, map, ℕ, zero, suc, ◌≤◌, length, get_or, eqb, leb}
use Rattle.std.proofs.Common.{sym, ap, arith, leb-true}
use Rattle.meaning.specs.Graph.{Value, Instr, SelectionKind, bool_cond, number, Edge, ControlInst, unreachable, return, exit_invocation}
use Rattle.meaning.specs.Graph.{branch, select_branch, Region, Graph}
use Rattle.format.specs.Store.{Answer, accepted, refused, if_accepted}
use Rattle.format.specs.Read.{Read, got, bad, Reader, read_then, expect, many, counted, within, word, type, read_value, instruction}
use Rattle.format.specs.Read.{block, terminator, read_region, opcode_for, fewest_values, most_values, fewest_targets, most_targets}
use Rattle.format.specs.Read.{edges_passed, control_inst, settle, regions_from, head, Head, read_record}
use Rattle.format.specs.Read.{terminator_unreachable, terminator_number}
use Rattle.meaning.specs.facts.Tests.{clash, and_both}
use Rattle.format.specs.laws.Readers.{part, expected, got_value, many_length}
use Rattle.format.specs.Refusals.{wrong_word_count}
use Rattle.meaning.specs.Lists.{All, Within, distinct_from, rank}

-- The bounds of what `within` gives.
pub within_bounds : (low high : ℕ) (ws : List ℕ) (at : ℕ) {n e : ℕ} → within low high ws at ≡ got n e → Within low high n
unfolding within
within_bounds low high ws at {n} {e} h =
    let a = part (word ws at) (λ m i. read_then (expect (leb low m && leb m high) ws i) λ u j. got m j) n e h in
    let b = part (expect (leb low a.value && leb a.value high) ws a.place) (λ u j. got a.value j) n e a.second in
    let same : a.value ≡ n = cc in
    let holds = expected (leb low a.value && leb a.value high) ws a.place b.first in
    rw same at (bounds a.value holds)
  where
    bounds : (m : ℕ) → (leb low m && leb m high) ≡ true → Within low high m
    bounds m q =
        let both = and_both (leb low m) (leb m high) q in
        (leb-true low m both.0, leb-true m high both.1)

-- What each item has, all have.
pub many_all : {A : Type 0} (p : Reader A) (P : A → Type 0) (ws : List ℕ) → ((at : ℕ) (x : A) (e : ℕ) → p ws at ≡ got x e → P x)
    → (n at : ℕ) {e : ℕ} {xs : List A} → many n p ws at ≡ got xs e → All P xs
unfolding many
many_all p P ws each zero at {xs = xs} h = let same : xs ≡ [] = cc in rw same tt
many_all p P ws each (suc n) at {e} {xs} h =
    let a = part (p ws at) (λ x i. read_then (many n p ws i) λ ys j. got (x ∷ ys) j) xs e h in
    let b = part (many n p ws a.place) (λ ys j. got (a.value ∷ ys) j) xs e a.second in
    let same : xs ≡ a.value ∷ b.value = cc in
    rw same (each at a.value a.place a.first, many_all p P ws each n a.place b.first)

pub record CountWithin {A : Type 0} (low high : ℕ) (P : A → Type 0) (xs : List A) : Type 0 where
  pub count : Within low high (length xs)
  pub all : All P xs

pub counted_all : {A : Type 0} (p : Reader A) (P : A → Type 0) (ws : List ℕ) → ((at : ℕ) (x : A) (e : ℕ) → p ws at ≡ got x e → P x)
    → (low high at : ℕ) {e : ℕ} {xs : List A} → counted low high p ws at ≡ got xs e → CountWithin low high P xs
unfolding counted
counted_all p P ws each low high at {e} {xs} h =
    let a = part (within low high ws at) (λ n i. many n p ws i) xs e h in
    let long : length xs ≡ a.value = many_length p ws a.value a.place a.second in
    record {
      count = rw long (within_bounds low high ws at a.first);
      all = many_all p P ws each a.value a.place a.second;
    }

abbrev pub Any : {A : Type 0} → A → Type 0
Any x = Unit

pub record InstrRead (i : Instr) : Type 0 where
  pub type : i.type ≤ 255
  pub few : length i.reads ≤ 3

abbrev pub BlockRead : List Instr → Type 0
BlockRead b = CountWithin 1 8 InstrRead b

instruction_read : (ws : List ℕ) (at : ℕ) (i : Instr) (e : ℕ) → instruction ws at ≡ got i e → InstrRead i
unfolding instruction
instruction_read ws at i e h =
    let a = part (word ws at) _ i e h in
    let b = part (within 0 255 ws a.place) _ i e a.second in
    let c = part (word ws b.place) _ i e b.second in
    let d = part (counted 0 3 read_value ws c.place) _ i e c.second in
    let type : i.type ≡ b.value = ap (λ r. r.type) (sym (got_value d.second)) in
    let reads : i.reads ≡ d.value = ap (λ r. r.reads) (sym (got_value d.second)) in
    record {
      type = rw type (within_bounds 0 255 ws a.place b.first).1;
      few = rw reads (counted_all read_value Any ws (λ j x k q. tt) 0 3 c.place d.first).count.1;
    }

block_read : (ws : List ℕ) (at : ℕ) (b : List Instr) (e : ℕ) → block ws at ≡ got b e → BlockRead b
unfolding block
block_read ws at b e h = counted_all instruction InstrRead ws (instruction_read ws) 1 8 at h

-- Each place of a target has the values that its target is passed.
pub record SamePasses (es : List Edge) : Type 0 where
  pub passed : ℕ → List Value
  pub all : All (λ e. e.inputs ≡ passed e.target) es

module _ (ts : List ℕ) (passes : List (List Value)) where
  abbrev passed_to : ℕ → List Value
  passed_to t = get_or passes (rank t (distinct_from [] ts)) []

  abbrev edge_to : ℕ → Edge
  edge_to t = record { target = t; inputs = passed_to t }

  same_over : (us : List ℕ) → All (λ (e : Edge). e.inputs ≡ passed_to e.target) (map edge_to us)
  same_over [] = tt
  same_over (u ∷ us) = (refl, same_over us)

  length_over : (us : List ℕ) → length (map edge_to us) ≡ length us
  length_over [] = refl
  length_over (u ∷ us) = ap suc (length_over us)

  same_passes : SamePasses (edges_passed ts passes)
  unfolding edges_passed
  same_passes = record { passed = passed_to; all = same_over ts }

  edges_length : length (edges_passed ts passes) ≡ length ts
  unfolding edges_passed
  edges_length = length_over ts

abbrev pub TargetsRead : SelectionKind → List Edge → Type 0
TargetsRead bool_cond es = length es ≡ 2
TargetsRead number es = Within 1 8 (length es)

abbrev pub EndRead : ControlInst → Type 0
EndRead unreachable = Unit
EndRead (return vs) = length vs ≤ 4
EndRead (exit_invocation op vs) = length vs ≤ 4
EndRead (branch e) = Unit
EndRead (select_branch k v es) = TargetsRead k es × SamePasses es

-- The counts of values and targets that go with a kind bound those of its terminator.
end_read : (k op : ℕ) (vs : List Value) (es : List Edge) → k ≤ 5 → length vs ≤ most_values k
    → Within (fewest_targets k) (most_targets k) (length es) → SamePasses es → EndRead (control_inst k op vs es)
end_read zero op vs es h v t s = tt
end_read (suc zero) op vs es h v t s = v
end_read (suc (suc zero)) op vs es h v t s = v
end_read (suc (suc (suc zero))) op vs es h v t s = tt
end_read (suc (suc (suc (suc zero)))) op vs es h v t s = (omega arith, s)
end_read (suc (suc (suc (suc (suc zero))))) op vs es h v t s = (t, s)
end_read (suc (suc (suc (suc (suc (suc k)))))) op vs es h v t s = absurd (omega arith)

terminator_read : (ws : List ℕ) (at : ℕ) (x : ControlInst) (e : ℕ) → terminator ws at ≡ got x e → EndRead x
unfolding terminator
terminator_read ws at x e h =
    let a = part (within terminator_unreachable terminator_number ws at) _ x e h in
    let b = part (opcode_for a.value ws a.place) _ x e a.second in
    let c = part (counted (fewest_values a.value) (most_values a.value) read_value ws b.place) _ x e b.second in
    let d = part (counted (fewest_targets a.value) (most_targets a.value) word ws c.place) _ x e c.second in
    let f = part (many (length (distinct_from [] d.value)) (counted 0 4 read_value) ws d.place) _ x e d.second in
    let is : x ≡ control_inst a.value b.value c.value (edges_passed d.value f.value) = sym (got_value f.second) in
    let values = counted_all read_value Any ws (λ j y k q. tt) (fewest_values a.value) (most_values a.value) b.place c.first in
    let targets = counted_all word Any ws (λ j y k q. tt) (fewest_targets a.value) (most_targets a.value) c.place d.first in
    let long : length (edges_passed d.value f.value) ≡ length d.value = edges_length d.value f.value in
    rw is
    (end_read a.value b.value c.value (edges_passed d.value f.value)
    (within_bounds terminator_unreachable terminator_number ws at a.first).1
    values.count.1 (rw long targets.count)
    (same_passes d.value f.value))

pub record RegionRead (x : Region) : Type 0 where
  pub inputs : CountWithin 0 4 (Within 1 255) x.inputs
  pub blocks : CountWithin 0 8 BlockRead x.blocks
  pub limit : Within 1 65535 x.limit
  pub terminator : EndRead x.terminator
  pub exits : length x.exits ≤ 32

type_read : (ws : List ℕ) (at n e : ℕ) → type ws at ≡ got n e → Within 1 255 n
unfolding type
type_read ws at n e h = within_bounds 1 255 ws at h

region_read : (ws : List ℕ) (at : ℕ) (x : Region) (e : ℕ) → read_region ws at ≡ got x e → RegionRead x
unfolding read_region
region_read ws at x e h =
    let a = part (counted 0 4 type ws at) _ x e h in
    let b = part (counted 0 8 block ws a.place) _ x e a.second in
    let c = part (within 1 65535 ws b.place) _ x e b.second in
    let d = part (terminator ws c.place) _ x e c.second in
    let f = part (counted 0 32 word ws d.place) _ x e d.second in
    let is = sym (got_value f.second) in
    rw is
    (record {
      inputs = counted_all type (Within 1 255) ws (type_read ws) 0 4 at a.first;
      blocks = counted_all block BlockRead ws (block_read ws) 0 8 a.place b.first;
      limit = within_bounds 1 65535 ws b.place c.first;
      terminator = terminator_read ws c.place d.value d.place d.first;
      exits = (counted_all word Any ws (λ j y k q. tt) 0 32 d.place f.first).count.1;
    })

-- A step of the whole that is accepted.
pub record Stepped {A B : Type 0} (r : Answer A) (k : A → Answer B) (b : B) : Type 0 where
  pub value : A
  pub first : r ≡ accepted value
  pub second : k value ≡ accepted b

pub step : {A B : Type 0} (r : Answer A) (k : A → Answer B) (b : B) → if_accepted r k ≡ accepted b → Stepped r k b
step (accepted a) k b h = record { value = a; first = refl; second = h }
step (refused n w) k b h = absurd (clash (cc))

pub record Settled {A B : Type 0} (r : Read A) (k : A → ℕ → Answer B) (b : B) : Type 0 where
  pub value : A
  pub place : ℕ
  pub first : r ≡ got value place
  pub second : k value place ≡ accepted b

pub settled : {A B : Type 0} (r : ℕ) (x : Read A) (k : A → ℕ → Answer B) (b : B) → settle r x k ≡ accepted b → Settled x k b
settled r (got a at) k b h = record { value = a; place = at; first = refl; second = h }
settled r (bad n) k b h = absurd (clash (cc))

pub record RegionsRead (n : ℕ) (xs : List Region) : Type 0 where
  pub count : length xs ≡ n
  pub all : All RegionRead xs

regions_read : (n r : ℕ) (ws : List ℕ) (at : ℕ) (xs : List Region) → regions_from n r ws at ≡ accepted xs → RegionsRead n xs
unfolding regions_from
regions_read zero r ws at xs h = over (eqb at (length ws)) h
  where
    over : (b : Bool) → elim b [ true ↦ accepted [] | false ↦ refused wrong_word_count 0 ] ≡ accepted xs → RegionsRead zero xs
    over true q = let same : xs ≡ [] = cc in rw same (record { count = refl; all = tt })
    over false q = absurd (clash (cc))
regions_read (suc n) r ws at xs h =
    let a = settled r (read_region ws at) _ xs h in
    let b = step (regions_from n (suc r) ws a.place) _ xs a.second in
    let rest = regions_read n (suc r) ws a.place b.value b.first in
    let same : xs ≡ a.value ∷ b.value = cc in
    rw same (record { count = ap suc rest.count; all = (region_read ws at a.value a.place a.first, rest.all) })

pub record RecordRead (g : Graph) : Type 0 where
  pub count : Within 1 32 (length g.regions)
  pub constants : CountWithin 0 64 (Within 1 255) g.constants
  pub regions : All RegionRead g.regions

pub head_read : (ws : List ℕ) (at : ℕ) (h : Head) (e : ℕ) → head ws at ≡ got h e
    → Within 1 32 h.count × CountWithin 0 64 (Within 1 255) h.constants
unfolding head
head_read ws at x e h =
    let a = part (within 1 32 ws at) _ x e h in
    let b = part (word ws a.place) _ x e a.second in
    let c = part (word ws b.place) _ x e b.second in
    let d = part (counted 0 64 type ws c.place) _ x e c.second in
    let is = sym (got_value d.second) in
    rw is (within_bounds 1 32 ws at a.first, counted_all type (Within 1 255) ws (type_read ws) 0 64 c.place d.first)

pub record_read : (ws : List ℕ) (g : Graph) → read_record ws ≡ accepted g → RecordRead g
unfolding read_record
record_read ws g h =
    let a = settled 0 (head ws 1) _ g h in
    let b = step (regions_from a.value.count 0 ws a.place) _ g a.second in
    let top = head_read ws 1 a.value a.place a.first in
    let rest = regions_read a.value.count 0 ws a.place b.value b.first in
    let is : g ≡ record { entry = a.value.entry; test_cost = a.value.test_cost; constants = a.value.constants; regions = b.value } =
    cc in
    rw is (record { count = rw rest.count top.0; constants = top.1; regions = rest.all })
