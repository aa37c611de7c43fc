-- Regions and the head with their values forgotten, in the order in which the code reads them.
use Rattle.std.specs.Prelude.{◌≡◌, refl, List, ℕ, ◌<◌, length}
use Rattle.meaning.specs.Graph.{Instr, Region}
use Rattle.format.specs.Read.{Read, got, bad, Reader, read_then, word, within, counted, type, instruction, block, terminator, read_region}
use Rattle.format.specs.Read.{Head, head}
use Rattle.format.specs.Places.{forget_value}
use Rattle.meaning.specs.facts.Tests.{clash}
use Rattle.record.specs.Readings.{ending_read, count_of, head_count, after_count}
use Rattle.record.specs.laws.Parts.{counted_parts, region_parts}
use Rattle.reading.specs.laws.Forgotten.{forget_value_follow, forget_value_given, follow_forget_value, follow_follow}
use Rattle.reading.specs.laws.TerminatorsForgotten.{found}

-- what a refusal leaves of a sequence
pub stopped : {A B : Type 0} (r : Read A) (k : A → ℕ → Read B) {m : ℕ} → forget_value r ≡ bad m → forget_value (read_then r k) ≡ bad m
stopped (got a i) k h = absurd (clash (cc))
stopped (bad n) k h = h

module _ (ws : List ℕ) (at : ℕ) where
  pub ending_limit : {m : ℕ} → within 1 65535 ws at ≡ bad m → forget_value (ending_read ws at) ≡ bad m
  unfolding ending_read
  ending_limit h = rw h

  pub ending_terminator : {l p m : ℕ} → within 1 65535 ws at ≡ got l p → forget_value (terminator ws p) ≡ bad m
      → forget_value (ending_read ws at) ≡ bad m
  unfolding ending_read
  ending_terminator h j = rw (h, j)

  pub ending_exits : {l p q : ℕ} {r : Read Unit} → within 1 65535 ws at ≡ got l p → forget_value (terminator ws p) ≡ got tt q
      → forget_value (counted 0 32 word ws q) ≡ r → forget_value (ending_read ws at) ≡ r
  unfolding ending_read
  ending_exits h j k = rw (h, j, k)

-- what stands after the blocks, with the region made of it
ending_made : (inputs : List ℕ) (blocks : List (List Instr)) (ws : List ℕ) (at : ℕ)
    → forget_value (ending_read ws at) ≡ forget_value {A = Region}
    (read_then (within 1 65535 ws at) λ limit p. read_then (terminator ws p) λ end q. read_then (counted 0 32 word ws q) λ exits e. got
    (record { inputs = inputs; blocks = blocks; limit = limit; terminator = end; exits = exits }) e)
unfolding ending_read
ending_made inputs blocks ws at = simp (forget_value_follow, follow_forget_value, forget_value_given)

module _ (ws : List ℕ) (at : ℕ) where
  pub region_inputs : {m : ℕ} → forget_value (counted 0 4 type ws at) ≡ bad m → forget_value (read_region ws at) ≡ bad m
  unfolding read_region
  region_inputs h = stopped (counted 0 4 type ws at) _ h

  pub region_blocks : {p m : ℕ} → forget_value (counted 0 4 type ws at) ≡ got tt p → forget_value (counted 0 8 block ws p) ≡ bad m
      → forget_value (read_region ws at) ≡ bad m
  unfolding read_region
  region_blocks {p} h j = let f = found (counted 0 4 type ws at) h in rw f.is (stopped (counted 0 8 block ws p) _ j)

  pub region_rest : {p q : ℕ} → forget_value (counted 0 4 type ws at) ≡ got tt p → forget_value (counted 0 8 block ws p) ≡ got tt q
      → forget_value (ending_read ws q) ≡ forget_value (read_region ws at)
  unfolding read_region
  region_rest {p} {q} h j =
      let f = found (counted 0 4 type ws at) h in
      let g = found (counted 0 8 block ws p) j in
      rw (f.is, g.is) (ending_made f.value g.value ws q)

module _ (ws : List ℕ) (at : ℕ) where
  pub after_count_entry : {m : ℕ} → word ws at ≡ bad m → forget_value (after_count ws at) ≡ bad m
  unfolding after_count
  after_count_entry h = rw h

  pub after_count_test : {a p m : ℕ} → word ws at ≡ got a p → word ws p ≡ bad m → forget_value (after_count ws at) ≡ bad m
  unfolding after_count
  after_count_test h j = rw (h, j)

  pub after_count_rest : {a p b e : ℕ} → word ws at ≡ got a p → word ws p ≡ got b e
      → forget_value (counted 0 64 type ws e) ≡ forget_value (after_count ws at)
  unfolding after_count
  after_count_rest h j = rw (h, j)

count_follow : {A : Type 0} (r : Read A) (k : A → ℕ → Read Head) → count_of (read_then r k) ≡ read_then r (λ a i. count_of (k a i))
count_follow (got a i) k = refl
count_follow (bad n) k = refl

-- the region count is kept once the rest is read
head_counted : (ws : List ℕ) (at : ℕ) → head_count ws at ≡ read_then (within 1 32 ws at) λ n p. read_then
    (forget_value (after_count ws p)) λ u e. got n e
unfolding head head_count after_count
head_counted ws at = simp (count_follow, follow_follow, follow_forget_value)

module _ (ws : List ℕ) (at : ℕ) where
  pub head_count_is : {m : ℕ} → within 1 32 ws at ≡ bad m → head_count ws at ≡ bad m
  head_count_is h = rw (head_counted, h)

  pub head_stop : {n p m : ℕ} → within 1 32 ws at ≡ got n p → forget_value (after_count ws p) ≡ bad m → head_count ws at ≡ bad m
  head_stop h j = rw (head_counted, h, j)

  pub head_rest : {n p e : ℕ} → within 1 32 ws at ≡ got n p → forget_value (after_count ws p) ≡ got tt e → head_count ws at ≡ got n e
  head_rest h j = rw (head_counted, h, j)

-- what is read begins in front of the end
module _ (ws : List ℕ) (at : ℕ) where
  pub counted_inside : {A : Type 0} (low high : ℕ) (p : Reader A) {e : ℕ} → forget_value (counted low high p ws at) ≡ got tt e
      → at < length ws
  counted_inside low high p h = let f = found (counted low high p ws at) h in (counted_parts low high p ws at f.is).inside

  pub block_inside : {e : ℕ} → forget_value (block ws at) ≡ got tt e → at < length ws
  unfolding block
  block_inside h = counted_inside 1 8 instruction h

  pub region_inside : {e : ℕ} → forget_value (read_region ws at) ≡ got tt e → at < length ws
  region_inside h = let f = found (read_region ws at) h in (counted_parts 0 4 type ws at (region_parts ws at f.is).inputs).inside
