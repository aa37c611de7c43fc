-- The paths through the code that reads a region: what each answer means.
use Rattle.std.specs.Prelude.{◌≡◌, refl, List, ℕ, ◌+◌, ◌≤◌, ◌<◌, length, set, replicate, eqb, Bool, true, false, Result, Ok, Err}
use Rattle.std.proofs.Math.Path.{ap}
use Rattle.std.proofs.Common.{◌∙◌, arith, length-set, get_or-set_same, get_or-set_other, eqb-true}
use Rattle.std.proofs.Math.ListN.{get_or, take}
use Rattle.std.proofs.lemmas.Bool.{eqb-false}
use Rattle.format.specs.Read.{got, bad, many, counted, within, word, type, block, terminator, read_region}
use Rattle.format.specs.Places.{next, forget_value, after, blocks_of_region, block_of_region, limit_of_region, exits_of_region}
use Rattle.record.specs.laws.Parts.{within_parts}
use Rattle.reading.specs.Answers.{WordRead, StepRead}
use Rattle.reading.specs.laws.Forgotten.{Going, going_start, going_next, going_stop, going_end, counted_rest, next_of}
use Rattle.reading.specs.laws.AnswerSteps.{reads_rest, at_end, step_on}
use Rattle.reading.specs.declared.words.Cursor.{Cursor}
use Rattle.reading.specs.declared.words.Fault.{Fault}
use Rattle.record.specs.Readings.{ending_read}
use Rattle.record.specs.laws.RegionsForgotten.{ending_exits, region_rest}
use Rattle.record.specs.Answers.{BlocksPlaced, BlocksRead, CountedPlaced, CountedBlocks, EndingPlaced, EndingRead, RegionPlacesRead}
use Rattle.record.specs.declared.regions.BlockPlaces.{BlockPlaces}
use Rattle.record.specs.declared.regions.RegionPlaces.{RegionPlaces}

-- The k-th turn of the loop over n blocks.
pub record BlocksGoing (n : ℕ) (ws : List ℕ) (from k at : ℕ) (places : List ℕ) : Type 0 where
  pub going : Going block ws n from k at
  pub size : length places ≡ 8
  pub placed : (b : ℕ) → b < k → get_or places b 0 ≡ after b block ws from

module _ (n : ℕ) (ws : List ℕ) (from : ℕ) where
  pub blocks_start : BlocksGoing n ws from 0 from (replicate 8 0)
  blocks_start = record { going = going_start; size = refl; placed = λ b l. absurd (omega arith) }

  pub blocks_next : {k at e : ℕ} {places : List ℕ} → BlocksGoing n ws from k at places → k < n → n ≤ 8
      → forget_value (block ws at) ≡ got tt e → BlocksGoing n ws from (k + 1) e (set places k at)
  blocks_next {k} {at} {e} {places} g l m h =
      record {
        going = going_next g.going l h;
        size = length-set places k at ∙ g.size;
        placed = λ b below. by_place b below (eqb b k) refl;
      }
    where
      by_place : (b : ℕ) → b < k + 1 → (t : Bool) → eqb b k ≡ t → get_or (set places k at) b 0 ≡ after b block ws from
      by_place b below true q =
          let same : b ≡ k = eqb-true b k q in
          rw same (get_or-set_same places k at 0 (omega (arith, g.size)) ∙ g.going.place)
      by_place b below false q =
          get_or-set_other places k b at 0 (eqb-false b k q) ∙ g.placed b (omega (arith, eqb-false b k q))

-- The same from a cursor on.
module _ (n : ℕ) (w : List ℕ) (from : Cursor) where
  pub blocks_stop : {k at m : ℕ} {places : List ℕ} → BlocksGoing n (take from.end w) from.at k at places → k < n
      → forget_value (block (take from.end w) at) ≡ bad m → forget_value (many n block (take from.end w) from.at) ≡ bad m
  blocks_stop g l h = going_stop g.going l h

  pub blocks_end : {k : ℕ} {c : Cursor} {places : List ℕ} → BlocksGoing n (take from.end w) from.at k c.at places
      → c.end ≡ from.end → n ≤ k → BlocksPlaced n w from (record { places = places; behind = c })
  blocks_end {k} g s l =
      record { step = record { is = going_end g.going l; same = s }; places = λ b below. g.placed b (omega arith) }

module _ (w : List ℕ) (c : Cursor) where
  pub counted_blocks_rest : {n : ℕ} {e : Cursor} → WordRead (within 0 8) w c n e
      → (r : Result BlockPlaces Fault) → BlocksRead n w e r → CountedBlocks w c r
  counted_blocks_rest {n} {e} h (Ok x) a =
      let ws = take c.end w in
      let p = within_parts 0 8 ws c.at h.is in
      record {
        step = reads_rest _ _ w c e h.same (counted_rest 0 8 block ws c.at h.is) (Ok x.behind) a.step;
        places = λ b below. rw h.same at (a.places b (omega (arith, p.is))) ∙ ap (after b block ws) p.end;
      }
  counted_blocks_rest {n} {e} h (Err why) a =
      reads_rest (counted 0 8 block) (many n block) w c e h.same (counted_rest 0 8 block (take c.end w) c.at h.is) (Err why) a

  pub ending_whole : (places : List ℕ) {l : ℕ} {p q e : Cursor} → WordRead (within 1 65535) w c l p
      → StepRead terminator w (at_end c.end p) q → StepRead (counted 0 32 word) w (at_end c.end q) e
      → EndingPlaced w c places (record { limit = c.at; exits = q.at; blocks = places; behind = e })
  ending_whole places {p = p} a b d =
      let ws = take c.end w in
      record {
        step = record { is = ending_exits ws c.at a.is b.is d.is; same = d.same };
        limit = refl;
        exits = next_of (terminator ws p.at) b.is ∙ ap (λ n. next (terminator ws n)) (within_parts 1 65535 ws c.at a.is).end;
        blocks = refl;
      }

  module _ (b : BlockPlaces) {p : Cursor} (inputs : StepRead (counted 0 4 type) w c p) (blocks : CountedPlaced w p b) where
    read : StepRead (counted 0 8 block) w (at_end c.end p) b.behind
    read = step_on inputs.same blocks.step

    pub region_whole : (r : Result RegionPlaces Fault) → EndingRead w b.behind b.places r → RegionPlacesRead w c r
    unfolding blocks_of_region block_of_region limit_of_region exits_of_region
    region_whole (Ok x) ending =
        let ws = take c.end w in
        let at = c.at in
        let p_is : p.at ≡ blocks_of_region ws at = next_of (counted 0 4 type ws at) inputs.is in
        let q_is : b.behind.at ≡ limit_of_region ws at = next_of (counted 0 8 block ws p.at) read.is
        ∙ ap (λ n. next (counted 0 8 block ws n)) p_is in
        let places = rw inputs.same at blocks.places in
        record {
          step = reads_rest _ _ w c b.behind read.same (region_rest ws at inputs.is read.is) (Ok x.behind) ending.step;
          placed = record {
            limit = ending.limit ∙ q_is;
            exits = rw read.same at ending.exits ∙ ap (λ n. next (terminator ws (n + 1))) q_is;
            blocks =
                λ k below. ap (λ l. get_or l k 0) ending.blocks ∙ places k (rw p_is below) ∙ ap (λ n. after k block ws (n + 1)) p_is;
          };
        }
    region_whole (Err why) h =
        reads_rest read_region ending_read w c b.behind read.same (region_rest (take c.end w) c.at inputs.is read.is) (Err why) h
