-- The loop with its stack visits what the definition's recursion visits, in the same order, so that the counts are equal at its end; and
-- neither the stack nor a count outgrows its room, since each region is visited once.
use Rattle.std.specs.Prelude.{◌≡◌, refl, Bool, List, [], ◌∷◌, ◌++◌, ℕ, zero, suc, ◌+◌, ◌-◌, ◌≤◌, ◌<◌, min, length, get_or, set, drop, replicate}
use Rattle.std.proofs.Math.Path.{sym, ap}
use Rattle.std.proofs.Common.{◌∙◌, add-one, length-set, drop-cons, get_or-set_same}
use Rattle.std.proofs.Math.Bool.{true, false}
use native.Mathlib.Omega.{arith}
use Rattle.std.proofs.Math.ListN.{get_or-replicate}
use Rattle.std.proofs.Math.Seq.{get_or-set_other}
use Rattle.std.proofs.lemmas.Bool.{eqb-false}
use Rattle.meaning.specs.Graph.{Graph, ControlInst, unreachable, return, exit_invocation, branch, select_branch, region}
use Rattle.meaning.specs.Graph.{edges_of, targets_of, bool_cond, number}
use Rattle.meaning.specs.Lists.{All, is_in, total}
use Rattle.meaning.specs.facts.Elements.{all_append, all_map, all_mapped, numbered_map}
use Rattle.meaning.specs.facts.Tests.{at_or_else, eqb_self}
use Rattle.format.specs.Valid.{Valid, ValidEdge, ValidEnd}
use Rattle.nesting.specs.Nesting.{visit, reachable, exit_targets, incoming_edge_count, incoming_edge_counts}
use Rattle.fields.specs.ByNumber.{before}
use Rattle.cfg_incoming.specs.Counted.{OneMore, GainsAll, Grows}
use Rattle.cfg_incoming.specs.laws.CountedLaws.{bit_small, targets_counted}
use Rattle.cfg_incoming.specs.Visits.{unseen, NewMark, OldMark, Room, Visiting}

unseen_less : (seen : List Bool) (r : ℕ) → r < length seen → get_or seen r false ≡ false → suc (unseen (set seen r true)) ≡ unseen seen
unseen_less [] r l e = absurd (omega arith)
unseen_less (b ∷ seen) zero l e = rw e (omega arith)
unseen_less (b ∷ seen) (suc r) l e = let z = unseen_less seen r (omega arith) e in omega arith

-- ---- The stack.
pub empty_stack : (xs : List ℕ) {d : ℕ} → d ≡ 0 → before xs d ≡ []
unfolding before
empty_stack xs e = rw e

popped : (xs : List ℕ) (d : ℕ) → (d ≡ 0 → ⊥) → before xs d ≡ get_or xs (d - 1) 0 ∷ before xs (d - 1)
unfolding before
popped xs zero n = absurd (n refl)
popped xs (suc d) n = let e : suc d - 1 ≡ d = omega arith in rw e

before_set : (xs : List ℕ) (i : ℕ) (x k : ℕ) → k ≤ i → before (set xs i x) k ≡ before xs k
unfolding before
before_set xs i x zero l = refl
before_set xs i x (suc k) l = rw (get_or-set_other xs i k x 0 (λ e. omega arith), before_set xs i x k (omega arith))

pushed : (xs : List ℕ) (i x : ℕ) → i < length xs → before (set xs i x) (i + 1) ≡ x ∷ before xs i
unfolding before
pushed xs i x l = rw (add-one i, get_or-set_same xs i x 0 l, before_set xs i x i (omega arith))

-- A region's n targets, pushed from the last on: `left` of them are left.
module _ (g : Graph) (r : ℕ) {n : ℕ} (size : n ≡ min (length (edges_of (region g r).terminator)) 8)
    (few : length (edges_of (region g r).terminator) ≤ 8) where
  all_targets : n ≡ length (targets_of g r)
  all_targets = targets_counted g r (omega arith)

  pub push_turn : {left at x : ℕ} (xs rest : List ℕ) → at < length xs → 1 ≤ left → left ≤ n → x ≡ get_or (targets_of g r) (left - 1) 0
      → before xs at ≡ drop left (targets_of g r) ++ rest → before (set xs at x) (at + 1) ≡ drop (left - 1) (targets_of g r) ++ rest
  push_turn {left} {at} {x} xs rest l one most e h =
      let next : suc (left - 1) ≡ left = omega arith in
      let first = drop-cons (targets_of g r) (left - 1) 0 (omega (arith, all_targets)) in
      pushed xs at x l ∙ rw (h, e, first, ← next)

-- ---- A visit.
visit_none : (g : Graph) (fuel : ℕ) (live : List ℕ) → visit g fuel [] live ≡ live
unfolding visit
visit_none g zero live = refl
visit_none g (suc fuel) live = refl

module _ {g : Graph} (v : Valid g) where
  edges_few : (r : ℕ) (x : ControlInst) → ValidEnd g r x → length (edges_of x) ≤ 8
  edges_few r unreachable h = omega arith
  edges_few r (return vs) h = omega arith
  edges_few r (exit_invocation op vs) h = omega arith
  edges_few r (branch e) h = omega arith
  edges_few r (select_branch bool_cond t es) h = omega (arith, h.1.1)
  edges_few r (select_branch number t es) h = omega (arith, h.1.1)

  edges_inside : (r : ℕ) (x : ControlInst) → ValidEnd g r x → All (λ e. e.target < length g.regions) (edges_of x)
  edges_inside r unreachable h = tt
  edges_inside r (return vs) h = tt
  edges_inside r (exit_invocation op vs) h = tt
  edges_inside r (branch e) h = (h.target, tt)
  edges_inside r (select_branch k t es) h = all_map (ValidEdge g r) (λ e. e.target < length g.regions) (λ e y. y.target) es h.2

  pub targets_few : (r : ℕ) → r < length g.regions → length (edges_of (region g r).terminator) ≤ 8
  targets_few r l = edges_few r (region g r).terminator (v.regions r l).terminator

  targets_inside : (r : ℕ) → r < length g.regions → All (λ t. t < length g.regions) (targets_of g r)
  targets_inside r l =
      all_mapped (λ e. e.target) (λ e. e.target < length g.regions) (λ t. t < length g.regions) (λ e y. y)
      (edges_of (region g r).terminator) (edges_inside r (region g r).terminator (v.regions r l).terminator)

  module _ {fuel r : ℕ} {todo : List ℕ} {seen : List Bool} {c : List ℕ} (h : Visiting g (suc fuel) (r ∷ todo) seen c) where
    within : r < 32
    within = omega (arith, h.inside.0, v.count.1)

    pub known_visit : {after : List Bool} → OldMark seen after r → Visiting g fuel todo after c
    unfolding visit
    known_visit m =
        let i : is_in r h.live ≡ true = sym (h.marked r within) ∙ m.old within in
        rw m.is
        record {
          live = h.live;
          marked = h.marked;
          inside = h.inside.1;
          whole = rw (i, visit) at h.whole;
          counted = h.counted;
        }

    pub new_visit : {after : List Bool} {d e todo' : List ℕ} → length seen ≡ 32 → NewMark seen after r → GainsAll c d (targets_of g r)
        → GainsAll d e (exit_targets g r) → todo' ≡ targets_of g r ++ todo → Visiting g fuel todo' after e
    unfolding visit
    new_visit sized m gain more p =
        let i : is_in r h.live ≡ false = sym (h.marked r within) ∙ m.fresh in
        rw (m.is, p)
        record {
          live = r ∷ h.live;
          marked =
              λ a k. at_or_else _ a r
              (λ p. rw (p, eqb_self r) (get_or-set_same seen r true false (omega (arith, m.within))))
              (λ p. rw (p, get_or-set_other seen r a true false (eqb-false a r p)) (h.marked a k));
          inside = all_append _ (targets_of g r) todo (targets_inside r h.inside.0) h.inside.1;
          whole = rw (i, visit) at h.whole;
          counted = λ a k. omega (arith, h.counted a k, gain.each a k, more.each a k);
        }

  pub visiting_start : {fuel e : ℕ} {c : List ℕ} → fuel ≡ suc (total (λ x. length (edges_of x.terminator)) g.regions) → e ≡ g.entry
      → OneMore (replicate 32 0) c e → Visiting g fuel (before (set (replicate 264 0) 0 e) 1) (replicate 32 false) c
  unfolding before
  visiting_start {fuel} {e} {c} size first one =
      record {
        live = [];
        marked = λ a k. get_or-replicate 32 a false false k;
        inside = (rw first v.entry, tt);
        whole = rw (size, first);
        counted = λ a k. rw (← first) (omega (arith, one.each a k, get_or-replicate {A = ℕ} 32 a 0 0 k));
      }

  module _ {fuel : ℕ} {todo : List ℕ} {seen : List Bool} {c : List ℕ} (h : Visiting g fuel todo seen c) (r : ℕ)
      (l : r < length g.regions) where
    all_visited : h.live ≡ reachable g → get_or c r 0 ≡ get_or (incoming_edge_counts g) r 0
    unfolding incoming_edge_counts
    all_visited e =
        let z : 0 + r ≡ r = omega arith in
        h.counted r (omega (arith, v.count.1))
        ∙ ap (λ live. incoming_edge_count g live r) e
        ∙ sym (numbered_map (incoming_edge_count g (reachable g)) 0 g.regions r l ∙ ap (incoming_edge_count g (reachable g)) z)

    pub none_left : todo ≡ [] → get_or c r 0 ≡ get_or (incoming_edge_counts g) r 0
    none_left e = all_visited (sym (visit_none g fuel h.live) ∙ ap (λ t. visit g fuel t h.live) (sym e) ∙ h.whole)

    pub no_fuel : fuel ≡ 0 → get_or c r 0 ≡ get_or (incoming_edge_counts g) r 0
    unfolding visit
    no_fuel e = all_visited (rw (e, visit) at h.whole)

-- Of `turns` turns i are over.
pub visiting_popped : {g : Graph} {turns i : ℕ} (xs : List ℕ) (d : ℕ) {seen : List Bool} {c : List ℕ}
    → Visiting g (turns - i) (before xs d) seen c → i < turns → (d ≡ 0 → ⊥)
    → Visiting g (suc (turns - (i + 1))) (get_or xs (d - 1) 0 ∷ before xs (d - 1)) seen c
visiting_popped {turns = turns} {i = i} xs d h l n =
    let e : suc (turns - (i + 1)) ≡ turns - i = omega arith in
    rw (e, ← popped xs d n) h

-- ---- Room for the next visit.
pub room_start : {c : List ℕ} {e : ℕ} → OneMore (replicate 32 0) c e → Room (replicate 32 false) c 1
room_start {e = e} one =
    record {
      sized = refl;
      stack = omega arith;
      small = record { each = λ a k. omega (arith, one.each a k, bit_small a e, get_or-replicate {A = ℕ} 32 a 0 0 k) };
    }

module _ {seen : List Bool} {c : List ℕ} {depth : ℕ} (h : Room seen c (suc depth)) where
  pub room_known : {after : List Bool} {r : ℕ} → OldMark seen after r → Room after c depth
  room_known m = rw m.is record { sized = h.sized; stack = omega (arith, h.stack); small = h.small }

  pub room_new : {after : List Bool} {r : ℕ} {d e : List ℕ} {depth' : ℕ} → NewMark seen after r → Grows c d 65535 → Grows d e 65535
      → depth' ≤ depth + 8 → Room after e depth'
  room_new {r = r} m gain more l =
      let z = unseen_less seen r (omega (arith, m.within, h.sized)) m.fresh in
      rw m.is
      record {
        sized = length-set seen r true ∙ h.sized;
        stack = omega (arith, h.stack);
        small = record { each = λ a k. omega (arith, h.stack, (more.most _ (gain.most _ h.small)).each a k) };
      }
