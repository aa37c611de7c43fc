-- What the reading of a region and of a record consists of: each part read at its place (format's Places).
use Rattle.std.specs.Prelude.{◌≡◌, refl, Bool, true, false, List, [], ◌∷◌, ℕ, zero, suc, ◌+◌, ◌<◌, length, eqb}
use Rattle.std.proofs.Common.{sym, ap, subst, ◌∙◌, arith, eqb-true}
use Rattle.meaning.specs.Graph.{Region, Graph, nowhere}
use Rattle.meaning.specs.Graph as graph
use Rattle.format.specs.Store.{Answer, accepted, refused, if_accepted}
use Rattle.format.specs.Read.{Read, got, bad, read_then, word, within, many, counted, type, block, terminator, read_region, settle}
use Rattle.format.specs.Read.{regions_from, Head, head, read_record}
use Rattle.format.specs.Places.{next, after, start_of_region, blocks_of_region, limit_of_region, exits_of_region}
use Rattle.meaning.specs.facts.Tests.{clash}
use Rattle.format.specs.laws.Readers.{part, got_value, got_place, many_length, many_end, many_at}
use Rattle.format.specs.Refusals.{wrong_word_count}
pub use Rattle.reading.specs.laws.Parts.{WordParts, word_parts, WithinParts, within_parts, CountedParts, counted_parts}

-- Each part of a region at its place; the region ends at e.
pub record RegionParts (ws : List ℕ) (at : ℕ) (x : Region) (e : ℕ) : Type 0 where
  pub inputs : counted 0 4 type ws at ≡ got x.inputs (blocks_of_region ws at)
  pub blocks : counted 0 8 block ws (blocks_of_region ws at) ≡ got x.blocks (limit_of_region ws at)
  pub limit : within 1 65535 ws (limit_of_region ws at) ≡ got x.limit (limit_of_region ws at + 1)
  pub terminator : terminator ws (limit_of_region ws at + 1) ≡ got x.terminator (exits_of_region ws at)
  pub exits : counted 0 32 word ws (exits_of_region ws at) ≡ got x.exits e

pub region_join : (ws : List ℕ) (at : ℕ) (x : Region) (i j k m e : ℕ) → counted 0 4 type ws at ≡ got x.inputs i
    → counted 0 8 block ws i ≡ got x.blocks j → within 1 65535 ws j ≡ got x.limit k → terminator ws k ≡ got x.terminator m
    → counted 0 32 word ws m ≡ got x.exits e → RegionParts ws at x e
unfolding blocks_of_region limit_of_region exits_of_region
region_join ws at x i j k m e a b l t o =
    let i_is : blocks_of_region ws at ≡ i = ap next a in
    let j_is : limit_of_region ws at ≡ j = ap (λ n. next (counted 0 8 block ws n)) i_is ∙ ap next b in
    let k_is : k ≡ limit_of_region ws at + 1 = (within_parts 1 65535 ws j l).end ∙ ap (λ n. n + 1) (sym j_is) in
    let m_is : exits_of_region ws at ≡ m = ap (λ n. next (terminator ws n)) (sym k_is) ∙ ap next t in
    record {
      inputs = a ∙ ap (got x.inputs) (sym i_is);
      blocks = ap (counted 0 8 block ws) i_is ∙ b ∙ ap (got x.blocks) (sym j_is);
      limit = ap (within 1 65535 ws) j_is ∙ l ∙ ap (got x.limit) k_is;
      terminator = ap (terminator ws) (sym k_is) ∙ t ∙ ap (got x.terminator) (sym m_is);
      exits = ap (counted 0 32 word ws) m_is ∙ o;
    }

pub region_parts : (ws : List ℕ) (at : ℕ) {x : Region} {e : ℕ} → read_region ws at ≡ got x e → RegionParts ws at x e
unfolding read_region
region_parts ws at {x} {e} h =
    let a = part (counted 0 4 type ws at) _ x e h in
    let b = part (counted 0 8 block ws a.place) _ x e a.second in
    let l = part (within 1 65535 ws b.place) _ x e b.second in
    let t = part (terminator ws l.place) _ x e l.second in
    let o = part (counted 0 32 word ws t.place) _ x e t.second in
    let y : Region = record { inputs = a.value; blocks = b.value; limit = l.value; terminator = t.value; exits = o.value } in
    subst (λ z. RegionParts ws at z e) (got_value o.second)
    (region_join ws at y a.place b.place l.place t.place e a.first b.first l.first t.first
    (o.first ∙ ap (got o.value) (got_place o.second)))

-- What an answer that accepts consists of.
pub record SettledAt {A B : Type 0} (r : Read A) (k : A → ℕ → Answer B) (b : B) : Type 0 where
  pub value : A
  pub place : ℕ
  pub first : r ≡ got value place
  pub second : k value place ≡ accepted b

pub settled_at : {A B : Type 0} (m : ℕ) (r : Read A) (k : A → ℕ → Answer B) (b : B) → settle m r k ≡ accepted b → SettledAt r k b
settled_at m (got a at) k b h = record { value = a; place = at; first = refl; second = h }
settled_at m (bad n) k b h = absurd (clash (cc))

pub record Then {A B : Type 0} (r : Answer A) (k : A → Answer B) (b : B) : Type 0 where
  pub value : A
  pub first : r ≡ accepted value
  pub second : k value ≡ accepted b

pub then : {A B : Type 0} (r : Answer A) (k : A → Answer B) (b : B) → if_accepted r k ≡ accepted b → Then r k b
then (accepted a) k b h = record { value = a; first = refl; second = h }
then (refused n w) k b h = absurd (clash (cc))

pub accepted_value : {A : Type 0} {a b : A} → accepted a ≡ accepted b → a ≡ b
accepted_value h = cc

-- Regions that are accepted are read one after the other, to W.
pub regions_many : (n r : ℕ) (ws : List ℕ) (at : ℕ) {xs : List Region} → regions_from n r ws at ≡ accepted xs
    → many n read_region ws at ≡ got xs (length ws)
unfolding regions_from many
regions_many zero r ws at {xs} h = by_test (eqb at (length ws)) refl h
  where
    by_test : (t : Bool) → eqb at (length ws) ≡ t → elim t [ true ↦ accepted [] | false ↦ refused wrong_word_count 0 ] ≡ accepted xs
        → got [] at ≡ got xs (length ws)
    by_test true q p = ap (λ x. got x at) (accepted_value p) ∙ ap (got xs) (eqb-true at (length ws) q)
    by_test false q p = absurd (clash (cc))
regions_many (suc n) r ws at {xs} h =
    let a = settled_at r (read_region ws at) _ xs h in
    let b = then (regions_from n (suc r) ws a.place) _ xs a.second in
    joined a.value a.place b.value a.first (regions_many n (suc r) ws a.place b.first) (accepted_value b.second)
  where
    joined : (x : Region) (i : ℕ) (ys : List Region) → read_region ws at ≡ got x i → many n read_region ws i ≡ got ys (length ws)
        → x ∷ ys ≡ xs → read_then (read_region ws at) (λ z j. read_then (many n read_region ws j) λ zs l. got (z ∷ zs) l) ≡ got xs
        (length ws)
    joined x i ys first rest whole = rw (first, rest, whole)

-- The head, and each region at its start; the last ends at W.
pub record RecordParts (ws : List ℕ) (g : Graph) : Type 0 where
  pub head : head ws 1 ≡ got (record { count = length g.regions; entry = g.entry; test_cost = g.test_cost; constants = g.constants })
      (start_of_region ws 0)
  pub region : (r : ℕ) → r < length g.regions → read_region ws (start_of_region ws r) ≡ got (graph.region g r)
      (start_of_region ws (suc r))
  pub whole : start_of_region ws (length g.regions) ≡ length ws

pub record_join : (ws : List ℕ) (h : Head) (at : ℕ) (rs : List Region) → head ws 1 ≡ got h at
    → many h.count read_region ws at ≡ got rs (length ws)
    → RecordParts ws (record { entry = h.entry; test_cost = h.test_cost; constants = h.constants; regions = rs })
unfolding start_of_region after
record_join ws h at rs front rest =
    let there : next (head ws 1) ≡ at = ap next front in
    let count : length rs ≡ h.count = many_length read_region ws h.count at rest in
    let rest' : many h.count read_region ws (next (head ws 1)) ≡ got rs (length ws) = ap (many h.count read_region ws) there ∙ rest in
    let whole : Head = record { count = length rs; entry = h.entry; test_cost = h.test_cost; constants = h.constants } in
    let same : h ≡ whole = ap (λ n. record { count = n; entry = h.entry; test_cost = h.test_cost; constants = h.constants })
    (sym count) in
    record {
      head = front ∙ ap (λ n. got n at) same ∙ ap (got whole) (sym there);
      region = λ r below. many_at read_region ws h.count (next (head ws 1)) nowhere rest' r (omega arith);
      whole = ap (λ n. after n read_region ws (next (head ws 1))) count ∙ sym (many_end read_region ws h.count (next (head ws 1)) rest');
    }

pub record_parts : (ws : List ℕ) {g : Graph} → read_record ws ≡ accepted g → RecordParts ws g
unfolding read_record
record_parts ws {g} h =
    let a = settled_at 0 (head ws 1) _ g h in
    let b = then (regions_from a.value.count 0 ws a.place) _ g a.second in
    subst (RecordParts ws) (accepted_value b.second)
    (record_join ws a.value a.place b.value a.first (regions_many a.value.count 0 ws a.place b.first))
