-- Where the head and the regions of a record that stands in the words are found.
use Rattle.std.specs.Prelude.{◌≡◌, Bool, true, false, List, [], ◌⊎◌, ℕ, suc, ◌+◌, ◌≤◌, ◌<◌, ltb}
use Rattle.std.proofs.Math.Path.{refl, sym, ap}
use Rattle.std.proofs.Common.{◌∙◌, inl, inr, arith, length-take}
use Rattle.std.proofs.Math.Logic.{⊎_elim}
use Rattle.meaning.specs.Lists.{pick}
use Rattle.std.proofs.Math.ListN.{length, get_or, get_or-eq_default}
use borrow.Author.Tests.{lt-ltb, le-ltb, ltb-true, ltb-false}
use Rattle.meaning.specs.Graph.{Graph, Region, nowhere, region}
use Rattle.format.specs.Read.{type, word}
use Rattle.format.specs.Places.{start_of_region, blocks_of_region, block_of_region, limit_of_region, exits_of_region}
use Rattle.store.specs.Layout.{beyond, record_end, start_word, limit_word, exits_word, blocks_word, index_at}
use Rattle.record.specs.laws.Parts.{within_parts, counted_parts, RegionParts, region_parts, record_parts}
use Rattle.record.specs.laws.PartsWithin.{HeadParts, head_parts}
use Rattle.record.specs.Stands.{words_of_record, Stands}
use Rattle.fields.specs.ItemsAndPlaces.{placed, behind_words, behind_values, indexed, blocks_place}
use Rattle.fields.specs.laws.Lists.{ListAt, front, word_fixed, type_fixed, counted_at, no_list, behind_words_is}

-- A region of the record: its places in the index, and its parts there.
pub record Known (w : List ℕ) (g : Graph) (r : ℕ) : Type 0 where
  pub below : r < length g.regions
  pub start : indexed w r start_word ≡ start_of_region (words_of_record w) r
  pub limit : indexed w r limit_word ≡ limit_of_region (words_of_record w) (start_of_region (words_of_record w) r)
  pub exits : indexed w r exits_word ≡ exits_of_region (words_of_record w) (start_of_region (words_of_record w) r)
  pub block : (b : ℕ) → b < length (region g r).blocks
      → indexed w r (blocks_word + b) ≡ block_of_region (words_of_record w) (start_of_region (words_of_record w) r) b
  pub parts : RegionParts (words_of_record w) (start_of_region (words_of_record w) r) (region g r)
      (start_of_region (words_of_record w) (suc r))

-- A number that names no region.
pub record Beyond (w : List ℕ) (g : Graph) (r : ℕ) : Type 0 where
  pub above : length g.regions ≤ r
  pub index : (i : ℕ) → indexed w r i ≡ beyond
  pub none : region g r ≡ nowhere

module _ {w : List ℕ} {g : Graph} (s : Stands w g) where
  -- a place of the record
  pub small : {p : ℕ} → p < length (words_of_record w) → p < record_end
  small l = omega (arith, length-take (get_or w 0 0) w, s.fits)

  pub beyond_words : {p : ℕ} → beyond ≤ p → length w ≤ p
  beyond_words l = omega (arith, s.lent.few)

  pub no_word : {p : ℕ} → beyond ≤ p → get_or w p 0 ≡ 0
  no_word l = get_or-eq_default w 0 (omega (arith, s.lent.few))

  -- behind a list that is not there
  pub beyond_behind : behind_words w beyond ≡ beyond
  unfolding behind_words behind_values placed
  beyond_behind = rw (no_word {p = beyond} (omega arith))

  pub beyond_values : behind_values w beyond ≡ beyond
  unfolding behind_words behind_values placed
  beyond_values = rw (no_word {p = beyond} (omega arith))

  pub head_at : HeadParts (words_of_record w) (record {
    count = length g.regions;
    entry = g.entry;
    test_cost = g.test_cost;
    constants =
        g.constants;
  }) (start_of_region (words_of_record w) 0)
  head_at = head_parts (words_of_record w) (record_parts (words_of_record w) s.reads).head

  pub region_count : get_or w 1 0 ≡ length g.regions
  region_count = let h = head_at in sym (h.count ∙ front w 1 (omega (arith, h.inside)))

  pub entry_is : get_or w 2 0 ≡ g.entry
  entry_is = let h = head_at in sym (h.entry ∙ front w 2 (omega (arith, h.inside)))

  pub test_cost_is : get_or w 3 0 ≡ g.test_cost
  test_cost_is = let h = head_at in sym (h.test_cost ∙ front w 3 (omega (arith, h.inside)))

  pub constants_at : ListAt w 1 (λ at. get_or w at 0) 4 g.constants
  constants_at = (counted_at w type 1 _ (type_fixed w) 0 64 4 head_at.constants).list

  module _ (r : ℕ) where
    known : r < length g.regions → Known w g r
    unfolding indexed
    known l =
        let i = s.index r l in
        record {
          below = l;
          start = at start_word _ _ refl i.start;
          limit = at limit_word _ _ refl i.limit;
          exits = at exits_word _ _ refl i.exits;
          block = λ b below. at (blocks_word + b) _ _ (omega arith) (i.block b below);
          parts =
              region_parts (words_of_record w) (start_of_region (words_of_record w) r)
              ((record_parts (words_of_record w) s.reads).region r l);
        }
      where
        at : (i j p : ℕ) → index_at r + i ≡ j → get_or w j 0 ≡ p → indexed w r i ≡ p
        at i j p same h = rw (region_count, lt-ltb r (length g.regions) l) (ap (λ n. get_or w n 0) same ∙ h)

    no_region : length g.regions ≤ r → Beyond w g r
    unfolding indexed
    no_region l =
        record {
          above = l;
          index = λ i. rw (region_count, le-ltb r (length g.regions) l);
          none = get_or-eq_default g.regions nowhere l;
        }

    pub region_case : Known w g r ⊎ Beyond w g r
    region_case = by_test (ltb r (length g.regions)) refl
      where
        by_test : (t : Bool) → ltb r (length g.regions) ≡ t → Known w g r ⊎ Beyond w g r
        by_test true q = inl (known (ltb-true r (length g.regions) q))
        by_test false q = inr (no_region (ltb-false r (length g.regions) q))

    -- a list that the index leads to
    listed : (i : ℕ) (f : Region → List ℕ) → f nowhere ≡ []
        → (Known w g r → ListAt w 1 (λ at. get_or w at 0) (indexed w r i) (f (region g r)))
        → ListAt w 1 (λ at. get_or w at 0) (indexed w r i) (f (region g r))
    listed i f none here = ⊎_elim here there region_case
      where
        there : Beyond w g r → ListAt w 1 (λ at. get_or w at 0) (indexed w r i) (f (region g r))
        there k = rw (k.index i, k.none, none) (no_list w 1 _ beyond (beyond_words (omega arith)))

    pub inputs_at : ListAt w 1 (λ at. get_or w at 0) (indexed w r start_word) (region g r).inputs
    inputs_at =
        listed start_word (λ x. x.inputs) refl λ k. rw k.start (counted_at w type 1 _ (type_fixed w) 0 4 _ k.parts.inputs).list

    pub exits_at : ListAt w 1 (λ at. get_or w at 0) (indexed w r exits_word) (region g r).exits
    exits_at =
        listed exits_word (λ x. x.exits) refl λ k. rw k.exits (counted_at w word 1 _ (word_fixed w) 0 32 _ k.parts.exits).list

    pub limit_is : pick (ltb r (get_or w 1 0)) (get_or w (indexed w r limit_word) 0) 1 ≡ (region g r).limit
    limit_is = ⊎_elim here there region_case
      where
        here : Known w g r → pick (ltb r (get_or w 1 0)) (get_or w (indexed w r limit_word) 0) 1 ≡ (region g r).limit
        here k =
            let a = within_parts 1 65535 (words_of_record w) _ k.parts.limit in
            let found = sym (a.is ∙ front w _ a.inside) in
            let test : ltb r (get_or w 1 0) ≡ true = ap (ltb r) region_count ∙ lt-ltb r _ k.below in
            ap (λ t. pick t (get_or w (indexed w r limit_word) 0) 1) test ∙ ap (λ p. get_or w p 0) k.limit ∙ found

        there : Beyond w g r → pick (ltb r (get_or w 1 0)) (get_or w (indexed w r limit_word) 0) 1 ≡ (region g r).limit
        there k =
            let test : ltb r (get_or w 1 0) ≡ false = ap (ltb r) region_count ∙ le-ltb r _ k.above in
            ap (λ t. pick t (get_or w (indexed w r limit_word) 0) 1) test ∙ ap (λ x. x.limit) (sym k.none)

    -- the place of the block count
    pub blocks_place_is : Known w g r → blocks_place w r ≡ blocks_of_region (words_of_record w) (start_of_region (words_of_record w) r)
    unfolding blocks_place
    blocks_place_is k =
        let a = counted_at w type 1 _ (type_fixed w) 0 4 _ k.parts.inputs in
        let b = counted_parts 0 8 _ (words_of_record w) _ k.parts.blocks in
        ap (behind_words w) k.start ∙ behind_words_is a (omega (arith, small b.inside))

    pub block_count_is : get_or w (blocks_place w r) 0 ≡ length (region g r).blocks
    unfolding blocks_place
    block_count_is = ⊎_elim here there region_case
      where
        here : Known w g r → get_or w (blocks_place w r) 0 ≡ length (region g r).blocks
        here k =
            let b = counted_parts 0 8 _ (words_of_record w) _ k.parts.blocks in
            ap (λ p. get_or w p 0) (blocks_place_is k) ∙ sym (front w _ b.inside) ∙ b.count

        there : Beyond w g r → get_or w (blocks_place w r) 0 ≡ length (region g r).blocks
        there k =
            ap (λ p. get_or w (behind_words w p) 0) (k.index start_word) ∙ ap (λ p. get_or w p 0) beyond_behind ∙ no_word (omega arith)
            ∙ ap (λ x. length x.blocks) (sym k.none)
