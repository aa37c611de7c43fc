-- A record stands as long as the record's words and the index do, whatever is written behind them.
use Rattle.std.specs.Prelude.{◌≡◌, List, ℕ, ◌≤◌, ◌<◌, length, get_or, take}
use Rattle.std.proofs.Common.{sym, ap, ◌∙◌, arith, get_or-take, take-take}
use Rattle.meaning.specs.Graph.{Graph, region}
use Rattle.format.specs.Read.{read_record}
use Rattle.format.specs.Places.{start_of_region, block_of_region, limit_of_region, exits_of_region}
use Rattle.store.specs.Layout.{index_end}
use Rattle.record.specs.laws.Parts.{counted_parts, region_parts, record_parts}
use Rattle.record.specs.Stands.{words_of_record, Indexed, Stands}
use Rattle.fields.specs.laws.Regions.{head_at}

module _ {w : List ℕ} {g : Graph} (s : Stands w g) (w' : List ℕ) (size : length w' ≡ length w)
    (same : take index_end w' ≡ take index_end w) where
  word_same : (i : ℕ) → i < index_end → get_or w' i 0 ≡ get_or w i 0
  word_same i l = sym (get_or-take index_end w' i 0 l) ∙ ap (λ x. get_or x i 0) same ∙ get_or-take index_end w i 0 l

  record_same : words_of_record w' ≡ words_of_record w
  record_same =
      let n = get_or w 0 0 in
      let few : n ≤ index_end = omega (arith, s.fits) in
      ap (λ k. take k w') (word_same 0 (omega arith)) ∙ sym (take-take n index_end w' few) ∙ ap (take n) same ∙ take-take n index_end w few

  few_blocks : (r : ℕ) → r < length g.regions → length (region g r).blocks ≤ 8
  few_blocks r l =
      (counted_parts 0 8 _ (words_of_record w) _ (region_parts (words_of_record w) (start_of_region (words_of_record w) r)
      ((record_parts (words_of_record w) s.reads).region r l)).blocks).high_bound

  index_same : (r : ℕ) → r < length g.regions → Indexed w' g r
  index_same r l =
      let i = s.index r l in
      let few = (head_at s).high_bound in
      record {
        start = word_same _ (omega arith) ∙ i.start ∙ ap (λ ws. start_of_region ws r) (sym record_same);
        limit = word_same _ (omega arith) ∙ i.limit ∙ ap (λ ws. limit_of_region ws (start_of_region ws r)) (sym record_same);
        exits = word_same _ (omega arith) ∙ i.exits ∙ ap (λ ws. exits_of_region ws (start_of_region ws r)) (sym record_same);
        block =
            λ b below. let n = few_blocks r l in word_same _ (omega arith) ∙ i.block b below
            ∙ ap (λ ws. block_of_region ws (start_of_region ws r) b) (sym record_same);
      }

  pub still_stands : Stands w' g
  still_stands =
      record {
        lent = record { room = omega (arith, size, s.lent.room); few = omega (arith, size, s.lent.few) };
        fits = rw (word_same 0 (omega arith)) s.fits;
        reads = ap read_record record_same ∙ s.reads;
        index = index_same;
      }
