-- What is started is shown: the definition's initial state.
use Rattle.std.specs.Prelude.{◌≡◌, refl, List, ℕ, zero, suc, ◌+◌, ◌*◌, ◌≤◌, ◌<◌, min, length, get_or}
use Rattle.std.proofs.Math.Path.{sym}
use Rattle.std.proofs.Common.{ap, ◌∙◌, arith}
use mathlib.Core.List.Memᴰ
use Rattle.std.proofs.Math.Decide.{dec_lt}
use Rattle.std.proofs.lemmas.List.{length-map, length-replicate}
use Rattle.std.proofs.Math.ListN.{get_or-eq_default}
use Rattle.std.proofs.Math.Seq.{take-length}
use borrow.Author.Tests.{le-ltb}
use Rattle.meaning.specs.Graph.{Graph, Region, region, nowhere, ControlInst, unreachable, return, exit_invocation, branch, select_branch}
use Rattle.meaning.specs.Graph.{no_value}
use Rattle.meaning.specs.facts.Elements.{getD_map_in}
use Rattle.meaning.specs.facts.Sums.{total_next}
use Rattle.format.specs.References.{return_types, type_in, behind_all, first_return, values_of}
use Rattle.format.specs.Valid.{Valid, ValidEnd}
use Rattle.record.specs.Stands.{Stands}
use Rattle.fields.specs.ByNumber.{blocks_before, end_values}
use Rattle.nesting.specs.Nesting.{initial_state, block_count, not_begun}
use Rattle.nesting.specs.steps.RegionsLeft.{all_not_begun}
use Rattle.state_words.specs.Sections as sections
use Rattle.state_words.specs.Sections.{Section, number, start, size, used, section, word, filled, head, kinds, set_starts, rewrites}
use Rattle.state_words.specs.laws.Apart.{stored_length, section_other}
use Rattle.state_sets.specs.SetTables.{slot}
use Rattle.state_nodes.specs.NodeTables.{entry_kind, rewrite_kind}
use Rattle.state_shown.specs.laws.Stores.{run_length, run_other, head_same, head_other, word_there, word_apart}
use Rattle.state_shown.specs.Front.{SameFront}
use Rattle.state_shown.specs.laws.FrontKept.{stands_on, front_stored, front_run, front_then}
use Rattle.state_shown.specs.laws.SetStores.{run_word}
use Rattle.state_shown.specs.Tables.{no_entry}
use Rattle.state_shown.specs.States.{ShowsState, HasSlot, is_not_begun}
use Rattle.state_shown.specs.laws.Finds.{slot_in}
use Rattle.state_shown.specs.laws.Fills.{fill_length, fill_other, fill_front, fill_beside, fill_there}
use Rattle.cfg_start.specs.InitialState.{nothing_rewritten, nothing_begun, emptied, returned_type, returned_count, totals, counted}
use Rattle.cfg_start.specs.InitialState.{started}
use Rattle.cfg_start.specs.InitialState.{types_stored}
use Rattle.cfg_start.specs.laws.paths.InitialStateLaws.{emptied_front}
use Rattle.state_words.specs.Rows.{cells_at, entries_at, entry_none, kind_not_begun, region_kind, regions_at, returned_at, spare_slot}
use Rattle.state_words.specs.Rows.{types_at, slot_size, cases_at, attempts_at, merges_at, nodes_at, outputs_at, twice_at}

-- ---- How many blocks there are: no sum is as large as a word.
module _ {g : Graph} (valid : Valid g) where
  few_blocks : (r : ℕ) → r ≤ length g.regions → blocks_before g r ≤ 8 * r
  few_blocks zero h = omega arith
  few_blocks (suc r) h =
      let few = few_blocks r (omega arith) in
      let eight = (valid.regions r h).blocks_few in
      let next = total_next (λ (z : Region). length z.blocks) nowhere g.regions r refl in
      omega arith

  all_blocks : blocks_before g (length g.regions) ≡ block_count g.regions
  all_blocks = ap block_count (take-length g.regions)

  -- ---- The values of the first Return.
  end_few : (r : ℕ) (x : ControlInst) → ValidEnd g r x → length (values_of x) ≤ 4
  end_few r unreachable v = omega arith
  end_few r (return vs) v = v.0
  end_few r (exit_invocation op vs) v = v.0
  end_few r (branch e) v = omega arith
  end_few r (select_branch k x es) v = omega arith

  few_returned : (q : ℕ) → length (end_values g q) ≤ 4
  few_returned q =
      elim (dec_lt q (length g.regions)) [
        | yes h ↦ end_few q (region g q).terminator (valid.regions q h).terminator
        | no h ↦ rw (get_or-eq_default g.regions nowhere {n = q} (omega arith)) (omega arith)
      ]

module _ (g : Graph) where
  returned_size : length (end_values g (first_return g.regions)) ≡ length (return_types g)
  unfolding return_types
  returned_size =
      let q = first_return g.regions in sym (length-map (end_values g q) (type_in g q (behind_all g q)))

  returned_is : (k : ℕ) → k < length (end_values g (first_return g.regions)) → returned_type g k ≡ get_or (return_types g) k 0
  unfolding returned_type return_types
  returned_is k h =
      let q = first_return g.regions in sym (getD_map_in (type_in g q (behind_all g q)) (end_values g q) k no_value 0 h)

-- ---- The words, section by section.
module _ (g : Graph) (w : List ℕ) (room : used ≤ length w) where
  abbrev n : ℕ
  n = length g.regions

  abbrev l₁ : List ℕ
  l₁ = nothing_rewritten w

  abbrev l₂ : List ℕ
  l₂ = nothing_begun n l₁

  -- Without the spare slot, and with it.
  abbrev l₂' : List ℕ
  l₂' = filled set_starts (λ a. a) slot n 0 l₂

  abbrev l₃ : List ℕ
  l₃ = emptied n w

  abbrev l₄ : List ℕ
  l₄ = counted g n l₃

  abbrev few : ℕ
  few = min (returned_count g) 4

  abbrev l₅ : List ℕ
  l₅ = types_stored g few 0 l₄

  length₁ : length l₁ ≡ length w
  length₁ = stored_length (start rewrites) (size rewrites) w entries_at 0

  length₂ : length l₂ ≡ length w
  length₂ = fill_length kinds (λ r. r) (λ r. 0) n 0 l₁ ∙ length₁

  length₂' : length l₂' ≡ length w
  length₂' = fill_length set_starts (λ a. a) slot n 0 l₂ ∙ length₂

  length₃ : length l₃ ≡ length w
  length₃ = stored_length (start set_starts) (size set_starts) l₂' 32 (slot 32) ∙ length₂'

  length₄ : length l₄ ≡ length w
  length₄ = run_length (start head) (size head) l₃ 0 (totals g n) ∙ length₃

  length₅ : length l₅ ≡ length w
  length₅ = fill_length head (λ k. 9 + k) (returned_type g) few 0 l₄ ∙ length₄

  started_length : length (started g w) ≡ length w
  started_length = stored_length (start head) (size head) l₅ 8 (returned_count g) ∙ length₅

  pub started_front : SameFront w (started g w)
  started_front =
      front_then (emptied_front n w)
      (front_then (front_run l₃ head (omega arith) regions_at (totals g n))
      (front_then (fill_front head (λ k. 9 + k) (returned_type g) (omega arith) few 0 l₄)
      (front_stored l₅ head (omega arith) returned_at (returned_count g))))

  behind_head : (j : Section) → (number j ≡ number sections.head → ⊥) → section (started g w) j ≡ section l₃ j
  behind_head j d =
      section_other l₅ head returned_at (returned_count g) j d ∙ fill_other head (λ k. 9 + k) (returned_type g) few 0 l₄ j d
      ∙ run_other l₃ head regions_at (totals g n) j d

  behind_slots : (j : Section) → (number j ≡ number sections.head → ⊥) → (number j ≡ number sections.set_starts → ⊥)
      → section (started g w) j ≡ section l₂ j
  behind_slots j d e =
      behind_head j d ∙ section_other l₂' set_starts spare_slot (slot 32) j e ∙ fill_other set_starts (λ a. a) slot n 0 l₂ j e

  no_entries : word (started g w) rewrites entries_at ≡ 0
  no_entries =
      ap (λ p. get_or p entries_at 0) (behind_slots rewrites (omega arith) (omega arith)
      ∙ fill_other kinds (λ r. r) (λ r. 0) n 0 l₁ rewrites (omega arith))
      ∙ word_there w rewrites entries_at 0 (omega arith) (omega arith)

  no_rewrite : (r : ℕ) → rewrite_kind (started g w) r ≡ entry_none
  unfolding entry_kind
  no_rewrite r = rw (no_entries, le-ltb r 0 (omega arith))

  no_kind : (r : ℕ) → r < n → r < 32 → region_kind (started g w) r ≡ kind_not_begun
  no_kind r h below =
      let len = length₁ in
      ap (λ p. get_or p r 0) (behind_slots kinds (omega arith) (omega arith))
      ∙ fill_there kinds (λ r. r) (λ r. 0) (λ a b c e. omega arith) n 0 l₁ (omega arith) r (omega arith) (omega arith) below

  own_slot : n ≤ 32 → (a : ℕ) → HasSlot n a → word (started g w) set_starts a ≡ slot_size * a
  own_slot many a h =
      let len = length₂ in
      let len' = length₂' in
      ap (λ p. get_or p a 0) (behind_head set_starts (omega arith))
      ∙ elim (dec_lt a n) [
        | yes b ↦ word_apart l₂' set_starts spare_slot (slot 32) set_starts a (omega arith)
            ∙ fill_there set_starts (λ a. a) slot (λ a b c e. omega arith) n 0 l₂ (omega arith) a (omega arith) (omega arith) (omega arith)
            ∙ slot_in a h.below
        | no b ↦ (let e : a ≡ 32 = h.of_region (omega arith) in
            rw e (word_there l₂' set_starts spare_slot (slot 32) (omega arith) (omega arith) ∙ slot_in spare_slot (omega arith)))
      ]

  first_words : (q : ℕ) → q < cases_at → word (started g w) head q ≡ get_or (totals g n) q 0
  first_words q h =
      let len = length₃ in
      let e : q ≡ 0 + q = omega arith in
      head_other l₅ returned_at (returned_count g) q (omega arith)
      ∙ fill_beside head (λ k. 9 + k) (returned_type g) few 0 l₄ q (λ m a e. omega arith)
      ∙ ap (λ p. word l₄ head p) e ∙ run_word l₃ head regions_at (totals g n) (omega arith) (omega arith) q h

  count_word : word (started g w) head returned_at ≡ returned_count g
  count_word = let len = length₅ in head_same l₅ returned_at (returned_count g) (omega arith) (omega arith)

  type_word : (k : ℕ) → k < few → word (started g w) head (types_at + k) ≡ returned_type g k
  type_word k h =
      let len = length₄ in
      head_other l₅ returned_at (returned_count g) (9 + k) (omega arith)
      ∙ fill_there head (λ k. 9 + k) (returned_type g) (λ a b c e. omega arith) few 0 l₄ (omega arith) k
      (omega arith) (omega arith) (omega arith)

-- ---- The whole.
pub record ShowsStarted (g : Graph) (w w' : List ℕ) : Type 0 where
  pub state : ShowsState g w' (initial_state g)
  pub cell_total : word w' head cells_at ≡ 1
  pub no_kinds : (q : ℕ) → q < length g.regions → region_kind w' q ≡ kind_not_begun
  pub front : SameFront w w'

pub initial_state_shown : {g : Graph} {w w' : List ℕ} → Valid g → Stands w g → used ≤ length w → w' ≡ started g w → ShowsStarted g w w'
initial_state_shown {g} {w} valid stands room e =
    let few = valid.count.1 in
    let all = all_blocks valid in
    let most = few_blocks valid (length g.regions) (omega arith) in
    let len = started_length g w room in
    let four = few_returned valid (first_return g.regions) in
    let sized = returned_size g in
    rw e
    record {
      state = record {
        stands = stands_on (started_front g w room) stands;
        tables = record {
          size = omega arith;
          region_total = first_words g w room regions_at (omega arith);
          node_total = first_words g w room nodes_at (omega arith) ∙ omega arith;
          merge_total = first_words g w room merges_at (omega arith);
          output_total = first_words g w room outputs_at (omega arith);
          attempts = first_words g w room attempts_at (omega arith);
          twice = first_words g w room twice_at (omega arith);
          few_regions = omega arith;
          few_nodes = omega arith;
          few_merges = omega arith;
          few_outputs = omega arith;
          rewritten = record { entry = λ r h. no_entry (no_rewrite g w room r); logged = λ r m. absurd (Memᴰ.not-nil m) };
          outputs_shown = λ o h. absurd (omega arith);
        };
        named = record { below = λ r k a b d. absurd (d (no_rewrite g w room r)) };
        size = length-replicate (length g.regions) not_begun;
        regions = λ r h. rw (all_not_begun (length g.regions) r) (is_not_begun (no_kind g w room r h (omega arith)));
        slots = record { slot_number = λ a. a; starts = own_slot g w room few; below = λ a h. h.below; own = λ a b h i f. f };
        returned = record {
          size = count_word g w room ∙ sized;
          types = λ k h. type_word g w room k (omega arith) ∙ returned_is g k (omega arith);
        };
      };
      cell_total = first_words g w room cells_at (omega arith);
      no_kinds = λ q h. no_kind g w room q h (omega arith);
      front = started_front g w room;
    }
