-- A deferred edge's line, part by part: region, target, count, inputs, condition.
use Rattle.std.specs.Prelude.{◌≡◌, Bool, ℕ, ◌+◌, ◌<◌, eqb, length, get_or}
use Rattle.std.proofs.Math.Path.{refl}
use Rattle.std.proofs.Common.{◌∙◌, arith}
use Rattle.std.proofs.Math.Bool.{true, false, or-false}
use mathlib.Core.List.{List, [], ◌∷◌, append-nil}
use borrow.Author.Tests.{lt-ltb}
use Rattle.meaning.specs.Graph.{Graph}
use Rattle.meaning.specs.Lists.{pick}
use Rattle.nesting.specs.Nesting as nesting
use Rattle.nesting.specs.Nesting.{NestState, plain, DeferredTarget, DeferredEdgeBundle, DeferredEdgeBundleSet}
use Rattle.nesting.specs.Nesting.{true_cond, look_up_each}
use Rattle.nesting.specs.Sheet as sheet
use Rattle.nesting.specs.SheetNumbers.{lead_defer}
use Rattle.state_words.specs.Sections.{word, set_starts, set_lengths}
use Rattle.state_sets.specs.SetTables.{bundle_at}
use Rattle.state_shown.specs.Tables.{ShowsCond, shows_true}
use Rattle.state_shown.specs.Sets.{ShowsTarget, shows_region, shows_return, ShowsBundle, no_bundle}
use Rattle.state_shown.specs.States.{ShowsOwnSet}
use Rattle.cfg_bundles.specs.EdgesAndCases.{condition_in}
use Rattle.sheet_words.specs.PutInFront.{Part}
use Rattle.sheet_words.specs.laws.PutInFrontLaws.{◌⊕◌}
use Rattle.sheet_words.specs.Parts.{look_up_at_end, values_part, defer_part}
use Rattle.state_words.specs.Rows.{bundle_condition, bundle_count, bundle_target, most_bundles, return_word, slot_size}

-- ---- The line.
target_words : {g : Graph} {t : ℕ} {x : DeferredTarget} → ShowsTarget g t x → (sheet.target x).words ≡ t ∷ []
target_words (shows_region {r} e h) = rw e (go (eqb r return_word))
  where
    go : (b : Bool) → (pick b (sheet.number_as r "return") (sheet.a_number r)).words ≡ r ∷ []
    go true = refl
    go false = refl
target_words (shows_return e) = rw e

module _ {g : Graph} {w : List ℕ} {p : ℕ} {e : DeferredEdgeBundle} (shows : ShowsBundle g w p e) (s : NestState) (r : ℕ)
    (d : DeferredEdgeBundleSet) where
  pub line_is : {t n : ℕ} → t ≡ bundle_target w p → n ≡ bundle_count w p
      → plain (lead_defer ∷ []) ⊕ plain (r ∷ t ∷ n ∷ []) ⊕ values_part s e.target_inputs
      ⊕ plain (sheet.condition (nesting.condition_in d e)).words
      ≡ defer_part s r d e
  unfolding defer_part values_part
  line_is to count =
      rw (
        target_words shows.target,
        append-nil,
        or-false (look_up_each (look_up_at_end s) e.target_inputs).twice,
        to,
        count,
        shows.count,
      )

  pub condition_is : {c n : ℕ} → c ≡ condition_in w p n → n ≡ length d → ShowsCond w c (nesting.condition_in d e)
  unfolding condition_in
  condition_is {n} is size = rw (is, size) (go (eqb (length d) 1))
    where
      go : (b : Bool) → ShowsCond w (pick b 1 (bundle_condition w p)) (pick b true_cond e.condition)
      go true = shows_true refl
      go false = shows.condition.tree

-- ---- A region's set.
abbrev pub defer_at : NestState → ℕ → DeferredEdgeBundleSet → ℕ → Part
defer_at s r d i = defer_part s r d (get_or d i no_bundle)

module _ {g : Graph} {w : List ℕ} (r : ℕ) {d : DeferredEdgeBundleSet} (set : ShowsOwnSet g w r d) {n : ℕ}
    (of_length : n ≡ word w set_lengths r) where
  pub bundle_shown : {start i p : ℕ} → start ≡ word w set_starts r → i < n → p ≡ bundle_at start i
      → ShowsBundle g w p (get_or d i no_bundle)
  unfolding bundle_at
  bundle_shown {start} {i} {p} of_start below is =
      let few = set.few in
      let room = set.room in
      let there : p ≡ word w set_starts r + i = is
      ∙ rw (lt-ltb start most_bundles (omega arith), lt-ltb i slot_size (omega arith), of_start) in
      rw there (set.each i (omega arith))
