-- The record and its index stay: what each store leaves, and steps one after another.
use Rattle.std.specs.Prelude.{◌≡◌, refl, Bool, true, false, List, ℕ, ◌+◌, ltb}
use Rattle.std.proofs.Common.{sym, ◌∙◌, arith}
use Rattle.meaning.specs.Graph.{Graph}
use Rattle.meaning.specs.Lists.{pick}
use Rattle.record.specs.Stands.{Stands}
use Rattle.fields.specs.laws.Unchanged.{still_stands}
use Rattle.state_nodes.specs.declared.cells.Cell.{Cell}
use Rattle.state_words.specs.Totals.{Defined}
use Rattle.state_words.specs.Sections as sections
use Rattle.state_words.specs.Sections.{Section, number, start, size, part, stored, stored_all, front, head, kinds, cells, bundles}
use Rattle.state_nodes.specs.NodeTables.{Adds, added, no_room}
use Rattle.state_words.specs.Totals.{Defines, defined, full}
use Rattle.state_sets.specs.SetTables.{input_stored}
use Rattle.state_nodes.specs.NodeTables.{cell_words}
use Rattle.state_words.specs.laws.Apart.{stored_length, section_other}
use Rattle.state_shown.specs.laws.Stores.{run_length, run_other, ChangesOnly}
use Rattle.state_shown.specs.Front.{SameFront, SameKinds}
use Rattle.state_words.specs.Rows.{bundle_input_at, cell_row_at, cells_at}

pub stands_on : {w w' : List ℕ} {g : Graph} → SameFront w w' → Stands w g → Stands w' g
unfolding part
stands_on {w'} f s = still_stands s w' f.words f.front_words

pub front_same : (w : List ℕ) → SameFront w w
front_same w = record { words = refl; front_words = refl }

pub front_stored : (w : List ℕ) (k : Section) → (number k ≡ number sections.front → ⊥) → (i x : ℕ) → SameFront w (stored w k i x)
front_stored w k d i x = record {
  words = stored_length (start k) (size k) w i x;
  front_words = section_other w k i x front
      (λ e. d (sym e));
}

pub front_run : (w : List ℕ) (k : Section) → (number k ≡ number sections.front → ⊥) → (i : ℕ) (xs : List ℕ)
    → SameFront w (stored_all w k i xs)
front_run w k d i xs = record { words = run_length (start k) (size k) w i xs; front_words = run_other w k i xs front (λ e. d (sym e)) }

pub front_by : {k : Section} {i : ℕ} {w w' : List ℕ} → ChangesOnly k i w w' → (number sections.front ≡ number k → ⊥) → SameFront w w'
front_by changes d = record { words = changes.words; front_words = changes.others front d (omega arith) }

pub front_then : {w w₁ w₂ : List ℕ} → SameFront w w₁ → SameFront w₁ w₂ → SameFront w w₂
front_then a b = record { words = b.words ∙ a.words; front_words = b.front_words ∙ a.front_words }

-- A section that is neither: of one by its name, `omega arith` proves it.
pub record BehindKinds (k : Section) : Type 0 where
  pub not_front : number k ≡ number sections.front → ⊥
  pub not_kinds : number sections.kinds ≡ number k → ⊥

pub stands_kept : {w w' : List ℕ} {g : Graph} → SameKinds w w' → Stands w g → Stands w' g
stands_kept f s = stands_on f.front s

pub kinds_same : (w : List ℕ) → SameKinds w w
kinds_same w = record { front = front_same w; kinds_words = refl }

pub kinds_stored : (w : List ℕ) (k : Section) → BehindKinds k → (i x : ℕ) → SameKinds w (stored w k i x)
kinds_stored w k d i x =
    record { front = front_stored w k d.not_front i x; kinds_words = section_other w k i x kinds d.not_kinds }

pub kinds_run : (w : List ℕ) (k : Section) → BehindKinds k → (i : ℕ) (xs : List ℕ) → SameKinds w (stored_all w k i xs)
kinds_run w k d i xs = record { front = front_run w k d.not_front i xs; kinds_words = run_other w k i xs kinds d.not_kinds }

pub kinds_input_stored : (l : List ℕ) (p k x : ℕ) → SameKinds l (input_stored l p k x)
unfolding input_stored
kinds_input_stored l p k x = go (ltb k 4)
  where
    go : (b : Bool) → SameKinds l (pick b (stored l bundles (bundle_input_at p k) x) l)
    go true = kinds_stored l bundles (omega arith) (bundle_input_at p k) x
    go false = kinds_same l

pub kinds_by : {k : Section} {i : ℕ} {w w' : List ℕ} → ChangesOnly k i w w' → BehindKinds k → SameKinds w w'
kinds_by changes d =
    record {
      front = front_by changes (λ e. d.not_front (sym e));
      kinds_words = changes.others kinds d.not_kinds (omega arith);
    }

pub kinds_then : {w w₁ w₂ : List ℕ} → SameKinds w w₁ → SameKinds w₁ w₂ → SameKinds w w₂
kinds_then a b = record { front = front_then a.front b.front; kinds_words = b.kinds_words ∙ a.kinds_words }

pub adds_kinds : {w w' : List ℕ} {x : Cell} {h : ℕ} → Adds w w' x h → SameKinds w w'
adds_kinds {w} {x} {h} (added e l s) =
    rw s
    (kinds_then (kinds_run w cells (omega arith) (cell_row_at h) (cell_words x))
    (kinds_stored (stored_all w cells (cell_row_at h) (cell_words x)) head (omega arith) cells_at (h + 1)))
adds_kinds {w} (no_room l s e) = rw s (kinds_same w)

pub defines_kinds : {i limit : ℕ} {w w' : List ℕ} {a : Defined} → Defines i limit w w' a → SameKinds w w'
defines_kinds {i} {w} (defined {n} e l s) = rw s (kinds_stored w head (omega arith) i (n + 1))
defines_kinds {w} (full l s) = rw s (kinds_same w)
