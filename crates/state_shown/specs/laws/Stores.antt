-- Words stored in a run, as its section has them; and what a step leaves: it changes one section and one word of the head.
use Rattle.std.specs.Prelude.{◌≡◌, ℕ, suc, ◌+◌, ◌≤◌, ◌<◌, length, get_or, drop}
use Rattle.std.proofs.Math.Path.{refl, ap}
use Rattle.std.proofs.Common.{sym, ◌∙◌, arith, length-take, get_or-set_same, get_or-set_other}
use mathlib.Core.List.{List, [], ◌∷◌}
use Rattle.std.proofs.Math.Decide.{ℕ_discrete}
use Rattle.std.proofs.Math.ListN.{length-drop}
use Rattle.std.proofs.Math.Seq.{sets}
use Rattle.state_words.specs.Sections as sections
use Rattle.state_words.specs.Sections.{Section, head, number, start, size, used, part, section, word, stored, stored_at, stored_all}
use Rattle.state_words.specs.Sections.{stored_all_at}
use Rattle.state_words.specs.laws.Apart.{same_start, same_size, stored_length, part_stored, section_stored, section_other}

-- ---- A run of words in its section, and in the others.
module _ (o n : ℕ) where
  pub run_length : (l : List ℕ) (i : ℕ) (xs : List ℕ) → length (stored_all_at o n l i xs) ≡ length l
  unfolding stored_all_at
  run_length l i [] = refl
  run_length l i (x ∷ xs) = run_length (stored_at o n l i x) (suc i) xs ∙ stored_length o n l i x

  part_run : (l : List ℕ) (i : ℕ) (xs : List ℕ) → part o n (stored_all_at o n l i xs) ≡ sets (part o n l) i xs
  unfolding stored_all_at
  part_run l i [] = refl
  part_run l i (x ∷ xs) = part_run (stored_at o n l i x) (suc i) xs ∙ ap (λ p. sets p (suc i) xs) (part_stored o n l i x)

  pub part_length : (l : List ℕ) → o + n ≤ length l → length (part o n l) ≡ n
  unfolding part
  part_length l h = rw (length-take n (drop o l), length-drop o l) (omega arith)

pub section_run : (l : List ℕ) (k : Section) (i : ℕ) (xs : List ℕ) → section (stored_all l k i xs) k ≡ sets (section l k) i xs
section_run l k i xs = part_run (start k) (size k) l i xs

pub run_other : (l : List ℕ) (k : Section) (i : ℕ) (xs : List ℕ) (j : Section) → (number j ≡ number k → ⊥)
    → section (stored_all l k i xs) j ≡ section l j
unfolding stored_all_at
run_other l k i [] j d = refl
run_other l k i (x ∷ xs) j d = run_other (stored l k i x) k (suc i) xs j d ∙ section_other l k i x j d

-- ---- A word of the head.
pub head_same : (l : List ℕ) (i x : ℕ) → used ≤ length l → i < 16 → word (stored l head i x) head i ≡ x
head_same l i x s h =
    rw (section_stored l head i x) (get_or-set_same (section l head) i x 0 (rw (part_length (start head) (size head) l (omega arith)) h))

pub head_other : (l : List ℕ) (i x q : ℕ) → (q ≡ i → ⊥) → word (stored l head i x) head q ≡ word l head q
head_other l i x q d = rw (section_stored l head i x) (get_or-set_other (section l head) i q x 0 d)

-- ---- A word stored in a section, and any other word of any section.
pub word_there : (l : List ℕ) (k : Section) (i x : ℕ) → start k + size k ≤ length l → i < size k → word (stored l k i x) k i ≡ x
word_there l k i x s h =
    rw (section_stored l k i x) (get_or-set_same (section l k) i x 0 (rw (part_length (start k) (size k) l s) h))

pub word_apart : (l : List ℕ) (k : Section) (i x : ℕ) (j : Section) (q : ℕ) → (q ≡ i → ⊥) → word (stored l k i x) j q ≡ word l j q
word_apart l k i x j q d =
    elim (ℕ_discrete (number j) (number k)) [
      | yes e ↦ rw (same_start j k e, same_size j k e, part_stored (start k) (size k) l i x) (get_or-set_other (section l k) i q x 0 d)
      | no n ↦ ap (λ p. get_or p q 0) (section_other l k i x j n)
    ]

-- ---- From l to l' no section but k and the head changes, and no word of the head but i.
pub record ChangesOnly (k : Section) (i : ℕ) (l l' : List ℕ) : Type 0 where
  pub words : length l' ≡ length l
  pub others : (j : Section) → (number j ≡ number k → ⊥) → (number j ≡ number sections.head → ⊥) → section l' j ≡ section l j
  pub totals : (q : ℕ) → (q ≡ i → ⊥) → word l' head q ≡ word l head q

module _ (k : Section) (i : ℕ) (l : List ℕ) where
  pub nothing_changes : ChangesOnly k i l l
  nothing_changes = record { words = refl; others = λ j a b. refl; totals = λ q a. refl }

  pub head_changes : (x : ℕ) → ChangesOnly k i l (stored l head i x)
  head_changes x =
      record {
        words = stored_length (start head) (size head) l i x;
        others = λ j a b. section_other l head i x j b;
        totals =
            λ q a. head_other l i x q a;
      }

  pub word_changes : (number k ≡ number sections.head → ⊥) → (j x : ℕ) → ChangesOnly k i l (stored l k j x)
  word_changes d j x =
      record {
        words = stored_length (start k) (size k) l j x;
        others = λ s a b. section_other l k j x s a;
        totals = λ q a. ap (λ p. get_or p q 0) (section_other l k j x head (λ e. d (sym e)));
      }

  pub run_changes : (number k ≡ number sections.head → ⊥) → (j : ℕ) (xs : List ℕ) → ChangesOnly k i l (stored_all l k j xs)
  run_changes d j xs =
      record {
        words = run_length (start k) (size k) l j xs;
        others = λ s a b. run_other l k j xs s a;
        totals = λ q a. ap (λ p. get_or p q 0) (run_other l k j xs head (λ e. d (sym e)));
      }

pub changes_then : {k : Section} {i : ℕ} {l l₁ l₂ : List ℕ} → ChangesOnly k i l l₁ → ChangesOnly k i l₁ l₂ → ChangesOnly k i l l₂
changes_then a b =
    record {
      words = b.words ∙ a.words;
      others = λ j d e. b.others j d e ∙ a.others j d e;
      totals = λ q d. b.totals q d ∙ a.totals q d;
    }
