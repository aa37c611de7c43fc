-- Words filled in at their places: each stands there, and no other word of any section changes.
use Rattle.std.specs.Prelude.{◌≡◌, List, get_or}
use Rattle.std.proofs.Math.Path.{refl}
use Rattle.std.proofs.Common.{sym, ap, ◌∙◌, arith}
use Prim.Native.Nat.{ℕ, zero, suc, ◌+◌, ◌≤◌, ◌<◌}
use Rattle.std.proofs.Math.Decide.{ℕ_discrete}
use Rattle.std.proofs.Math.ListN.{length}
use Rattle.state_words.specs.Sections as sections
use Rattle.state_words.specs.Sections.{Section, number, start, size, section, word, stored, filled, front, head}
use Rattle.state_words.specs.laws.Apart.{stored_length, section_other}
use Rattle.state_shown.specs.Front.{SameFront}
use Rattle.state_shown.specs.laws.Stores.{word_there, word_apart, ChangesOnly}

module _ (k : Section) (place x : ℕ → ℕ) where
  pub fill_length : (n i : ℕ) (l : List ℕ) → length (filled k place x n i l) ≡ length l
  unfolding filled
  fill_length zero i l = refl
  fill_length (suc n) i l =
      fill_length n (suc i) (stored l k (place i) (x i)) ∙ stored_length (start k) (size k) l (place i) (x i)

  pub fill_other : (n i : ℕ) (l : List ℕ) (j : Section) → (number j ≡ number k → ⊥) → section (filled k place x n i l) j ≡ section l j
  unfolding filled
  fill_other zero i l j d = refl
  fill_other (suc n) i l j d = fill_other n (suc i) (stored l k (place i) (x i)) j d ∙ section_other l k (place i) (x i) j d

  pub fill_changes : (number k ≡ number sections.head → ⊥) → (h n i : ℕ) (l : List ℕ) → ChangesOnly k h l (filled k place x n i l)
  fill_changes d h n i l =
      record {
        words = fill_length n i l;
        others = λ j a b. fill_other n i l j a;
        totals = λ q a. ap (λ p. get_or p q 0) (fill_other n i l head (λ e. d (sym e)));
      }

  pub fill_front : (number k ≡ number sections.front → ⊥) → (n i : ℕ) (l : List ℕ) → SameFront l (filled k place x n i l)
  fill_front d n i l = record { words = fill_length n i l; front_words = fill_other n i l front (λ e. d (sym e)) }

  pub fill_beside : (n i : ℕ) (l : List ℕ) (q : ℕ) → ((m : ℕ) → i ≤ m → q ≡ place m → ⊥)
      → word (filled k place x n i l) k q ≡ word l k q
  unfolding filled
  fill_beside zero i l q d = refl
  fill_beside (suc n) i l q d =
      fill_beside n (suc i) (stored l k (place i) (x i)) q (λ m h. d m (omega arith))
      ∙ word_apart l k (place i) (x i) k q (d i (omega arith))

  -- No two turns have one place.
  pub fill_there : ((a b : ℕ) → a < b → place a ≡ place b → ⊥) → (n i : ℕ) (l : List ℕ) → start k + size k ≤ length l → (q : ℕ)
      → i ≤ q → q < i + n → place q < size k → word (filled k place x n i l) k (place q) ≡ x q
  unfolding filled
  fill_there apart zero i l room q a b h = absurd (omega arith)
  fill_there apart (suc n) i l room q a b h =
      let l' = stored l k (place i) (x i) in
      elim (ℕ_discrete q i) [
        | yes e ↦ fill_beside n (suc i) l' (place q) (λ m c. apart q m (omega arith))
            ∙ rw e (word_there l k (place i) (x i) room (rw e at h))
        | no d ↦ (
            let room' : start k + size k ≤ length l' = rw (stored_length (start k) (size k) l (place i) (x i)) room in
            fill_there apart n (suc i) l' room' q (omega arith) (omega arith) h)
      ]
