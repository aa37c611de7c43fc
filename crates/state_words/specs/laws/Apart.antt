-- Sections do not meet: a word stored in one changes that word of it, no other word of it, and no other section.
use Rattle.std.specs.Prelude.{◌≡◌, refl, List, [], ◌∷◌, ℕ, ◌+◌, ◌-◌, ◌≤◌, ◌<◌, length, get_or, drop}
use Rattle.std.proofs.Math.Path.{sym, ap}
use Rattle.std.proofs.Common.{◌∙◌, length-set, length-take, drop-set-lt}
use native.Mathlib.Omega.{arith}
use Rattle.std.proofs.Math.Decide.{dec_lt}
use Rattle.std.proofs.Math.ListN.{set, take}
use Rattle.std.proofs.Math.Seq.{take-set-le, take-set-lt, set_out}
use Rattle.std.proofs.lemmas.List.{drop-set-add}
use Rattle.meaning.specs.facts.Sums.{total_take}
use Rattle.meaning.specs.Lists.{total}
use Rattle.state_words.specs.Sections.{Section, number, start, size, part, stored_at, section, stored, front, head, kinds, backedges}
use Rattle.state_words.specs.Sections.{set_starts, set_lengths, children, bodies, levels, cases, rewrites, outputs, conditions, cells}
use Rattle.state_words.specs.Sections.{bundles}
use Rattle.state_words.specs.laws.Stored.{stored_in, stored_beyond}

-- ---- Any two parts of a list that do not meet.
module _ (o n : ℕ) (l : List ℕ) (i x : ℕ) where
  by_index : (P : List ℕ → Type 0) → (i < n → P (set l (o + i) x)) → (n ≤ i → P l) → P (stored_at o n l i x)
  by_index P f g = elim
      (dec_lt i n) [ yes h ↦ rw (stored_in o n l i x h) (f h) | no h ↦ rw (stored_beyond o n l i x (omega arith)) (g (omega arith)) ]

  pub stored_length : length (stored_at o n l i x) ≡ length l
  stored_length = by_index (λ m. length m ≡ length l) (λ h. length-set l (o + i) x) (λ h. refl)

  pub part_stored : part o n (stored_at o n l i x) ≡ set (part o n l) i x
  unfolding part
  part_stored =
      by_index (λ m. part o n m ≡ set (part o n l) i x)
      (λ h. ap (take n) (drop-set-add o l i x) ∙ take-set-lt n (drop o l) i x h)
      (λ h. sym (set_out (part o n l) i x (rw (length-take n (drop o l)) (omega arith))))

  pub part_before : (o' n' : ℕ) → o' + n' ≤ o → part o' n' (stored_at o n l i x) ≡ part o' n' l
  unfolding part
  part_before o' n' a =
      by_index (λ m. part o' n' m ≡ part o' n' l)
      (λ h. let e : o + i ≡ o' + (o + i - o') = omega arith in
      ap (λ p. take n' (drop o' (set l p x))) e
      ∙ ap (take n') (drop-set-add o' l (o + i - o') x)
      ∙ take-set-le n' (drop o' l) (o + i - o') x (omega arith))
      (λ h. refl)

  pub part_behind : (o' n' : ℕ) → o + n ≤ o' → part o' n' (stored_at o n l i x) ≡ part o' n' l
  unfolding part
  part_behind o' n' a =
      by_index (λ m. part o' n' m ≡ part o' n' l) (λ h. ap (take n') (drop-set-lt o' l (o + i) x (omega arith))) (λ h. refl)

-- ---- Sections, one behind the other.
abbrev sizes : List ℕ
sizes =
    size front ∷ size head ∷ size kinds ∷ size backedges ∷ size set_starts ∷ size set_lengths ∷ size children ∷ size bodies ∷ size levels
    ∷ size cases ∷ size rewrites ∷ size outputs ∷ size conditions ∷ size cells ∷ size bundles ∷ []

-- Each begins where the one before it ends.
starts_at : (k : Section) → start k ≡ total (λ n. n) (take (number k) sizes)
starts_at front = refl
starts_at head = refl
starts_at kinds = refl
starts_at backedges = refl
starts_at set_starts = refl
starts_at set_lengths = refl
starts_at children = refl
starts_at bodies = refl
starts_at levels = refl
starts_at cases = refl
starts_at rewrites = refl
starts_at outputs = refl
starts_at conditions = refl
starts_at cells = refl
starts_at bundles = refl

has_words : (k : Section) → size k ≡ get_or sizes (number k) 0
has_words front = refl
has_words head = refl
has_words kinds = refl
has_words backedges = refl
has_words set_starts = refl
has_words set_lengths = refl
has_words children = refl
has_words bodies = refl
has_words levels = refl
has_words cases = refl
has_words rewrites = refl
has_words outputs = refl
has_words conditions = refl
has_words cells = refl
has_words bundles = refl

behind : (j k : Section) → number j < number k → start j + size j ≤ start k
behind j k h =
    let z = total_take sizes (number j) (number k) h in
    let x = starts_at j in
    let y = has_words j in
    let v = starts_at k in
    omega arith

pub same_start : (j k : Section) → number j ≡ number k → start j ≡ start k
same_start j k e = starts_at j ∙ ap (λ n. total (λ m. m) (take n sizes)) e ∙ sym (starts_at k)

pub same_size : (j k : Section) → number j ≡ number k → size j ≡ size k
same_size j k e = has_words j ∙ ap (λ n. get_or sizes n 0) e ∙ sym (has_words k)

pub section_stored : (l : List ℕ) (k : Section) (i x : ℕ) → section (stored l k i x) k ≡ set (section l k) i x
section_stored l k i x = part_stored (start k) (size k) l i x

pub section_other : (l : List ℕ) (k : Section) (i x : ℕ) (j : Section) → (number j ≡ number k → ⊥)
    → section (stored l k i x) j ≡ section l j
section_other l k i x j d =
    elim (dec_lt (number j) (number k)) [
      | yes h ↦ part_before (start k) (size k) l i x (start j) (size j) (behind j k h)
      | no h ↦ part_behind (start k) (size k) l i x (start j) (size j) (behind k j (omega arith))
    ]
