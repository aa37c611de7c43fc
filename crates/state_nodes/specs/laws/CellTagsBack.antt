-- A tag that a word says is that word's number again: so what is known of one is known of the other.
use Rattle.std.specs.Prelude.{◌≡◌, refl, ℕ, eqb}
use Rattle.std.proofs.Math.Path.{sym, ap}
use Rattle.std.proofs.Common.{◌∙◌, ne_eqb, eq-eqb}
use Rattle.std.proofs.Math.Decide.{ℕ_discrete}
use Rattle.meaning.specs.Lists.{pick}
use Rattle.state_nodes.specs.declared.cells.CellTag.{CellTag}
use Rattle.state_nodes.specs.CellTags.{tag_of, tag_word}

-- Of a choice by a word: where what is chosen says that word, and what else there is says it, so does the whole.
by_word : (n k : ℕ) (x rest : CellTag) → tag_word x ≡ k → tag_word rest ≡ n → tag_word (pick (eqb n k) x rest) ≡ n
by_word n k x rest here else_ = elim (ℕ_discrete n k) [
  | yes e ↦ rw (eq-eqb n k e) (here ∙ sym e)
  | no d ↦ rw (ne_eqb n k d) else_
]

tag_back : (n : ℕ) → tag_word (tag_of n) ≡ n
tag_back n =
    by_word n 1 _ _ refl (by_word n 2 _ _ refl (by_word n 3 _ _ refl (by_word n 4 _ _ refl
    (by_word n 5 _ _ refl (by_word n 6 _ _ refl (by_word n 7 _ _ refl refl))))))

-- Two words that say the same are the same, and two that do not are not.
pub tag_is : {n m : ℕ} {k : CellTag} → k ≡ tag_of n → k ≡ tag_of m → n ≡ m
tag_is {n} {m} p e = sym (tag_back n) ∙ ap tag_word (sym p ∙ e) ∙ tag_back m

pub tag_not : {n m : ℕ} {k : CellTag} → k ≡ tag_of n → (k ≡ tag_of m → ⊥) → n ≡ m → ⊥
tag_not p d e = d (p ∙ ap tag_of e)
