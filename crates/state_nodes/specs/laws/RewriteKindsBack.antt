-- A kind of rewriting that a word says is that word's number again: so what is known of one is known of the other.
use Rattle.std.specs.Prelude.{◌≡◌, refl, ℕ, eqb}
use Rattle.std.proofs.Math.Path.{sym, ap}
use Rattle.std.proofs.Common.{◌∙◌, ne_eqb, eq-eqb}
use Rattle.std.proofs.Math.Decide.{ℕ_discrete}
use Rattle.meaning.specs.Lists.{pick}
use Rattle.state_nodes.specs.declared.rewrites.RewriteKind.{RewriteKind}
use Rattle.state_nodes.specs.RewriteKinds.{rewrite_kind_of, rewrite_kind_word}

-- Of a choice by a word: where what is chosen says that word, and what else there is says it, so does the whole.
by_word : (n k : ℕ) (x rest : RewriteKind) → rewrite_kind_word x ≡ k → rewrite_kind_word rest ≡ n → rewrite_kind_word (pick (eqb n k) x rest) ≡ n
by_word n k x rest here else_ = elim (ℕ_discrete n k) [
  | yes e ↦ rw (eq-eqb n k e) (here ∙ sym e)
  | no d ↦ rw (ne_eqb n k d) else_
]

rewrite_back : (n : ℕ) → rewrite_kind_word (rewrite_kind_of n) ≡ n
rewrite_back n = by_word n 0 _ _ refl (by_word n 1 _ _ refl (by_word n 2 _ _ refl refl))

-- Two words that say the same are the same, and two that do not are not.
pub rewrite_is : {n m : ℕ} {k : RewriteKind} → k ≡ rewrite_kind_of n → k ≡ rewrite_kind_of m → n ≡ m
rewrite_is {n} {m} p e = sym (rewrite_back n) ∙ ap rewrite_kind_word (sym p ∙ e) ∙ rewrite_back m

pub rewrite_not : {n m : ℕ} {k : RewriteKind} → k ≡ rewrite_kind_of n → (k ≡ rewrite_kind_of m → ⊥) → n ≡ m → ⊥
rewrite_not p d e = d (p ∙ ap rewrite_kind_of e)
