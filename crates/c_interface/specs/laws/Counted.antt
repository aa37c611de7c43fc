-- What a routine's answer says where it is the definition's, counted: how many words or bytes were put, or the same refusal.
use Rattle.std.specs.Prelude.{◌≡◌, List, ℕ, length}
use Rattle.std.proofs.Common.{ap, ◌∙◌}
use Rattle.format.specs.Store.{Answer, accepted, refused}
use Rattle.store.specs.Loaded.{words_counted}
use Rattle.meaning.specs.facts.Tests.{clash}

module _ {b : Answer (List ℕ)} where
  pub same_length : {n : ℕ} → accepted n ≡ words_counted b → {ws : List ℕ} → b ≡ accepted ws → n ≡ length ws
  same_length h f = let is = h ∙ ap words_counted f in cc

  pub not_refused : {n : ℕ} → accepted n ≡ words_counted b → {m w : ℕ} → b ≡ refused m w → ⊥
  not_refused h f = let is = h ∙ ap words_counted f in clash (cc)

  pub not_accepted : {n x : ℕ} → refused n x ≡ words_counted b → {ws : List ℕ} → b ≡ accepted ws → ⊥
  not_accepted h f = let is = h ∙ ap words_counted f in clash (cc)

  pub same_refusal : {n x : ℕ} → refused n x ≡ words_counted b → {m w : ℕ} → b ≡ refused m w → (n ≡ m) × (x ≡ w)
  same_refusal h f = let is = h ∙ ap words_counted f in (cc, cc)
