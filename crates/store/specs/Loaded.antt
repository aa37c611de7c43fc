-- What loading a store answers, and what the lent words hold then (document 01, refusals 1 to 3, and 4 for W).
use Rattle.std.specs.Prelude.{◌≡◌, List, ◌++◌, ℕ, length, drop, Result, Ok, Err}
use Rattle.format.specs.Store.{Answer, accepted, refused, store_words}
use Rattle.store.specs.Refusals.{refused_as}
use Rattle.store.specs.declared.refusals.Refusal.{Refusal}

-- Document 01's number and word of each refusal, or what is taken.
abbrev pub answered : {T : Type 0} → Result T Refusal → Answer T
answered (Ok x) = accepted x
answered (Err why) = refused_as why

-- The words of a store, counted: W.
abbrev pub words_counted : Answer (List ℕ) → Answer ℕ
words_counted (accepted ws) = accepted (length ws)
words_counted (refused n w) = refused n w

-- The store's words stand in front of the lent words; a refusal leaves these as lent.
abbrev pub words_after : List ℕ → Answer (List ℕ) → List ℕ
words_after before (accepted ws) = ws ++ drop (length ws) before
words_after before (refused n w) = before

pub record Loads (s before after : List ℕ) (r : Result ℕ Refusal) : Type 0 where
  pub answer : answered r ≡ words_counted (store_words s)
  pub words : after ≡ words_after before (store_words s)
