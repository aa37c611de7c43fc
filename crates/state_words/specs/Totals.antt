-- What a step does to the head: a definition within its limit, an attempt more; a number of edges as a word.
use Rattle.std.specs.Prelude.{◌≡◌, List, ℕ, ◌+◌, ◌≤◌, ◌<◌, min, ltb}
use Rattle.std.specs.Prelude.{Result, Ok, Err, ⊤}
use Rattle.state_words.specs.declared.defined.TooMany.{TooMany}
use Rattle.state_words.specs.Sections.{word, stored, head}
use Rattle.meaning.specs.Lists.{pick}
use Rattle.state_words.specs.Rows.{attempts_at}
use Rattle.state_words.specs.Rows.{largest}

-- What a definition answers: its number, or refusal 9; and a step that makes no number.
abbrev pub Defined : Type 0
Defined = Result ℕ TooMany

abbrev pub Made : Type 0
Made = Result ⊤ TooMany

abbrev pub Full : {A : Type 0} → Result A TooMany
Full = Err (record {})

abbrev pub Done : Made
Done = Ok tt

-- One more of what the head counts at i, from l to l'; refusal 9 where there are as many as the limit.
pub data Defines (i limit : ℕ) (l l' : List ℕ) : Defined → Type 0 where
  defined : {n : ℕ} → n ≡ word l head i → n < limit → l' ≡ stored l head i (n + 1) → Defines i limit l l' (Ok n)
  full : limit ≤ word l head i → l' ≡ l → Defines i limit l l' Full

-- ---- Bundles.
-- A number of edges, as a word of the state: held at the largest.
abbrev pub edges_word : ℕ → ℕ
edges_word n = min n largest

unfoldable pub attempted : List ℕ → List ℕ
attempted l = pick (ltb (word l head attempts_at) largest) (stored l head attempts_at (word l head attempts_at + 1)) l
