-- A look_up, as the words alone have it.
use Rattle.std.specs.Prelude.{◌≡◌, Bool, true, false, not, List, ℕ, zero, suc, ◌+◌, ◌-◌, eqb}
use Rattle.state_words.specs.Sections.{stored, head}
use Rattle.state_nodes.specs.NodeTables.{rewrite_kind}
use Rattle.state_words.specs.Values.{is_input, is_held, input_region, input_index}
use Rattle.cfg_lookups.specs.declared.look_up.LookUp.{LookUp}
use Rattle.meaning.specs.Lists.{pick}
use Rattle.nesting.specs.Nesting.{most_regions}
use Rattle.state_words.specs.Rows.{entry_none, entry_renumber, rewrite_value, twice_at, entry_replace}

abbrev pub plain : ℕ → LookUp
plain x = record { value = x; twice = false }

-- The kind of the entry of an input's region, and what it has for the input.
abbrev pub kind_at : List ℕ → ℕ → ℕ
kind_at l x = rewrite_kind l (input_region x)

abbrev pub entry_at : List ℕ → ℕ → ℕ
entry_at l x = rewrite_value l (input_region x) (input_index x)

unfoldable pub changes_again : List ℕ → ℕ → Bool
changes_again l v = pick (eqb (kind_at l v) entry_none) false (pick (eqb (kind_at l v) entry_replace) true (not (eqb (entry_at l v) v)))

unfoldable pub stays : List ℕ → ℕ → LookUp
stays l v = record { value = v; twice = pick (is_held v) (changes_again l v) false }

unfoldable pub renumbers : ℕ → ℕ → Bool
renumbers kind x = pick (eqb kind entry_renumber) (is_held x) false

-- n turns of the look_up.
unfoldable pub turns : ℕ → List ℕ → ℕ → LookUp
turns zero l x = plain x
turns (suc n) l x =
    pick (is_input x)
    (pick (eqb (kind_at l x) entry_none) (plain x)
    (pick (renumbers (kind_at l x) (entry_at l x)) (plain (entry_at l x)) (turns n l (entry_at l x))))
    (stays l x)

abbrev pub look_up : List ℕ → ℕ → LookUp
look_up l v = turns (most_regions + 1) l v

-- The value, and the words with the note taken.
pub record Rewrites (l : List ℕ) (v : ℕ) (l' : List ℕ) (a : ℕ) : Type 0 where
  pub value : a ≡ (look_up l v).value
  pub noted : l' ≡ pick (look_up l v).twice (stored l head twice_at 1) l
