-- An entry of the rewrites whose words name values.
use Rattle.std.specs.Prelude.{◌≡◌, List, ℕ, ◌≤◌, ◌<◌, length, get_or}
use Rattle.std.proofs.Common.{◌∙◌}
use Rattle.std.proofs.Math.Decide.{ℕ_discrete}
use Rattle.state_words.specs.Sections.{used, section, rewrites}
use Rattle.state_nodes.specs.NodeTables.{inserted}
use Rattle.state_shown.specs.laws.Rewrites.{Enters, by_insertion}
use Rattle.state_shown.specs.States.{NamedRewrites}
use Rattle.nesting.specs.Nesting.{most_regions}
use Rattle.state_words.specs.Values.{names_nothing}

named_entered : (w w' : List ℕ) (r kind : ℕ) (ws : List ℕ) → ((k : ℕ) → k < 4 → get_or ws k 0 < names_nothing) → NamedRewrites w
    → Enters (section w rewrites) (section w' rewrites) r kind ws → NamedRewrites w'
named_entered w w' r kind ws below n s =
    record {
      below = λ q k a b d. elim (ℕ_discrete q r) [
        | yes e ↦ rw (e, s.words_set k b) (below k b)
        | no c ↦ rw (s.other_words q k a c b) (n.below q k a b (λ z. d (s.other_kinds q a c ∙ z)))
      ];
    }

pub named_inserted : (w : List ℕ) (r kind : ℕ) (ws : List ℕ) → used ≤ length w → r < most_regions → length ws ≡ 4
    → ((k : ℕ) → k < 4 → get_or ws k 0 < names_nothing) → NamedRewrites w → NamedRewrites (inserted w r kind ws)
named_inserted w r kind ws room h four below n =
    by_insertion w room r kind ws h four (λ z. NamedRewrites z) (λ z free s. named_entered w z r kind ws below n s) (λ taken. n)
