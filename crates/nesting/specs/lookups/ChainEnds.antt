-- The chains from the inputs of a region end: what that is, over the log of rewrites.
use Rattle.std.specs.Prelude.{◌≡◌, ℕ, get_or}
use Rattle.std.proofs.Math.Option.{Option, none, some}
use mathlib.Core.List.{List}
use Rattle.meaning.specs.Graph.{Value, const, input, instr, output, bool, undef, held, no_value}
use Rattle.nesting.specs.Nesting.{renumber_to, replace_by, RegionInputRewrites, replace_with, renumber_or_replace_with}
use Rattle.nesting.specs.Nesting.{RewriteEntry, rewrites_of}

-- the region whose input a value is, marked or not
abbrev pub names : Value → Option ℕ
names (input r k) = some r
names (held r k) = some r
names (const i) = none
names (instr r k) = none
names (output o) = none
names (bool b) = none
names (undef ty) = none
names no_value = none

-- the value that an entry puts in the place of input k; an input that it renumbers has none
abbrev pub RewritesTo : RegionInputRewrites → ℕ → Value → Type 0
RewritesTo (replace_with vs) k v = get_or vs k (undef 0) ≡ v
RewritesTo (renumber_or_replace_with xs) k v = get_or xs k (renumber_to k) ≡ replace_by v

abbrev pub Open : List RewriteEntry → ℕ → Type 0
Open es r = rewrites_of es r ≡ none

-- The chains from the inputs of region r end, past every mark: it has no entry, or all that its entry names has this.
pub data ChainsEnd (es : List RewriteEntry) : ℕ → Type 0 where
  no_more : {r : ℕ} → Open es r → ChainsEnd es r
  goes_on : {r : ℕ} (x : RegionInputRewrites) → rewrites_of es r ≡ some x
      → ((k : ℕ) (v : Value) (q : ℕ) → RewritesTo x k v → names v ≡ some q → ChainsEnd es q) → ChainsEnd es r
