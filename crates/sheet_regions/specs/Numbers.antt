-- Numbers put from the back and counted.
use Rattle.std.specs.Prelude.{◌≡◌, List, ℕ, ◌+◌, length}
use Rattle.nesting.specs.Nesting.{plain}
use Rattle.sheet_words.specs.PutInFront.{Puts}
use Rattle.sheet_words.specs.Parts.{most}
use Rattle.sheet_regions.specs.declared.Counted.{Counted}

-- Numbers put, and counted with those before them.
pub record PutsNumbers (out : List ℕ) (x : Counted) (ns : List ℕ) (out' : List ℕ) (x' : Counted) : Type 0 where
  pub puts : Puts out x.at (plain ns) out' x'.at
  pub count : x'.count ≡ most (x.count + length ns)
