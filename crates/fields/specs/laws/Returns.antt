-- The first Return region, as the loop over the regions finds it.
use Rattle.std.specs.Prelude.{◌≡◌, true, false, List, ◌∷◌, ℕ, suc, ◌+◌, ◌≤◌, ◌<◌, length, get_or, drop}
use Rattle.std.proofs.Math.Path.{ap}
use Rattle.std.proofs.Common.{◌∙◌}
use native.Mathlib.Omega.{arith}
use Rattle.meaning.specs.Graph.{Region, nowhere}
use Rattle.meaning.specs.facts.Parts.{from_place, none_from}
use Rattle.format.specs.References.{is_return, first_return}

first_here : (x : Region) (xs : List Region) → is_return x.terminator ≡ true → first_return (x ∷ xs) ≡ 0
unfolding first_return
first_here x xs h = rw (h, first_return)

first_later : (x : Region) (xs : List Region) → is_return x.terminator ≡ false → first_return (x ∷ xs) ≡ suc (first_return xs)
unfolding first_return
first_later x xs h = rw (h, first_return)

module _ (rs : List Region) {n : ℕ} (size : n ≡ length rs) (q : ℕ) where
  pub return_here : q < n → is_return (get_or rs q nowhere).terminator ≡ true → q + first_return (drop q rs) ≡ first_return rs
      → q ≡ first_return rs
  return_here l h e = let here : first_return (drop q rs) ≡ 0 = ap first_return (from_place rs nowhere size q l) ∙ first_here _ _ h in
      omega arith

  pub return_later : q < n → is_return (get_or rs q nowhere).terminator ≡ false → q + first_return (drop q rs) ≡ first_return rs
      → q + 1 + first_return (drop (q + 1) rs) ≡ first_return rs
  return_later l h e =
      let later : first_return (drop q rs) ≡ suc (first_return (drop (q + 1) rs)) = ap first_return (from_place rs nowhere size q l)
      ∙ first_later _ _ h in omega arith

  pub no_return : n ≤ q → q + first_return (drop q rs) ≡ first_return rs → q ≡ first_return rs
  unfolding first_return
  no_return l e = let none : first_return (drop q rs) ≡ 0 = ap first_return (none_from rs nowhere size q l) in omega arith
